pub mod Gapped
