pub mod Entries
pub mod IfOk
