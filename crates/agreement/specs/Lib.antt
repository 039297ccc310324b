pub mod Agreement
pub mod Aligned
pub mod Stages
