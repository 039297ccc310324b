pub mod Pipes
pub mod Scripts
pub mod HatchInvariant
