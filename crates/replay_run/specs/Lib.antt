pub mod Shown
pub mod Script
pub mod Ports
pub mod Outcome
pub mod Runs
pub mod Turns
pub mod Laws
