pub mod Lines
pub mod Memory
pub mod Counts
pub mod Driving
pub mod Down
pub mod Up
pub mod Commands
pub mod Ending
