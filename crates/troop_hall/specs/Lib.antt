pub mod Seats
pub mod Knowledge
