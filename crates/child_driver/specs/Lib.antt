pub mod Lives
pub mod Feeding
pub mod Drivers
pub mod Steps
pub mod Openings
pub mod DriverInvariant
pub mod JournalInvariant
