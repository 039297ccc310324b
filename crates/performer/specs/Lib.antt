pub mod Ends
pub mod Joined
pub mod Opening
pub mod Performed
