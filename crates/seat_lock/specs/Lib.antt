pub mod Lists
pub mod Turns
pub mod Told
pub mod Sized
pub mod Calls
pub mod Settled
pub mod Values
