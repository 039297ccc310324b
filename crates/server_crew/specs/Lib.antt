pub mod Shifts
pub mod Workers
pub mod Accepting
pub mod Crews
pub mod Ready
