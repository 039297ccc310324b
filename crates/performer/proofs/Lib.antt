pub mod IsRising
pub mod OpeningFails
pub mod Picked
pub mod TookAll
pub mod Shares
