pub mod Drawing
pub mod Taking
pub mod Playing
pub mod Joins
pub mod Jams
