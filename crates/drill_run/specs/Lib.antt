pub mod Script
pub mod Drilling
pub mod Draining
pub mod Summary
pub mod Drills
pub mod OpenWorlds
