pub mod Chain
pub mod Composition
pub mod Merge
pub mod Progress
pub mod Rest
pub mod Step
pub mod Transform
pub mod Walk
