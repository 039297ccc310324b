pub mod Authorship
pub mod GapRuns
pub mod Runs
