pub mod AreTidy
pub mod JoinGain
pub mod JoinedRuns
pub mod LastRun
pub mod RunsOf
pub mod WrittenMarks
