pub mod CommandEnd
pub mod HasBraceLine
pub mod IsCommand
