pub mod LinesArePieces
mod HasNoFeed
pub mod IsLong
mod IsSound
mod Cuts
mod CountsFill
mod InReading
pub mod IsNextLine
pub mod HasRead
