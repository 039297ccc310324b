pub mod IsShift
pub mod AreShifts
pub mod SameSeats
pub mod InTaking
pub mod Back
pub mod IsRun
