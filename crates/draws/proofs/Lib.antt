mod ThreeParts
mod DrawnEdit
mod EditOf
