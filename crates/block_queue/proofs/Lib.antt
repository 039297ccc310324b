pub mod IsInOrder
