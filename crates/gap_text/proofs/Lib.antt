pub mod SliceRange
