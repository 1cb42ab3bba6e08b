pub mod Sets
pub mod Sorted
pub mod Lines
pub mod ReadSoFar
