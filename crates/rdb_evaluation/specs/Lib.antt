pub mod Answers
pub mod Crossing
pub mod Sorting
