pub mod Meeting
pub mod Forth
