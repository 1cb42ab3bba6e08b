pub mod Indexes
pub mod Causes
pub mod Rooms
pub mod Stages
pub mod Answers
pub mod Undoing
pub mod Writing
pub mod Redefining
