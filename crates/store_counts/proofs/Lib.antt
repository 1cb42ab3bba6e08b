pub mod Filters
pub mod Sums
pub mod Lines
pub mod Places
pub mod Kept
pub mod Limits
pub mod Rooms
