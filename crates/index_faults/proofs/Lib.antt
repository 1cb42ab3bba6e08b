pub mod Reached
pub mod Bounds
pub mod Passing
pub mod Walked
pub mod Lists
pub mod Rows
