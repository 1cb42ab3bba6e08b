pub mod Added
pub mod Ahead
