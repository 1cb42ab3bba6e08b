pub mod Ranges
pub mod Served
