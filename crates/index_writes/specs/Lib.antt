pub mod Reading
pub mod Filling
pub mod Definition
pub mod Areas
