pub mod Lines
pub mod Versions
pub mod Course
pub mod Files
pub mod Exact
