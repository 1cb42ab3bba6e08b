pub mod Versions
pub mod Courses
