pub mod Directory
pub mod Schema
pub mod Reading
pub mod Differences
pub mod Deletions
