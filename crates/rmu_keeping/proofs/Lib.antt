pub mod Causes
pub mod Opened
pub mod Rolled
pub mod Sources
