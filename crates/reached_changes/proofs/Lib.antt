pub mod Free
pub mod Runs
pub mod Changes
