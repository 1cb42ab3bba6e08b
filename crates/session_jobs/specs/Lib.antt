pub mod Records
pub mod Asked
pub mod Jobs
pub mod Kept
