pub mod Indexes
pub mod Targets
