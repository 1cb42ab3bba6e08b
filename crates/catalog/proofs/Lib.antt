pub mod Fields
pub mod Agreements
pub mod Differences
