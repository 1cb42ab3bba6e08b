pub mod Chains
pub mod Reading
pub mod Filling
pub mod Tuples
pub mod Examples
pub mod ScaleChains
pub mod ScaleNames
