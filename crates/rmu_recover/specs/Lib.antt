pub mod Journals
pub mod Recovering
pub mod Faults
