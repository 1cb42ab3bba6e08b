pub mod Awaited
pub mod Settling
pub mod Saved
