pub mod Knowledge
pub mod Held
pub mod Writes
pub mod Stops
