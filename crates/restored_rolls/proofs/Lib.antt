pub mod Slots
pub mod Sound
pub mod Source
pub mod Following
