pub mod Simulated
pub mod PassedSlots
