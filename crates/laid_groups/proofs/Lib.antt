pub mod Behind
pub mod Running
pub mod Slots
pub mod Stepping
pub mod Once
pub mod Walking
pub mod Faults
