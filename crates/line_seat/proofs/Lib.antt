pub mod SeatStays
pub mod NextEntry
pub mod Stable
pub mod Ends
pub mod GroupSlots
pub mod CommitSteps
pub mod StageStays
pub mod SeatGoesOn
mod RoomOnPages
