pub mod Begun
pub mod FailedSeats
pub mod InTurn
pub mod Causes
