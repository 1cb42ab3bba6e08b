pub mod Seats
pub mod Groups
pub mod Stages
