pub mod Unreserved
pub mod Reserving
