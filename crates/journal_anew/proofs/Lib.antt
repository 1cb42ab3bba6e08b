pub mod Begun
pub mod Used
