pub mod Usable
pub mod Written
