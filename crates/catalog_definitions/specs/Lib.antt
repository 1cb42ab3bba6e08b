pub mod Causes
pub mod Written
pub mod Leaving
