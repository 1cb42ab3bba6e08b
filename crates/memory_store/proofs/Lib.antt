pub mod Counted
mod Copied
pub mod Laying
pub mod Seating
pub mod Stepping
mod Sighted
