pub mod Entries
pub mod Steps
pub mod FullMap
pub mod Agreements
pub mod Written
