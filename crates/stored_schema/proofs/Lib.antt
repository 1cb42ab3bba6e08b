pub mod Entries
pub mod Gathered
pub mod OneArea
pub mod InTables
pub mod Written
