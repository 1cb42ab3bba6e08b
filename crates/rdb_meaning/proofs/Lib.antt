mod More
pub mod Refusals
mod Rows
pub mod Spelled
pub mod Unchanged
mod WorkedTies
