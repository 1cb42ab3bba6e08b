pub mod Keys
pub mod Repeats
pub mod Read
pub mod Filled
pub mod Refusals
pub mod Defined
pub mod Kept
