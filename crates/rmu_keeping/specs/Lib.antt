pub mod Keeping
pub mod Rolling
