pub mod Stops
pub mod Unread
