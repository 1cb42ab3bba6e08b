pub mod Boards
pub mod Steps
pub mod Orders
pub mod Turns
pub mod Bells
