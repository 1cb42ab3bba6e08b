pub mod Draws
pub mod Report
pub mod Scripts
pub mod Texts
