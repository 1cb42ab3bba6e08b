pub mod Places
pub mod Statements
pub mod Script
pub mod Reader
pub mod Ahead
