pub mod Bytes
pub mod Copies
pub mod Deaths
pub mod Options
pub mod Orders
pub mod Words
