pub mod Memory
pub mod Stood
pub mod Shown
