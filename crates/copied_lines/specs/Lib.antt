pub mod Holding
pub mod Copying
