pub mod Partial
pub mod Left
