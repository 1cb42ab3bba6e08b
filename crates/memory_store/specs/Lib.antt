pub mod Copiers
pub mod Kept
pub mod Landed
