pub mod Weights
pub mod Nearer
