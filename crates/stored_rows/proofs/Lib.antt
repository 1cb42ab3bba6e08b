pub mod Sizes
pub mod OneKey
