pub mod Decoding
pub mod Progress
pub mod OneRow
pub mod Lengths
