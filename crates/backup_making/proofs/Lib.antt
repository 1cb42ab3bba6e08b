pub mod Moves
pub mod Stages
