pub mod Standings
pub mod Ways
pub mod Sound
