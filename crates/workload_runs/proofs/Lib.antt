mod Among
mod Chain
pub mod Crash
mod Deaths
mod Ended
pub mod Faultless
mod Left
mod Numbers
pub mod Opening
mod Outcomes
mod Plain
pub mod Reporting
mod Stopless
pub mod Stops
mod Tallies
