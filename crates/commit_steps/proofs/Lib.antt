pub mod Planning
pub mod Turning
pub mod TurnCases
pub mod CommitGoes
pub mod CommitLands
pub mod CommitNone
