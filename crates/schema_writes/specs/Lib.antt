pub mod Stop
pub mod Definitions
pub mod Deletions
pub mod Areas
