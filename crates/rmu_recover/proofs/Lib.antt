pub mod Following
pub mod Walking
pub mod Ended
pub mod Course
pub mod Faults
pub mod Roots
pub mod GroupsFit
