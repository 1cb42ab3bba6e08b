pub mod Seated
pub mod Backed
pub mod Sessions
