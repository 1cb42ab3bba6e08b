pub mod Serving
pub mod Nearest
pub mod Limits
pub mod Equated
pub mod Choice
pub mod Reached
