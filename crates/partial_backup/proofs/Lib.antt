pub mod Reaching
pub mod Copies
pub mod Standing
pub mod Turns
