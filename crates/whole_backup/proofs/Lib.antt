pub mod Unused
pub mod Early
pub mod Advances
pub mod Started
pub mod Copies
pub mod Moments
pub mod Run
pub mod Opening
