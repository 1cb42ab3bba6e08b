pub mod Falling
pub mod Nearer
pub mod Wanted
pub mod Queued
pub mod AllNearer
pub mod Whole
