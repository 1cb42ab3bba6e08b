pub mod Quiet
pub mod Defined
mod Known
