pub mod Forward
pub mod Laid
pub mod Passing
