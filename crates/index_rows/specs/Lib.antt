pub mod Indexed
pub mod Given
pub mod Reading
