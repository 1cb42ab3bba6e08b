pub mod Notices
pub mod States
pub mod Sleeping
pub mod Inner
