pub mod More
pub mod Same
