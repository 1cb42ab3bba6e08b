pub mod Root
pub mod Member
