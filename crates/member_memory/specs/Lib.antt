pub mod Memory
pub mod Changes
