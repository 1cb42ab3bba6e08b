pub mod Listed
pub mod Keys
pub mod Entries
pub mod Nodes
pub mod Walks
