pub mod Values
pub mod Keys
pub mod Entries
pub mod Nodes
pub mod Wanted
