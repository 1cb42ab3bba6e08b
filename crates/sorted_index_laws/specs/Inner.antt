-- What holds within the calls on an index, at their single steps. No public clause cites these.
pub mod Steps
pub mod Removal
pub mod Growth
