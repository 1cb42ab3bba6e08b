-- What holds within the calls of the tree, at their single steps. No public clause cites these.
pub mod Looking
pub mod Stepping
pub mod Rooms
