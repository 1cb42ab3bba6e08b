-- What holds within the calls of the tree, at their single steps. No public clause cites these.
pub mod Spare
pub mod Lowering
pub mod Releasing
pub mod Answering
