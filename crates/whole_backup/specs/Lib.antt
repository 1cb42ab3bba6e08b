pub mod Making
pub mod BackedUp
