pub use Rattle.rdb_types.specs as rdb_types
pub use Rattle.vms_queues.specs as vms_queues
pub mod Nodes
pub mod Needs
pub mod Keeping
pub mod Party
pub mod Index
pub mod Wants
pub mod Waits
