pub use Rattle.opened_store.specs as opened_store
pub use Rattle.line_drive.specs.line_cluster as line_cluster
pub use Rattle.line_drive.specs as line_drive
pub mod Backups
pub mod Openings
pub mod Prefix
