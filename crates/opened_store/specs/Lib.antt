pub use Rattle.database_opening.specs as database_opening
pub use Rattle.disk_store.specs as disk_store
pub mod Tables
pub mod Opened
