pub use Rattle.partial_backup.specs as partial_backup
pub mod Areas
pub mod Next
