pub use Rattle.disk_versions.specs as disk_versions
pub mod Slots
pub mod Tables
pub mod Wanting
