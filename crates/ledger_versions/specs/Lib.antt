pub use Rattle.disk_seats.specs as disk_seats
pub use Rattle.disk_versions.specs as disk_versions
pub mod Readers
