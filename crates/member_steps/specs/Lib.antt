pub use Rattle.disk_seats.specs as disk_seats
pub mod Turns
pub mod Journalling
pub mod Beginning
pub mod Standing
