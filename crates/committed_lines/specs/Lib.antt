pub use Rattle.member_steps.specs.disk_seats as disk_seats
pub mod Seen
