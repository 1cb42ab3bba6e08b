pub use Rattle.member_steps.specs as member_steps
pub mod Shows
pub mod Rooms
