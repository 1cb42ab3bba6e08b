pub use Rattle.session_measure.specs as session_measure
pub use Rattle.session_stands.specs as session_stands
pub use Rattle.session_limits.specs.session_states as session_states
pub mod Happenings
pub mod Nearer
pub mod Turns
pub mod Scenes
pub mod Stores
pub mod Leaving
pub mod Asking
pub mod Notices
pub mod Deaths
