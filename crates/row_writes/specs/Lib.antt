pub use Rattle.sound_changes.specs as sound_changes
pub use Rattle.sound_changes.specs.sound_lines as sound_lines
pub mod Stop
pub mod Target
pub mod Pairs
pub mod Changes
pub mod Rows
pub mod Areas
