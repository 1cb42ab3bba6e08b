pub use Rattle.sound_lines.specs.catalog as catalog
pub use Rattle.sound_lines.specs as sound_lines
pub mod Standing
pub mod InTurn
