pub use Rattle.rmu_verify.specs as rmu_verify
pub use Rattle.sound_lines.specs as sound_lines
pub mod Faultless
