pub use Rattle.line_arms.specs as line_arms
pub mod Going
pub mod Whereabouts
