pub use Rattle.line_moves.specs as line_moves
pub use Rattle.line_moves.specs.stable_lines as stable_lines
pub mod Counting
pub mod Faults
pub mod Headers
pub mod Passing
pub mod Undoing
