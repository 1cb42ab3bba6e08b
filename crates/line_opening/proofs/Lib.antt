pub use Rattle.line_moves.proofs as of_line_moves
pub use Rattle.line_moves.proofs.of_stable_lines as of_stable_lines
pub mod Backwards
pub mod Closed
pub mod Counted
pub mod Passed
pub mod Reading
pub mod Standing
