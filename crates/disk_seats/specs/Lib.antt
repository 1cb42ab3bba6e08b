pub use Rattle.line_opening.specs.line_moves as line_moves
pub use Rattle.line_opening.specs as line_opening
pub use Rattle.line_seat.specs as line_seat
pub use Rattle.line_opening.specs.stable_lines as stable_lines
pub mod Ledgers
pub mod Members
