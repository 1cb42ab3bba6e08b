pub use Rattle.line_opening.proofs.of_line_moves as of_line_moves
pub use Rattle.line_opening.proofs as of_line_opening
pub use Rattle.line_opening.proofs.of_stable_lines as of_stable_lines
pub mod Going
pub mod Counts
pub mod Begun
pub mod Undone
pub mod Restored
pub mod Closed
pub mod PageOwners
pub mod Nearer
pub mod EachMoment
pub mod Pages
pub mod Others
