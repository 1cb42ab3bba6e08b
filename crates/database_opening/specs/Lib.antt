pub use Rattle.line_opening.specs.line_moves as line_moves
pub use Rattle.line_opening.specs.stable_lines as stable_lines
pub mod Others
pub mod Owners
pub mod Reading
pub mod Stages
pub mod Start
pub mod Untouched
