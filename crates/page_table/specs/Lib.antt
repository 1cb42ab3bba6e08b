pub use Rattle.database_opening.specs.line_moves as line_moves
pub mod Pages
pub mod Scans
pub mod Lines
pub mod Reading
