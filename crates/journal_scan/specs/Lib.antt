pub use Rattle.aij_journal.specs as aij_journal
pub mod Whole
pub mod Reading
pub mod Standing
