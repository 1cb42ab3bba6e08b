pub use Rattle.journal_reading.specs.aij_journal as aij_journal
pub use Rattle.journal_reading.specs as journal_reading
pub use Rattle.journal_reading.specs.journal_scan as journal_scan
pub mod Groups
pub mod Passing
