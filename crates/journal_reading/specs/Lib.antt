pub use Rattle.journal_scan.specs.aij_journal as aij_journal
pub use Rattle.journal_scan.specs as journal_scan
pub use Rattle.rdb_outside.specs as rdb_outside
pub mod Journal
