pub use Rattle.new_database.specs.aij_journal as aij_journal
pub use Rattle.journal_reading.specs.journal_scan as journal_scan
pub use Rattle.line_versions.specs as line_versions
pub use Rattle.new_database.specs as new_database
pub use Rattle.new_database.specs.root_file as root_file
pub use Rattle.ruj_journal.specs as ruj_journal
pub use Rattle.space_pages.specs as space_pages
pub mod Slots
pub mod Journal
pub mod Image
pub mod Kept
pub mod Progress
pub mod Facts
pub mod Steps
pub mod Opening
pub mod Written
pub mod History
pub mod Rolling
