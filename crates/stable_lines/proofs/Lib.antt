pub use Rattle.journal_reading.proofs.of_journal_scan as of_journal_scan
pub use Rattle.ruj_journal.proofs as of_ruj_journal
pub mod Lists
pub mod Fewer
pub mod Elsewhere
pub mod Headers
pub mod Never
pub mod SpaceWrite
pub mod JournalWrite
pub mod Turns
pub mod Saving
pub mod Ending
pub mod Opening
pub mod Fresh
pub mod Unique
pub mod Anew
pub mod Written
pub mod Read
pub mod Histories
pub mod Barrier
pub mod Rolls
pub mod Codecs
pub mod Laying
pub mod Groups
pub mod Stands
