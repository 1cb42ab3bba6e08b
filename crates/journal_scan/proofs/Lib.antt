pub use Rattle.aij_journal.proofs.of_slot_fields as of_slot_fields
pub mod Steps
pub mod Stands
pub mod Written
pub mod Found
pub mod Groups
pub mod Examples
