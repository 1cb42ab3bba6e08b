pub use Rattle.committed_tables.proofs as of_committed_tables
pub use Rattle.store_shows.proofs.of_member_steps as of_member_steps
pub use Rattle.committed_tables.proofs.of_page_table as of_page_table
pub use Rattle.store_shows.proofs as of_store_shows
pub mod Seen
pub mod Found
