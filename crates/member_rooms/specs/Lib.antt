pub use Rattle.committed_tables.specs as committed_tables
pub use Rattle.store_shows.specs.member_steps as member_steps
pub use Rattle.committed_tables.specs.page_table as page_table
pub use Rattle.store_shows.specs as store_shows
pub mod Rooms
pub mod Classes
