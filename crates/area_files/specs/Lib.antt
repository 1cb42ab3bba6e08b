pub use Rattle.rdb_page.specs as rdb_page
pub use Rattle.rdb_page.specs.slot_fields as slot_fields
pub mod Areas
