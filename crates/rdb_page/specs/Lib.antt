pub use Rattle.rdb_types.specs as rdb_types
pub use Rattle.slot_fields.specs as slot_fields
pub mod Lines
pub mod Page
pub mod Whole
