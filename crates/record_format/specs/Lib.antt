pub use Rattle.rdb_types.specs as rdb_types
pub use Rattle.slot_fields.specs as slot_fields
pub mod Lists
pub mod Values
pub mod Rows
pub mod Dbkeys
