pub use Rattle.rdb_types.specs as rdb_types
pub mod Place
