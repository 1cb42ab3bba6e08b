pub use Rattle.stored_schema.specs as stored_schema
pub mod Sources
