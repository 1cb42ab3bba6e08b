pub use Rattle.schema_writes.specs as schema_writes
