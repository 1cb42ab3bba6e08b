pub use Rattle.schema_writes.proofs as of_schema_writes
pub use Rattle.schema_writes.proofs.of_sound_statements as of_sound_statements
pub mod Deleted
pub mod OwnRelation
