pub use Rattle.stored_schema.proofs as of_stored_schema
pub mod Positions
pub mod Read
pub mod SourcesRead
