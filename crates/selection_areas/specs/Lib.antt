pub use Rattle.statement_sources.specs as statement_sources
pub use Rattle.statement_sources.specs.stored_schema as stored_schema
pub mod Areas
