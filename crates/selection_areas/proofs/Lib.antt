pub use Rattle.statement_sources.proofs as of_statement_sources
pub mod OneReading
pub mod Used
pub mod Placed
