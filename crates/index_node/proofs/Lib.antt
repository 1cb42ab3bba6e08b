pub use Rattle.record_format.proofs as of_record_format
pub mod Entries
pub mod Nodes
