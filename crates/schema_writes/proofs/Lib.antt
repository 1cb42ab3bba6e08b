pub use Rattle.sound_statements.proofs as of_sound_statements
pub mod Alike
pub mod Made
pub mod Nodes
pub mod Gone
pub mod Kept
