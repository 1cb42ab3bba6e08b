pub use Rattle.committed_lines.proofs as of_committed_lines
pub use Rattle.committed_lines.proofs.of_member_steps as of_member_steps
pub mod Own
pub mod Gathered
