pub use Rattle.answered_steps.proofs as of_answered_steps
pub use Rattle.line_arms.proofs as of_line_arms
pub mod Absent
pub mod Places
