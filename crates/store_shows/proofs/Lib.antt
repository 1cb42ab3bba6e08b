pub use Rattle.member_steps.proofs as of_member_steps
pub mod Standing
pub mod Taken
