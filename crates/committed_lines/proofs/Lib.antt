pub use Rattle.member_steps.proofs as of_member_steps
pub mod Nowhere
pub mod Bearing
