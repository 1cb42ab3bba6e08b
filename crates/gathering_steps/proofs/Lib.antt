pub use Rattle.stage_steps.proofs.of_session_limits as of_session_limits
pub use Rattle.stage_steps.proofs.of_session_measure as of_session_measure
pub use Rattle.stage_steps.proofs.of_session_stands as of_session_stands
pub use Rattle.stage_steps.proofs.of_session_states as of_session_states
pub use Rattle.stage_steps.proofs as of_stage_steps
pub mod Gathered
pub mod Seats
pub mod Nearer
