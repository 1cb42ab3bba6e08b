pub use Rattle.gathering_steps.proofs.of_session_measure as of_session_measure
pub use Rattle.gathering_steps.proofs.of_session_stands as of_session_stands
pub use Rattle.gathering_steps.proofs.of_session_states as of_session_states
pub use Rattle.gathering_steps.proofs.of_stage_steps as of_stage_steps
pub mod Kept
