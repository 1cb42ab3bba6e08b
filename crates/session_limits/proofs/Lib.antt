pub use Rattle.session_states.proofs.of_line_steps as of_line_steps
pub use Rattle.session_states.proofs as of_session_states
pub use Rattle.session_states.proofs.of_store_counts as of_store_counts
pub mod Changing
pub mod Undone
pub mod AtLimits
pub mod AtOnce
