pub use Rattle.session_states.specs.line_steps as line_steps
pub use Rattle.session_states.specs as session_states
pub use Rattle.session_states.specs.store_counts as store_counts
pub mod Some
