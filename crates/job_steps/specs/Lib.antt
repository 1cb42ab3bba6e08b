pub use Rattle.gathering_steps.specs.session_measure as session_measure
pub use Rattle.gathering_steps.specs.session_stands as session_stands
pub use Rattle.gathering_steps.specs.session_states as session_states
pub use Rattle.gathering_steps.specs.stage_steps as stage_steps
pub mod Reserved
