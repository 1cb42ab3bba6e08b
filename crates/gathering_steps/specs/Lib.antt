pub use Rattle.stage_steps.specs.session_measure as session_measure
pub use Rattle.stage_steps.specs.session_stands as session_stands
pub use Rattle.stage_steps.specs.session_states as session_states
pub use Rattle.stage_steps.specs as stage_steps
pub mod Rounds
