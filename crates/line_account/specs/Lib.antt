pub use Rattle.stage_steps.specs.session_stands as session_stands
pub use Rattle.stage_steps.specs as stage_steps
