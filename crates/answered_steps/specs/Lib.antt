pub use Rattle.job_steps.specs.session_measure as session_measure
pub use Rattle.job_steps.specs.stage_steps as stage_steps
pub mod Absences
