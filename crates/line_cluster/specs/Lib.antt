pub use Rattle.line_account.specs.stage_steps as stage_steps
pub use Rattle.lent_members.specs.line_arms as line_arms
pub use Rattle.lent_members.specs as lent_members
pub mod Deaths
pub mod Sound
pub mod Turned
pub mod Asleep
pub mod Measured
pub mod Behind
