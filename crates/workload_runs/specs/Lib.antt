pub use Rattle.rmu_commands.specs as rmu_commands
pub use Rattle.line_runs.specs.line_cluster as line_cluster
pub use Rattle.line_runs.specs.line_drive as line_drive
pub use Rattle.line_runs.specs as line_runs
pub mod Among
pub mod Deaths
pub mod Left
pub mod Numbers
pub mod Reports
pub mod Runs
pub mod Scripts
pub mod Statuses
