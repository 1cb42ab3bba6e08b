pub use Rattle.line_history.specs as line_history
pub use Rattle.lock_ties.specs as lock_ties
pub use Rattle.line_history.specs.session_jobs as session_jobs
pub mod Members
pub mod Right
pub mod Steps
pub mod Images
