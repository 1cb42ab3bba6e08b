pub use Rattle.kept_apart.specs as kept_apart
pub use Rattle.session_jobs.specs as session_jobs
pub mod Transactions
