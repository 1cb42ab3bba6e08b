pub use Rattle.line_history.proofs as of_line_history
pub use Rattle.lock_ties.proofs as of_lock_ties
pub mod Frame
pub mod Common
pub mod Kept
pub mod Taking
pub mod Saying
pub mod Wants
pub mod Starting
pub mod Outside
pub mod Ending
pub mod Reading
pub mod Dying
pub mod Crashes
