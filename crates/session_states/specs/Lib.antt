pub use Rattle.line_steps.specs as line_steps
pub use Rattle.store_counts.specs as store_counts
pub mod Locks
pub mod Turns
pub mod States
pub mod Shared
pub mod Fits
pub mod Steps
pub mod Kept
