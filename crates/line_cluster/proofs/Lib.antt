pub use Rattle.lent_members.proofs.of_answered_steps as of_answered_steps
pub mod Faults
pub mod Silent
pub mod Counting
pub mod Backing
pub mod Stepping
pub mod Falling
pub mod Beginning
pub mod Places
pub mod Marks
pub mod Coming
pub mod Resting
pub mod Asleep
pub mod Measured
pub mod Bounds
pub mod Nearing
pub mod Room
pub mod Unbroken
