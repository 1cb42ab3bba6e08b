pub use Rattle.slot_fields.proofs as of_slot_fields
pub mod States
pub mod Places
pub mod Readings
mod Checking
mod Staying
