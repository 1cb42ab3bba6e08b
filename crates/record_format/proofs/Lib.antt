pub use Rattle.slot_fields.proofs as of_slot_fields
pub mod Parts
pub mod Laying
pub mod Images
pub mod Lists
pub mod Values
pub mod Rows
