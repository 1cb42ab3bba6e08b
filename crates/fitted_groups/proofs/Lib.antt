pub use Rattle.laid_groups.proofs as of_laid_groups
pub mod Meeting
pub mod Firsts
pub mod Claiming
pub mod Looking
pub mod Fits
