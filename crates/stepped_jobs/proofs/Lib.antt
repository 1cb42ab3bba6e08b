pub use Rattle.kept_apart.proofs as of_kept_apart
pub mod Following
pub mod Guarding
pub mod Growing
