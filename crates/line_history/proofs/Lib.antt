pub use Rattle.kept_apart.proofs as of_kept_apart
pub mod Transactions
pub mod Needs
pub mod Standings
