pub use Rattle.partial_backup.proofs as of_partial_backup
pub mod Leading
