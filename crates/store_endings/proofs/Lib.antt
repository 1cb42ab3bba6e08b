pub use Rattle.disk_store.proofs as of_disk_store
pub mod Deaths
pub mod PutBack
pub mod SlotsGiven
pub mod Tidied
