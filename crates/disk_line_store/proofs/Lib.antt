pub use Rattle.store_copies.proofs as of_store_copies
mod Calls
