pub use Rattle.store_copies.specs as store_copies
pub mod Back
