pub use Rattle.record_format.specs as record_format
pub mod Order
pub mod Node
pub mod OrderLaws
