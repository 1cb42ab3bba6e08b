pub use Rattle.rdb_meaning.specs as rdb_meaning
pub mod Answers
pub mod Unreserved
