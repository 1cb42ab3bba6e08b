pub use Rattle.rdb_checks.specs as rdb_checks
pub use Rattle.rdb_checks.specs.rdb_meaning as rdb_meaning
pub mod Answers
pub mod NewIndex
