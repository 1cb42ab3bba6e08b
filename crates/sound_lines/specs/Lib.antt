pub use Rattle.catalog.specs as catalog
pub use Rattle.relation_rows.specs as relation_rows
pub mod Gathered
pub mod Contents
pub mod Sound
pub mod Reading
pub mod Worked
