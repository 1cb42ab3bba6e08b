pub use Rattle.sorted_index_laws.specs as sorted_index_laws
pub mod Stored
pub mod Relations
pub mod Indexed
