pub use Rattle.rdb_page.specs as rdb_page
pub mod Entry
pub mod Header
