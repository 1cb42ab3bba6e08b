pub use Rattle.page_table.specs as page_table
pub mod Tables
