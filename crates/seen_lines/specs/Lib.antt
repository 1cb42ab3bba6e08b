pub use Rattle.committed_lines.specs as committed_lines
pub use Rattle.committed_tables.specs as committed_tables
pub use Rattle.committed_lines.specs.disk_seats as disk_seats
pub use Rattle.committed_tables.specs.page_table as page_table
pub mod Seen
