pub use Rattle.backup_making.specs as backup_making
pub use Rattle.reader_lines.specs as reader_lines
pub use Rattle.next_lines.specs as next_lines
pub mod Beside
pub mod Copies
pub mod Steps
