pub use Rattle.seen_lines.specs.committed_lines as committed_lines
pub use Rattle.version_writing.specs as version_writing
pub use Rattle.seen_lines.specs as seen_lines
pub mod Readers
