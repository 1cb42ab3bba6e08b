pub use Rattle.reader_lines.proofs as of_reader_lines
pub mod Runs
pub mod Reading
pub mod Counting
pub mod Falling
