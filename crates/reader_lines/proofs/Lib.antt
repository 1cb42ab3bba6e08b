pub use Rattle.seen_lines.proofs.of_committed_lines as of_committed_lines
pub use Rattle.version_writing.proofs as of_version_writing
pub use Rattle.seen_lines.proofs as of_seen_lines
pub mod Still
pub mod Unseen
