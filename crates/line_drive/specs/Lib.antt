pub use Rattle.line_cluster.specs as line_cluster
pub mod Boards
pub mod Turns
