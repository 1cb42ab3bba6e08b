pub use Rattle.index_node.specs as index_node
pub use Rattle.line_view.specs as line_view
pub use Rattle.index_node.specs.record_format as record_format
pub mod Stop
pub mod Keys
pub mod Tree
pub mod Search
pub mod Nodes
pub mod Changes
pub mod Insertion
pub mod Inner
