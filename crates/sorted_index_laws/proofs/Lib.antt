pub use Rattle.line_view.proofs as of_line_view
pub use Rattle.index_node.proofs.of_record_format as of_record_format
pub mod Intervals
pub mod Children
pub mod Walk
pub mod Judged
pub mod Below
pub mod Whole
pub mod Ordered
pub mod OneTree
pub mod Frame
mod Examples
pub mod Lines
pub mod Without
pub mod Filled
pub mod Removed
pub mod Erased
pub mod After
pub mod PlacesIn
pub mod Laid
pub mod Chosen
pub mod TakenOut
pub mod Put
pub mod Apart
pub mod Exchange
pub mod Halves
pub mod Between
pub mod Fits
pub mod Cutting
pub mod Growing
pub mod FirstChild
pub mod Rooted
pub mod OnTheWay
