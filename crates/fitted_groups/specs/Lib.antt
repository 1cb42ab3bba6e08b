pub use Rattle.laid_groups.specs as laid_groups
pub mod Meeting
pub mod Claims
