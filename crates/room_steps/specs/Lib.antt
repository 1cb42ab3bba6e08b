pub use Rattle.gathering_steps.specs as gathering_steps
pub mod Naming
pub mod Lodgings
