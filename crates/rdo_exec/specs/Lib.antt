pub use Rattle.rdo_acts.specs as rdo_acts
pub mod Answers
pub mod Ways
pub mod Left
pub mod Coming
pub mod Lasting
pub mod Acted
pub mod Defined
pub mod Areas
pub mod Needed
