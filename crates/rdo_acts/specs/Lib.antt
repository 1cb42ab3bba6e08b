pub use Rattle.selection_areas.specs.statement_sources as statement_sources
pub mod Unwritten
pub mod Scopes
pub mod Ends
pub mod Areas
pub mod Selections
pub mod Wanted
pub mod Stops
pub mod Printing
pub mod Ahead
pub mod Looking
pub mod Acted
pub mod Told
