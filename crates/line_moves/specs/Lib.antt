pub use Rattle.line_store.specs.area_files as area_files
pub use Rattle.line_store.specs as line_store
pub use Rattle.stable_lines.specs.new_database as new_database
pub use Rattle.stable_lines.specs.ruj_journal as ruj_journal
pub use Rattle.stable_lines.specs as stable_lines
pub mod Calls
pub mod Contents
pub mod Changes
pub mod Lines
pub mod Classes
