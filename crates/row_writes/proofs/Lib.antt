pub use Rattle.sound_changes.proofs as of_sound_changes
pub mod Stopping
pub mod Trees
pub mod Steps
pub mod InTurn
pub mod Lines
pub mod AreaLists
pub mod NodesRead
pub mod IndexKept
pub mod RowKept
pub mod Shown
