pub use Rattle.stable_lines.proofs.of_ruj_journal as of_ruj_journal
pub use Rattle.stable_lines.proofs as of_stable_lines
pub mod Runs
pub mod KeyPlaces
pub mod PageWrite
pub mod LinePut
pub mod Reading
pub mod Putting
pub mod Spots
pub mod Placed
pub mod SurePages
pub mod FilledPages
pub mod FirstLines
pub mod Undoes
pub mod Bearing
pub mod Commits
pub mod EveryMoment
pub mod Entering
pub mod Journalled
pub mod OnlyPut
pub mod PageClasses
