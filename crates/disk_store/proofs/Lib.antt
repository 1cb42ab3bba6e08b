pub use Rattle.ledger_versions.proofs as of_ledger_versions
pub mod Members
pub mod OwnFiles
pub mod AtMost
pub mod Sound
pub mod Readers
pub mod NoBackups
pub mod Moving
pub mod Stages
pub mod Beside
pub mod Stepping
pub mod Aside
pub mod Written
pub mod JournalRoom
pub mod Passing
pub mod Failing
pub mod Closing
pub mod Drawing
pub mod Finding
pub mod EndingOpen
pub mod Agreeing
pub mod Restored
pub mod Journalled
pub mod Kept
pub mod Reading
pub mod FoundLines
pub mod LaidLines
pub mod SlotsSound
mod Enough
pub mod Changed
pub mod Stopping
pub mod SpentSlots
pub mod Going
mod Begun
mod Seeing
mod EndedReading
pub mod Tabled
mod Taking
pub mod Raising
mod FewSteps
mod Classed
pub mod Judged
pub mod FirstSound
pub mod Ordered
pub mod LinesPut
pub mod EverUsed
pub mod Growing
pub mod Unused
pub mod Landed
pub mod CommitsKept
pub mod Ready
pub mod DeadStages
