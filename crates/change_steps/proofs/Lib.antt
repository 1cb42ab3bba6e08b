pub use Rattle.disk_store.proofs as of_disk_store
mod LeftTo
mod SnapWritten
mod Breaking
mod JournalSteps
mod WaitMore
mod PushSteps
mod PushFaults
mod ChangeCalls
mod NextPushed
mod ChangeEnds
