pub use Rattle.disk_store.proofs as of_disk_store
pub mod Free
pub mod Fresh
pub mod TakenPages
pub mod NeverUsed
pub mod First
pub mod Behind
pub mod InUse
pub mod Moments
mod Beside
pub mod ThreeTables
pub mod Snapless
