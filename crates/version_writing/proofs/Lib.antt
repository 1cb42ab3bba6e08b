pub use Rattle.disk_versions.proofs as of_disk_versions
pub mod Counted
pub mod Sifted
pub mod Written
pub mod Held
pub mod Freed
pub mod AllHeld
