pub use Rattle.rdo_exec.specs as rdo_exec
pub mod Part
pub mod Shown
