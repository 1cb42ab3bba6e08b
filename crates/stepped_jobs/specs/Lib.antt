pub use Rattle.kept_apart.specs as kept_apart
pub mod Needs
pub mod More
pub mod Applying
