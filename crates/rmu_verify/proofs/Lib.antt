pub mod Covering
pub mod Found
pub mod IndexLines
pub mod Owning
pub mod Soundness
pub mod StrayLines
