pub mod Following
pub mod HalfLaid
pub mod Restored
