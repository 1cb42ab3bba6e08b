pub mod Journals
pub mod HalfLaid
