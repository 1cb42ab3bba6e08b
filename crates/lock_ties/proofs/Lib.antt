pub mod Places
pub mod Asks
pub mod Single
pub mod Parted
pub mod Causes
pub mod Trails
pub mod Answers
pub mod Got
