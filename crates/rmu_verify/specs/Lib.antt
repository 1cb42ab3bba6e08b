pub mod Added
pub mod Listing
pub mod Owners
pub mod Verified
