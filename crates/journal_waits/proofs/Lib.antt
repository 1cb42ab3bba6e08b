pub mod Places
pub mod Chains
pub mod Notices
pub mod Askings
