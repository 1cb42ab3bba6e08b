pub mod Walks
pub mod Table
pub mod Places
pub mod Search
pub mod Answers
