pub mod Acting
pub mod Answers
pub mod Assigning
pub mod Statements
pub mod Variables
