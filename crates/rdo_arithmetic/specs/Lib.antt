pub mod Answers
pub mod Reducing
pub mod RowLaws
