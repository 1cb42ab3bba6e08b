pub mod Fewness
pub mod Growing
