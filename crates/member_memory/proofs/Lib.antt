pub mod Counting
pub mod Growing
pub mod Adding
pub mod Rewriting
pub mod Laying
