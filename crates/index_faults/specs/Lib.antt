pub mod Walks
pub mod Contents
