pub mod Lists
pub mod Lengths
pub mod Along
pub mod Lacked
