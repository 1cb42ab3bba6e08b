pub mod Actions
pub mod Checked
pub mod Locating
pub mod Lists
pub mod Variables
