pub mod Found
pub mod Catalog
pub mod Rows
