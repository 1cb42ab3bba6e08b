pub mod Files
pub mod Ledgers
pub mod Shelves
pub mod Readers
