pub mod Before
pub mod Clear
pub mod Housed
pub mod Lodged
