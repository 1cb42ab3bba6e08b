pub mod Before
pub mod Open
