pub mod Area
pub mod Left
pub mod View
