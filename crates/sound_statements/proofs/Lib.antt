pub mod Common
pub mod Fields
pub mod Relations
pub mod Indexes
pub mod GoneIndexes
pub mod GoneRelations
