pub mod Behind
pub mod NewLine
pub mod Filling
pub mod GoneIndexes
pub mod NewRelation
pub mod GoneRelation
