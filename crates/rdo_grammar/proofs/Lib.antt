pub mod AheadLaws
pub mod TakesLaws
pub mod GrammarLaws
