pub mod Pairs
pub mod Steps
pub mod SteadyGrammar
pub mod SteadyStatements
