pub mod Keyed
pub mod Standing
pub mod InTurn
pub mod Giving
pub mod Wide
pub mod Chosen
pub mod Losing
pub mod SameKeys
