pub mod Learnt
pub mod Taken
pub mod Sifted
