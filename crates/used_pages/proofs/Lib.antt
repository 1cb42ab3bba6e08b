pub mod Oks
pub mod Sets
pub mod Used
