pub mod Dumpable
pub mod Dumped
