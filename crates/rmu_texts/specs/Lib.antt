pub mod Dump
pub mod Faults
pub mod Numbers
pub mod Page
