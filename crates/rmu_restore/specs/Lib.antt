pub mod Laying
pub mod Restored
