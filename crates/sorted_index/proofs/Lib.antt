pub mod Convex
pub mod Gone
