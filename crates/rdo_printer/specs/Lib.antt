pub mod Words
pub mod Trees
pub mod Commands
pub mod Printable
pub mod Law
