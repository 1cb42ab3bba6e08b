pub use Rattle.database_opening.proofs.of_line_moves as of_line_moves
pub mod Orders
pub mod Fitting
pub mod Said
pub mod Filling
pub mod Present
pub mod KeptAnew
