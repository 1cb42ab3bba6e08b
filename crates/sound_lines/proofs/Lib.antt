pub use Rattle.catalog.proofs as of_catalog
pub mod Gathering
pub mod RowsRead
pub mod RelationsRead
pub mod OneTables
pub mod BadRows
pub mod Empty
pub mod Worked
pub mod LaidRows
pub mod Longest
