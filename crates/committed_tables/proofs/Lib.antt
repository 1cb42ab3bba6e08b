pub use Rattle.page_table.proofs as of_page_table
pub mod Following
pub mod Finding
pub mod AtOpening
pub mod EverUsed
