pub use Rattle.disk_seats.proofs as of_disk_seats
pub mod Standings
pub mod Restanding
pub mod MembersEnd
pub mod LinesJoin
pub mod Written
