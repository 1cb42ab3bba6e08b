pub use Rattle.line_opening.proofs.of_line_moves as of_line_moves
pub use Rattle.line_opening.proofs as of_line_opening
pub use Rattle.line_seat.proofs as of_line_seat
pub use Rattle.line_opening.proofs.of_stable_lines as of_stable_lines
pub mod Standings
pub mod Progresses
pub mod OthersStay
pub mod Assembled
pub mod Settled
pub mod OwnSeat
pub mod MemberCalls
pub mod CommitGoesOn
pub mod MembersGoOn
pub mod Begins
pub mod EndsUndone
pub mod TakenUp
pub mod HeldUp
pub mod CommitTurns
pub mod Rooted
pub mod Entered
pub mod Marked
pub mod UndoneTurns
pub mod GivenUp
