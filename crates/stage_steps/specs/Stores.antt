-- What a step of the store is that is told to be done.
use Rattle.std.specs.Prelude.{ℕ, Result, Ok, Err}
use Rattle.line_store.specs.declared.answers.Fault.{Fault}
use Rattle.line_store.specs.declared.answers.Progress.{Progress}
use Rattle.line_store.specs.declared.answers.Progress.TheVariants.{Done, More}
use Rattle.line_store.specs.Seats.{Seat, done_at}
use Rattle.line_store.specs.Shelves.{Shelf}
use Rattle.line_store.specs.Calls.{GoesOn, IsDone, Fails}
use Rattle.line_store.specs.Sights.{seat_or}

abbrev pub HasGoneOn : ℕ → Result Progress Fault → Shelf → Shelf → Type 0
HasGoneOn s (Ok Done) old new = IsDone s old new
HasGoneOn s (Ok More) old new = GoesOn s old new
HasGoneOn s (Err fault) old new = Fails s fault old new

-- where the session stands behind it
abbrev pub worked_to : Seat → Result Progress Fault → Seat
worked_to seat (Ok Done) = seat_or seat (done_at seat)
worked_to seat (Ok More) = seat
worked_to seat (Err fault) = seat
