use Rattle.std.proofs.Common.{◌≡◌, ◌≤◌, ◌<◌, ◌==◌, ℕ, false, None}
use Rattle.line_store.specs.Seats.{in_flight}
use Rattle.store_desk.specs.Places.{seat_in, place_of}
use Rattle.store_desk.proofs.desk.Desk.is_alone.Given as goal

abbrev pub invariant-loop-t : goal.invariant-loop-t
invariant-loop-t g l = (u : ℕ) → 1 ≤ u → u < l.t → (u == l.s.number) ≡ false → in_flight (seat_in (place_of l.self.places u)) ≡ None
