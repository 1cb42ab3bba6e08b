-- A transaction whose pages weren't written is undone as it is.
use Rattle.std.proofs.Common.{◌≡◌, ℕ, ◌≤◌, ◌<◌, List, [], Some, slice_get, ap, sym, ◌∙◌, arith}
use Rattle.rdb_outside.specs.Disk.{View, Pending}
use Rattle.line_moves.specs.stable_lines.Slots.{Undo}
use Rattle.line_moves.specs.stable_lines.Progress.{Open, Progress, without}
use Rattle.line_moves.specs.stable_lines.Facts.{Facts}
use Rattle.line_moves.proofs.of_stable_lines.Ending.{undone, no_line_bears}
use Rattle.line_seat.specs.Seats.{SeatFacts}

no_such : (o : Open) → o.entries ≡ [] → (i : ℕ) (undo : Undo) → slice_get o.entries i ≡ Some undo → ⊥
no_such o none i undo got = nothing i (ap (λ (l : List Undo). slice_get l i) (sym none) ∙ got)
  where
    nothing : (i : ℕ) → slice_get [] i ≡ Some undo → ⊥
    nothing i is = cc

pub is_undone : (v : View) (now : Progress) (member : ℕ) (o : Open) (all : List Undo) (n : ℕ) → Facts (Pending v) now → SeatFacts v now member o all n → Facts (Pending v) (without member now)
is_undone v now member o all n was holds = undone (Pending v) now member o holds.is_open
    (no_line_bears (Pending v) now member o holds.is_open was (λ i undo x got p. absurd (no_such o holds.none_stands i undo got))) holds.not_flying was

pub drawn : (v : View) (now : Progress) (member : ℕ) (o : Open) (all : List Undo) (n : ℕ) → Facts (Pending v) now → SeatFacts v now member o all n → 1 ≤ now.next_tsn
drawn v now member o all n was holds = let less : o.tsn.number < now.next_tsn = was.below.going member o holds.is_open in omega (arith, less)
