use Rattle.std.specs.Prelude.{ℕ, ◌+◌, ◌<◌, ◌≡◌, length, slice_index}
use Rattle.snapshot_file.proofs.free.ascending.Given as goal

abbrev pub invariant-loop-i : goal.invariant-loop-i
invariant-loop-i l = (length l.numbers.items ≡ l.i) × ((k : ℕ) → k < l.i → slice_index l.numbers.items k ≡ k + 1)
