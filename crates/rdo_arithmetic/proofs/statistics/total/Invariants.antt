use Rattle.std.proofs.Common.{◌≡◌, ◌≤◌, ◌*◌, ◌^◌, ◌+ℤ◌, drop, unsigned_abs}
use Rattle.rdb_meaning.specs.Evaluation.{sum_of}
use Rattle.rdo_arithmetic.proofs.statistics.total.Given as goal

abbrev pub invariant-loop-value : goal.invariant-loop-value
invariant-loop-value l = record {
  whole : sum_of l.values ≡ l.sum +ℤ sum_of (drop l.value-index l.values);
  small : unsigned_abs l.sum ≤ l.value-index * 2 ^ 63;
}
