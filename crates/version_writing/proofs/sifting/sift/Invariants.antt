use Rattle.std.proofs.Common.{◌-◌, ◌≡◌, ◌≤◌, ◌<◌, ℕ}
use Rattle.std.specs.Prelude.{slice_index}
use Rattle.version_writing.specs.Slots.{IsTable, pusher_at}
use Rattle.version_writing.specs.Wanting.{AreTaken, IsUnwantedIn, OnlyGives, with_pushers}
use Rattle.version_writing.proofs.sifting.sift.Given as goal

abbrev pub invariant-sift : goal.invariant-sift
invariant-sift g l = record {
  within : l.place ≤ l.left;
  table : IsTable l.stock.slots l.pushers;
  taken : AreTaken l.stock.slots l.taken l.left;
  may : OnlyGives (IsUnwantedIn g.T.MayWant.unwanted l.members) (with_pushers l.fn.stock l.fn.pushers) (with_pushers l.stock l.pushers);
  wanted : (i : ℕ) → i < l.place → IsUnwantedIn g.T.MayWant.unwanted l.members (pusher_at l.pushers (slice_index l.taken i)).number → ⊥;
}

-- proposed from the loop's first test
abbrev pub decreases-sift : goal.decreases-sift
decreases-sift g l = l.left - l.place
