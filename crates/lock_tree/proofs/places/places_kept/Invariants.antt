use Rattle.std.proofs.Common.{◌≡◌, ◌+◌, ◌*◌, ◌-◌, ◌≤◌}
use Rattle.std.specs.Prelude.{◌^◌}
use Rattle.std.specs.List.{sum_by, range_with_len}
use Rattle.lock_tree_laws.specs.Forest.{party_of, places_of, places_kept}
use Rattle.lock_tree.proofs.places.places_kept.Given as goal

-- those of the owners that are left come to the sum
abbrev pub invariant-loop-owner : goal.invariant-loop-owner
invariant-loop-owner l = (l.places + sum_by (λ u. places_of (party_of l.parties.entries u)) (range_with_len l.owner (17 - l.owner)) ≡ places_kept l.parties.entries) × (l.places + 2 ^ 59 ≤ l.owner * 2 ^ 59)
