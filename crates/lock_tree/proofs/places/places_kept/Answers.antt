use Rattle.std.proofs.Common.{ℕ, ◌+◌, ◌-◌, arith}
use Rattle.lock_tree_laws.specs.Forest.{party_of, places_of}
use Rattle.lock_tree_laws.proofs.KeptPlaces.{sum-first}
use Rattle.lock_tree.proofs.places.places_kept.Goals as goal

pub loop-owner-preserved : goal.loop-owner-preserved
loop-owner-preserved c =
    let first = sum-first (λ (u : ℕ). places_of (party_of c.args.parties.now.entries u)) c.loop-owner.owner (17 - c.loop-owner.owner) (17 - (c.loop-owner.owner + 1)) (omega (arith, c.loop-owner-test.true)) in (
      omega (arith, first, c.loop-owner.invariant.0, c.places_of-places.ensures.value),
      omega (arith, c.loop-owner.invariant.1, c.places_of-places.ensures.small),
    )
