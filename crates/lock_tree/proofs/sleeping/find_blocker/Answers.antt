use Rattle.std.proofs.Common.{ℕ, sym, ◌∙◌, subst, inl, inr}
use Rattle.std.specs.Prelude.{◌==◌, map}
use Rattle.std.specs.Map.Iter.{deref_pair}
use Rattle.std.proofs.lemmas.Bool.{false≢true, or_cases, eqb-true}
use Rattle.vms_locks.specs.Table.{queues_at, WaitsIn}
use Rattle.lock_tree_laws.specs.Wanted.{is_known}
use Rattle.lock_tree_laws.proofs.Sleepers.{any-mapped}
use Rattle.lock_tree.proofs.sleeping.find_blocker.Goals as goal

pub loop-other-preserved : goal.loop-other-preserved
loop-other-preserved c = λ u h w.
    elim (or_cases (is_known (map deref_pair c.loop-other.yielded) u) (c.in-Some.other.now == u) (sym (any-mapped (λ e. e.0 == u) deref_pair c.loop-other.yielded (c.in-Some.other, c.in-Some._party)) ∙ h)) [
      | inl y ↦ c.loop-other.invariant u y w
      | inr z ↦ false≢true (c.if-waits_for.ensures.1 (subst (λ (v : ℕ). WaitsIn (queues_at c.args.locks.now) c.args.owner v) (sym (eqb-true c.in-Some.other.now u z)) w))
    ]
