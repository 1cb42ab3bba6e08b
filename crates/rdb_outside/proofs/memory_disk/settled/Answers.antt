use Rattle.std.proofs.Common.{◌∙◌, sym, ap, arith, take}
use Rattle.rdb_outside.specs.Memory.{content_of}
use Rattle.rdb_outside.specs.Picks.{crash_of}
use Rattle.rdb_outside.proofs.Crashes.{settled_late, settled_stable, settled_from, later_step}
use Rattle.rdb_outside.proofs.memory_disk.settled.Goals as goal
use Rattle.rdb_outside.proofs.memory_disk.settled.Goals.{then-is_settled, else-is_settled}

pub loop-i-preserved : goal.loop-i-preserved
loop-i-preserved c =
    let h = c.args.history.now in
    elim c.if-is_settled.branch [
      | then-is_settled w ↦ record {
        within = omega (arith, w.end-is);
        later = λ k d le less. (let bad : ⊥ = omega (arith, w.end-is, le, less) in absurd bad);
        none = ap (λ n. (crash_of (take n h)).late) w.end-is ∙ settled_late h c.loop-i.i _ c.loop-i-test.true (settled_from _ (sym c.is_settled.ensures ∙ w.if-is_settled.true));
        stable = λ f i. ap (λ n. (crash_of (take n h)).stable f i) w.end-is ∙ settled_stable h c.loop-i.i _ c.loop-i-test.true (settled_from _ (sym c.is_settled.ensures ∙ w.if-is_settled.true)) f i ∙ sym (ap (λ n. content_of (take n h) f i) w.end-is);
      }
      | else-is_settled w ↦ record {
        within = omega (arith, w.end-is, c.loop-i.invariant.within);
        later = later_step h c.loop-i.end _ c.loop-i.i _ w.end-is c.loop-i-test.true (sym c.is_settled.ensures ∙ w.if-is_settled.false) c.loop-i.invariant.later;
        none = ap (λ n. (crash_of (take n h)).late) w.end-is ∙ c.loop-i.invariant.none;
        stable = λ f i. ap (λ n. (crash_of (take n h)).stable f i) w.end-is ∙ c.loop-i.invariant.stable f i ∙ sym (ap (λ n. content_of (take n h) f i) w.end-is);
      }
    ]
