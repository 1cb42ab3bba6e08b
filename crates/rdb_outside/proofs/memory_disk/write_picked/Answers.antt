use Rattle.std.proofs.Common.{◌∙◌, ◌+◌, ◌++◌, ◌∷◌, [], sym, ap, arith, length, take, get_or}
use Rattle.rdb_outside.specs.Picks.{turned}
use Rattle.rdb_outside.specs.Plan.{are_within}
use Rattle.rdb_outside.proofs.Crashes.{late_count, crash_skip}
use Rattle.rdb_outside.proofs.PickSteps.{takes, leaves, passes_by, picked_of}
use Rattle.rdb_outside.proofs.Within.{within_push, within_at, kept_within}
use Rattle.rdb_outside.proofs.Picks.{some_event}
use Rattle.rdb_outside.proofs.memory_disk.write_picked.Goals as goal
use Rattle.rdb_outside.proofs.memory_disk.write_picked.Goals.{then-may_be_left, then-is_picked+in_ok-push, else-is_picked, else-may_be_left}

pub loop-k-preserved : goal.loop-k-preserved
loop-k-preserved c =
    let h = c.args.history.now in
    let k = c.loop-k.k in
    let keep = turned c.args.kept.now in
    let was = c.loop-k.invariant in
    let plain = c.requires.later k _ c.loop-k.auto.k c.loop-k-test.true in
    elim c.if-may_be_left.branch [
      | then-may_be_left w ↦
          let left = sym c.may_be_left.ensures ∙ w.if-may_be_left.true in
          let count = w.count-is ∙ ap (λ n. n + 1) was.count ∙ sym (late_count h k _ c.loop-k-test.true left) in
          let choice = ap keep (sym was.count) ∙ sym w.is_picked.ensures in
          elim w.if-is_picked.branch [
            | then-is_picked+in_ok-push v ↦
                let more = ap (λ l. l.items) (w.log-is ∙ v.log-is) ∙ v.in_ok-push.ensures.items ∙ ap (λ e. c.loop-k.log.items ++ e ∷ []) v.kept.ensures in
                record {
                  image = picked_of (take (k + 1) h) keep _ _ more (takes keep c.loop-k.log.items h k _ c.loop-k-test.true left plain (choice ∙ v.if-is_picked.true) was.image);
                  count = count;
                  below = omega (arith, w.count-is, was.below);
                  fits = λ slots all begun. ap (λ l. are_within slots l) more ∙ within_push slots c.loop-k.log.items _ (was.fits slots all begun) (kept_within slots (get_or h k some_event) (within_at slots h k some_event all c.loop-k-test.true) left);
                }
            | else-is_picked v ↦ record {
              image = picked_of (take (k + 1) h) keep _ _ (ap (λ l. l.items) (w.log-is ∙ v.log-is)) (leaves keep c.loop-k.log.items h k _ c.loop-k-test.true left plain (choice ∙ v.if-is_picked.false) was.image);
              count = count;
              below = omega (arith, w.count-is, was.below);
              fits = λ slots all begun. ap (λ l. are_within slots l.items) (w.log-is ∙ v.log-is) ∙ was.fits slots all begun;
            }
          ]
      | else-may_be_left w ↦
          let left = sym c.may_be_left.ensures ∙ w.if-may_be_left.false in
          record {
            image = picked_of (take (k + 1) h) keep _ _ (ap (λ l. l.items) w.log-is) (passes_by keep c.loop-k.log.items h k _ c.loop-k-test.true left plain was.image);
            count = w.count-is ∙ was.count ∙ sym (ap (λ x. length x.late) (crash_skip h k _ c.loop-k-test.true left plain));
            below = omega (arith, w.count-is, was.below);
            fits = λ slots all begun. ap (λ l. are_within slots l.items) w.log-is ∙ was.fits slots all begun;
          }
    ]
