use Rattle.std.proofs.Common.{◌∙◌, sym, ap}
use Rattle.rdb_outside.specs.Memory.{content_of}
use Rattle.rdb_outside.specs.Plan.{are_within}
use Rattle.rdb_outside.proofs.Picks.{again_wrote, again_skip}
use Rattle.rdb_outside.proofs.Within.{within_push, within_at}
use Rattle.rdb_outside.proofs.memory_disk.write_again.Goals as goal
use Rattle.rdb_outside.proofs.memory_disk.write_again.Goals.{then-is_written+in_ok-push, else-is_written}

pub loop-event-preserved : goal.loop-event-preserved
loop-event-preserved c =
    elim c.if-is_written.branch [
      | then-is_written+in_ok-push w ↦ record {
        same = λ file slot. ap (λ l. content_of l.items file slot) w.log-is ∙ ap (λ l. content_of l file slot) w.in_ok-push.ensures.items ∙ again_wrote c.loop-event.log.items c.args.history.now c.loop-event.event-index _ c.loop-event-test.true c.loop-event.invariant.same file slot;
        fits = λ slots all. ap (λ l. are_within slots l.items) w.log-is ∙ ap (λ l. are_within slots l) w.in_ok-push.ensures.items ∙ within_push slots c.loop-event.log.items _ (c.loop-event.invariant.fits slots all) (within_at slots c.args.history.now c.loop-event.event-index _ all c.loop-event-test.true);
      }
      | else-is_written w ↦ record {
        same = λ file slot. ap (λ l. content_of l.items file slot) w.log-is ∙ again_skip c.loop-event.log.items c.args.history.now c.loop-event.event-index _ c.loop-event-test.true (sym c.is_written.ensures ∙ w.if-is_written.false) c.loop-event.invariant.same file slot;
        fits = λ slots all. ap (λ l. are_within slots l.items) w.log-is ∙ c.loop-event.invariant.fits slots all;
      }
    ]
