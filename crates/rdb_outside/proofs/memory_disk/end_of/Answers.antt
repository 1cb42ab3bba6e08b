use Rattle.std.proofs.Common.{◌∙◌, sym, arith}
use Rattle.rdb_outside.proofs.Calls.{end_raise, end_keep, end_other}
use Rattle.rdb_outside.proofs.Within.{end_within}
use Rattle.rdb_outside.proofs.memory_disk.end_of.Goals as goal
use Rattle.rdb_outside.proofs.memory_disk.end_of.Goals.{then-writes+then-end-event, else-writes, else-writes-via-then-writes+else-end-event, else-writes-via-else-writes}

pub loop-event-preserved : goal.loop-event-preserved
loop-event-preserved c =
    elim c.if-writes.branch [
      | then-writes+then-end-event w ↦ record {
        zeros = end_raise _ _ _ _ c.loop-event.end _ c.loop-event-test.true c.loop-event.invariant.zeros w.if-end-event.true w.end-is;
        within = end_within c.args.slots c.args.log.now c.loop-event.event-index _ c.args.file _ c.requires c.loop-event-test.true (sym c.writes.ensures ∙ w.if-writes.true) w.end-is;
      }
      | else-writes w ↦ elim w.else-writes.branch [
        | else-writes-via-then-writes+else-end-event v ↦ record {
          zeros = end_keep _ _ _ _ c.loop-event.end _ c.loop-event-test.true c.loop-event.invariant.zeros v.if-end-event.false w.end-is;
          within = omega (arith, w.end-is, c.loop-event.invariant.within);
        }
        | else-writes-via-else-writes v ↦ record {
          zeros = end_other _ _ _ _ c.loop-event.end _ c.loop-event-test.true c.loop-event.invariant.zeros (sym c.writes.ensures ∙ v.if-writes.false) w.end-is;
          within = omega (arith, w.end-is, c.loop-event.invariant.within);
        }
      ]
    ]
