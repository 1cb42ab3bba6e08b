use Rattle.std.proofs.Common.{sym, ◌∙◌}
use Rattle.rdb_outside.proofs.Calls.{loop_wrote, loop_else}
use Rattle.rdb_outside.proofs.memory_disk.read_from.Goals as goal
use Rattle.rdb_outside.proofs.memory_disk.read_from.Goals.{then-writes, else-writes}

pub loop-event-preserved : goal.loop-event-preserved
loop-event-preserved c =
    elim c.if-writes.branch [
      | then-writes w ↦ w.into-is ∙ w.copy_from_slice.ensures.after ∙ rw w.slot_bytes.ensures (loop_wrote _ _ _ _ _ c.loop-event-test.true (sym c.writes.ensures ∙ w.if-writes.true))
      | else-writes w ↦ w.into-is ∙ c.loop-event.invariant ∙ sym (loop_else _ _ _ _ _ c.loop-event-test.true (sym c.writes.ensures ∙ w.if-writes.false))
    ]
