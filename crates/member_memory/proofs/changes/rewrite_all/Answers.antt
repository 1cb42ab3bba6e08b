use Rattle.std.proofs.Common.{◌≡◌, ◌+◌, take, sym, ap, ◌∙◌, Option, Some}
use Rattle.std.specs.FinMap.Entries.{find, put}
use Rattle.rdb_types.specs.declared.keys.Line.{Line}
use Rattle.rdb_types.specs.Order.{dbkey_order}
use Rattle.member_memory.specs.Changes.{rewritten_in, rewritten_at, rewritten_all}
use Rattle.member_memory.proofs.Counting.{on-some}
use Rattle.member_memory.proofs.Rewriting.{one-rewritten}
use Rattle.member_memory.proofs.changes.rewrite_all.Goals as goal
use Rattle.member_memory.proofs.changes.rewrite_all.Goals.{in-Some, in_default}

pub loop-write-preserved : goal.loop-write-preserved
loop-write-preserved c =
    let write = c.write-item.result in
    let behind : rewritten_all (take (c.loop-write.write-index + 1) c.args.writes.now) c.args.lines.now ≡ rewritten_in write (find dbkey_order write.key c.loop-write.lines) c.loop-write.lines =
    one-rewritten c.args.writes.now c.loop-write.write-index write c.args.lines.now c.loop-write-test.true c.write-item.is ∙ ap (rewritten_at write) (sym c.loop-write.invariant) in
    elim c.match-find.branch [
      | in-Some w ↦
          let found : find dbkey_order write.key c.loop-write.lines ≡ Some w.in-Some.line.now = sym w.in-Some.ensures in
          w.lines-is
          ∙ on-some w.exchange-before.result w.in-Some.line.now _ (w.exchange-before.ensures.found ∙ found) w.exchange-before.ensures.some
          ∙ ap (λ (line : Line). put dbkey_order write.key line c.loop-write.lines) w.rewritten_line-next.ensures
          ∙ sym (behind ∙ ap (λ (x : Option Line). rewritten_in write x c.loop-write.lines) found)
      | in_default w ↦ w.lines-is ∙ sym (behind ∙ ap (λ (x : Option Line). rewritten_in write x c.loop-write.lines) (sym w.in_default.ensures))
    ]
