use Rattle.std.proofs.Common.{◌≡◌, ◌≤◌, ◌+◌, true, sym, ap, subst, ◌∙◌, length, None, arith}
use Rattle.std.specs.Prelude.{is_some}
use Rattle.std.specs.FinMap.Entries.{find}
use Rattle.rdb_types.specs.Order.{dbkey_order}
use Rattle.member_memory.specs.Memory.{Memory}
use Rattle.member_memory.proofs.Counting.{is-none, copied-some}
use Rattle.member_memory.proofs.Adding.{AddsSome, adds-none, adds-again, adds-more, too-many}
use Rattle.member_memory.proofs.changes.add_keys.Goals as goal
use Rattle.member_memory.proofs.changes.add_keys.Goals.{then-is_none+else-len-limit+in_ok-add_key, else-is_none}

pub loop-write-init : goal.loop-write-init
loop-write-init c = adds-none _ _ _ _

pub returns-then-len-limit-clause-full : goal.returns-then-len-limit-clause-full
returns-then-len-limit-clause-full c is =
    let none : find dbkey_order c.write-item.result.key c.loop-write.lines ≡ None = is-none _ (ap is_some (sym c.find.ensures) ∙ copied-some c.find.result ∙ c.if-is_none.ensures) in
    let full : c.args.limit ≤ length c.loop-write.keys.items = omega arith in
    too-many c.args.tsn c.args.limit c.args.writes.now c.loop-write.write-index c.write-item.result
    (record { lines = c.args.lines.now; keys = c.args.keys.now.items }) (record { lines = c.loop-write.lines; keys = c.loop-write.keys.items })
    c.loop-write-test.true c.write-item.is c.loop-write.invariant none full

pub loop-write-preserved : goal.loop-write-preserved
loop-write-preserved c =
    let old : Memory = record { lines = c.args.lines.now; keys = c.args.keys.now.items } in
    let now : Memory = record { lines = c.loop-write.lines; keys = c.loop-write.keys.items } in
    elim c.if-is_none.branch [
      | then-is_none+else-len-limit+in_ok-add_key w ↦
          let none : find dbkey_order c.write-item.result.key c.loop-write.lines ≡ None = is-none _ (ap is_some (sym c.find.ensures) ∙ copied-some c.find.result ∙ w.if-is_none.ensures) in
          let lines = sym (w.lines-is ∙ w.in_ok-add_key.ensures.lines) in
          let keys = sym (ap (λ v. v.items) w.keys-is ∙ w.in_ok-add_key.ensures.keys) in
          let more = adds-more c.args.tsn c.args.limit c.args.writes.now c.loop-write.write-index c.write-item.result old now c.loop-write-test.true c.write-item.is c.loop-write.invariant none (omega arith) in
          subst (λ (m : Memory). AddsSome c.args.tsn c.args.limit c.args.writes.now (c.loop-write.write-index + 1) old m) (λ i. record { lines = lines i; keys = keys i }) more
      | else-is_none w ↦
          let some : is_some (find dbkey_order c.write-item.result.key c.loop-write.lines) ≡ true = ap is_some (sym c.find.ensures) ∙ copied-some c.find.result ∙ w.if-is_none.ensures in
          let again = adds-again c.args.tsn c.args.limit c.args.writes.now c.loop-write.write-index c.write-item.result old now c.loop-write-test.true c.write-item.is c.loop-write.invariant some in
          subst (λ (m : Memory). AddsSome c.args.tsn c.args.limit c.args.writes.now (c.loop-write.write-index + 1) old m) (λ i. record { lines = sym w.lines-is i; keys = ap (λ v. v.items) (sym w.keys-is) i }) again
    ]
