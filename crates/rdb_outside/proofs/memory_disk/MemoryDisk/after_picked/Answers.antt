use Rattle.std.proofs.Common.{◌∙◌, sym, ap, take}
use Rattle.rdb_outside.specs.Memory.{content_of}
use Rattle.rdb_outside.specs.Plan.{are_within}
use Rattle.rdb_outside.specs.Picks.{picked, turned}
use Rattle.rdb_outside.proofs.Crashes.{picked_is_image}
use Rattle.rdb_outside.proofs.Picks.{same_image, left_at, barrier_same}
use Rattle.rdb_outside.proofs.Calls.{stable}
use Rattle.rdb_outside.proofs.Within.{within_push, within_take, settled_within}
use Rattle.rdb_outside.proofs.memory_disk.MemoryDisk.after_picked.Goals as goal

pub write_picked-requires-clause-same : goal.write_picked-requires-clause-same
write_picked-requires-clause-same c = λ f i. c.in_ok-write_again.ensures.same f i ∙ sym (c.settled-settled.ensures.stable f i)

pub invariant_of-result-clause-within : goal.invariant_of-result-clause-within
invariant_of-result-clause-within c =
    let slots = c.args.self.now.slots in
    let all = ap (λ l. are_within slots l) c.deref.ensures.value ∙ c.args.self.now.within in
    let history = within_take slots c.deref.result.now c.args.moment.number all in
    let front = within_take slots (take c.args.moment.number c.deref.result.now) c.settled-settled.result history in
    ap (λ l. are_within slots l) (c.reserve.ensures.items ∙ c.in_ok-push.ensures.items)
    ∙ within_push slots c.write_picked.new.log.items c.plain.result (c.in_ok-write_picked.ensures.fits slots history (c.in_ok-write_again.ensures.within slots front)) (settled_within slots c.plain.result c.plain.ensures)

pub returns-clause-left : goal.returns-clause-left
returns-clause-left c =
    let h = take c.args.moment.number c.deref.result.now in
    let keep = turned c.args.kept.now in
    left_at c.args.self.now.log.items c.deref.result.now c.args.moment.number (content_of c.reserve.new.self.items) c.deref.ensures.value c.requires
    (same_image h (picked h keep) (content_of c.reserve.new.self.items)
    (λ f i. sym (ap (λ l. content_of l f i) c.reserve.ensures.items ∙ barrier_same c.write_picked.new.log.items c.push.new.self.items c.plain.result c.plain.ensures c.in_ok-push.ensures.items f i ∙ c.in_ok-write_picked.ensures.picked f i))
    (picked_is_image h keep))

pub returns-clause-stable : goal.returns-clause-stable
returns-clause-stable c = stable _ _ c.plain.result 0 c.plain.ensures (c.reserve.ensures.items ∙ c.in_ok-push.ensures.items)

pub returns-clause-image : goal.returns-clause-image
returns-clause-image c = λ f i.
    ap (λ l. content_of l f i) c.reserve.ensures.items ∙ barrier_same c.write_picked.new.log.items c.push.new.self.items c.plain.result c.plain.ensures c.in_ok-push.ensures.items f i ∙ c.in_ok-write_picked.ensures.picked f i
    ∙ ap (λ l. picked (take c.args.moment.number l) (turned c.args.kept.now) f i) c.deref.ensures.value
