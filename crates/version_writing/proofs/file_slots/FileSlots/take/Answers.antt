use Rattle.std.proofs.Common.{◌≡◌, ◌+◌, sym, ap, ◌∙◌, arith}
use Rattle.std.proofs.lemmas.List.{length-set}
use Rattle.snapshot_file.specs.Slots.{left_in}
use Rattle.snapshot_file.proofs.Counts.{left_taken}
use Rattle.version_writing.proofs.Sifted.{table-taken, taken-more}
use Rattle.version_writing.proofs.file_slots.FileSlots.take.Goals as goal

pub index_mut-requires-2 : goal.index_mut-requires-2
index_mut-requires-2 c =
    let is = c.self.invariant.2 in
    let left : left_in c.self.inside.stock.slots ≡ left_in c.take-slot.new.self.slots + 1 = left_taken c.self.inside.stock.slots c.take-slot.new.self.slots c.take-slot.result c.take-slot.ensures.taken in
    omega (arith, is.few, is.long, left)

pub overflow_add-self : goal.overflow_add-self
overflow_add-self c =
    let is = c.self.invariant.2 in
    let left : left_in c.self.inside.stock.slots ≡ left_in c.take-slot.new.self.slots + 1 = left_taken c.self.inside.stock.slots c.take-slot.new.self.slots c.take-slot.result c.take-slot.ensures.taken in
    omega (arith, is.few, c.self.invariant.0.long, c.self.invariant.1, left, c.self.ranges)

pub invariant_of-self : goal.invariant_of-self
invariant_of-self c =
    let i = c.self.inside in (
      table-taken i.stock.slots c.take-slot.new.self.slots i.pushers.items c.take-slot.result c.args.tsn c.self.invariant.0 c.take-slot.ensures.taken c.requires.number,
      length-set i.pushers.items _ c.args.tsn ∙ c.self.invariant.1,
      taken-more i.stock.slots c.take-slot.new.self.slots i.taken.items i.count c.take-slot.result c.self.invariant.2 c.take-slot.ensures.taken,
    )

pub returns-clause-left : goal.returns-clause-left
returns-clause-left c = sym (left_taken c.self.inside.stock.slots c.take-slot.new.self.slots c.take-slot.result c.take-slot.ensures.taken) ∙ ap (λ t. left_in t.slots) c.self.view_is
