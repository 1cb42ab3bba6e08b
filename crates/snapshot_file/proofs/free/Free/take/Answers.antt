use Rattle.std.proofs.Common.{◌<◌, ◌+◌, ◌∙◌, ap, sym, subst, arith, List, Bool, length}
use Rattle.std.proofs.lemmas.Grind.{get_or_default_zero}
use Rattle.snapshot_file.specs.Slots.{is_free, slots_in, Takes}
use Rattle.snapshot_file.proofs.Orders.{none_free, takes}
use Rattle.snapshot_file.proofs.free.Free.take.Goals as goal

pub returns-then-self-limit-clause-full : goal.returns-then-self-limit-clause-full
returns-then-self-limit-clause-full c = λ slot.
    let i = c.self.inside in
    ap (λ (v : List Bool). is_free v slot) (sym c.self.view_is) ∙ none_free i.order.items i.places.items i.used slot c.self.invariant (omega (arith, c.len-limit.ensures, c.if-self-limit.true))

pub returns-clause-taken : goal.returns-clause-taken
returns-clause-taken c =
    let i = c.self.inside in
    let slot = c.index-slot.result.now in
    let bound = c.self.invariant.within in
    let less : i.used < length i.order.items = omega (arith, bound, c.len-limit.ensures, c.if-self-limit.false) in
    subst (λ (v : List Bool). Takes v (slots_in i.places.items (i.used + 1)) slot) c.self.view_is
    (takes i.order.items i.places.items i.used slot c.self.invariant less (sym (c.index-slot.ensures ∙ get_or_default_zero i.order.items i.used slot less)))
