use Rattle.std.proofs.Common.{◌≡◌, ◌<◌, ◌∙◌, Some, inl, refl, sym, ap, subst, length, arith, ℕ}
use Rattle.std.specs.Prelude.{slice_get, slice_set}
use Rattle.std.proofs.lemmas.Option.{slice_get-get_or}
use Rattle.memory_store.specs.declared.seat.Seat.{Seat as Held}
use Rattle.memory_store.specs.declared.seat.Seat.TheVariants.{Outside}
use Rattle.memory_store.specs.Kept.{Kept, AreKept, count_ready}
use Rattle.memory_store.proofs.Seating.{put-kept, taken-few, taken-ready}
use Rattle.memory_store.proofs.store.MemoryStore.take.Goals as goal

pub invariant_of-self : goal.invariant_of-self
invariant_of-self c =
    subst (λ (h : Held). AreKept c.self.inside.committed.room (slice_set c.self.inside.seats.items c.args.s.number h)) (sym c.replace.ensures.after)
    (put-kept c.self.inside.committed.room c.self.inside.seats.items c.self.invariant c.args.s.number Outside (inl refl))

pub returns-clause-was : goal.returns-clause-was
returns-clause-was c =
    let low : c.args.s.number < 17 = omega (arith, c.requires.last) in
    let inside : c.args.s.number < length c.self.inside.seats.items = subst (λ (n : ℕ). c.args.s.number < n) (sym c.self.invariant.count) low in
    let had : slice_get c.self.inside.seats.items c.args.s.number ≡ Some c.replace.result =
    slice_get-get_or c.self.inside.seats.items c.args.s.number c.index_mut.result.now inside ∙ ap Some (sym c.index_mut.ensures.value ∙ sym c.replace.ensures.value) in
    subst (λ (k : Kept). slice_get k.seats c.args.s.number ≡ Some c.replace.result) c.self.view_is had

pub returns-clause-few : goal.returns-clause-few
returns-clause-few c =
    let low : c.args.s.number < 17 = omega (arith, c.requires.last) in
    subst (λ (h : Held). count_ready (slice_set c.self.inside.seats.items c.args.s.number h) < 17) (sym c.replace.ensures.after)
    (taken-few c.self.inside.committed.room c.self.inside.seats.items c.self.invariant c.args.s.number low)

pub returns-clause-ready : goal.returns-clause-ready
returns-clause-ready c ready =
    let low : c.args.s.number < 17 = omega (arith, c.requires.last) in
    let inside : c.args.s.number < length c.self.inside.seats.items = subst (λ (n : ℕ). c.args.s.number < n) (sym c.self.invariant.count) low in
    let had : slice_get c.self.inside.seats.items c.args.s.number ≡ Some c.replace.result =
    slice_get-get_or c.self.inside.seats.items c.args.s.number c.index_mut.result.now inside ∙ ap Some (sym c.index_mut.ensures.value ∙ sym c.replace.ensures.value) in
    subst (λ (h : Held). count_ready (slice_set c.self.inside.seats.items c.args.s.number h) < c.self.inside.committed.room) (sym c.replace.ensures.after)
    (taken-ready c.self.inside.committed.room c.self.inside.seats.items c.self.invariant c.args.s.number c.replace.result had ready)
