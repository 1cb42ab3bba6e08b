use Rattle.std.proofs.Common.{◌≡◌, Some, inl, inr, sym, subst, ◌∙◌}
use Rattle.std.specs.Prelude.{slice_get, MatchOption, ◌<◌, ◌+◌, ℕ}
use Rattle.line_store.specs.Seats.{lines_written}
use Rattle.member_memory.specs.Memory.{writes_in}
use Rattle.disk_store.specs.declared.member.Member.{Member}
use Rattle.disk_store.specs.Memory.{StoreMemory}
use Rattle.disk_store.specs.Preparing.{aside_beside}
use Rattle.disk_store.proofs.Written.{member-counted}
use Rattle.disk_store.proofs.JournalRoom.{IsTooMuch, HasRoom, past-end, own-past, beside-past, beside-within}
use Rattle.disk_store.proofs.held.Held.has_room.Goals as goal

pub returns-then-lines-eq0-clause-fits : goal.returns-then-lines-eq0-clause-fits
returns-then-lines-eq0-clause-fits c e = subst (λ (held : StoreMemory). (m : Member) → slice_get held.members c.args.s.number ≡ Some m → HasRoom held c.args.s.number m) c.self.view_is
    (λ m at. inl (member-counted c.self.inside.members.items c.args.s.number m c.index.result.now c.keys-lines.result.now at c.index.ensures c.keys-lines.ensures.value c.keys-lines.ensures.its ∙ c.if-lines-eq0.true))

pub returns-in_default-clause-full : goal.returns-in_default-clause-full
returns-in_default-clause-full c e = subst (λ (held : StoreMemory). (m : Member) → slice_get held.members c.args.s.number ≡ Some m → IsTooMuch held c.args.s.number m) c.self.view_is
    (λ m at. past-end c.self.inside.next.slot c.self.inside.limits.slots (aside_beside c.args.s.number c.self.inside.members.items) (lines_written (writes_in m.written.lines)) _
    (member-counted c.self.inside.members.items c.args.s.number m c.index.result.now c.keys-lines.result.now at c.index.ensures c.keys-lines.ensures.value c.keys-lines.ensures.its) c.if-lines-eq0.false c.in_default.ensures)

pub returns-in_default-checked_sub-clause-full : goal.returns-in_default-checked_sub-clause-full
returns-in_default-checked_sub-clause-full c e = subst (λ (held : StoreMemory). (m : Member) → slice_get held.members c.args.s.number ≡ Some m → IsTooMuch held c.args.s.number m) c.self.view_is
    (λ m at. own-past c.self.inside.next.slot c.self.inside.limits.slots (aside_beside c.args.s.number c.self.inside.members.items) (lines_written (writes_in m.written.lines)) _ c.in-Some.unused
    (member-counted c.self.inside.members.items c.args.s.number m c.index.result.now c.keys-lines.result.now at c.index.ensures c.keys-lines.ensures.value c.keys-lines.ensures.its) c.if-lines-eq0.false c.in-Some.ensures.0 c.in-Some.ensures.1 c.in_default-checked_sub.ensures)

pub returns-clause-full : goal.returns-clause-full
returns-clause-full c e = subst (λ (held : StoreMemory). (m : Member) → slice_get held.members c.args.s.number ≡ Some m → IsTooMuch held c.args.s.number m) c.self.view_is
    (λ m at. beside-past c.self.inside.next.slot c.self.inside.limits.slots (aside_beside c.args.s.number c.self.inside.members.items) (lines_written (writes_in m.written.lines)) _ c.in-Some.unused c.in-Some-checked_sub.room
    (member-counted c.self.inside.members.items c.args.s.number m c.index.result.now c.keys-lines.result.now at c.index.ensures c.keys-lines.ensures.value c.keys-lines.ensures.its) c.if-lines-eq0.false c.in-Some.ensures.0 c.in-Some.ensures.1 c.in-Some-checked_sub.ensures.0 c.in-Some-checked_sub.ensures.1
    c.room_beside.result (subst (λ ms. MatchOption c.room_beside.result (c.in-Some-checked_sub.room < aside_beside c.args.s.number ms) (λ (l : ℕ). l + aside_beside c.args.s.number ms ≡ c.in-Some-checked_sub.room)) c.deref.ensures.value c.room_beside.ensures) (sym c.is_some.ensures ∙ e))

pub returns-clause-fits : goal.returns-clause-fits
returns-clause-fits c e = subst (λ (held : StoreMemory). (m : Member) → slice_get held.members c.args.s.number ≡ Some m → HasRoom held c.args.s.number m) c.self.view_is
    (λ m at. inr (beside-within c.self.inside.next.slot c.self.inside.limits.slots (aside_beside c.args.s.number c.self.inside.members.items) (lines_written (writes_in m.written.lines)) _ c.in-Some.unused c.in-Some-checked_sub.room
    (member-counted c.self.inside.members.items c.args.s.number m c.index.result.now c.keys-lines.result.now at c.index.ensures c.keys-lines.ensures.value c.keys-lines.ensures.its) c.if-lines-eq0.false c.in-Some.ensures.0 c.in-Some.ensures.1 c.in-Some-checked_sub.ensures.0 c.in-Some-checked_sub.ensures.1
    c.room_beside.result (subst (λ ms. MatchOption c.room_beside.result (c.in-Some-checked_sub.room < aside_beside c.args.s.number ms) (λ (l : ℕ). l + aside_beside c.args.s.number ms ≡ c.in-Some-checked_sub.room)) c.deref.ensures.value c.room_beside.ensures) (sym c.is_some.ensures ∙ e)))
