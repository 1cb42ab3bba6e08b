use Rattle.std.proofs.Common.{◌≡◌, List, drop, length, Some, false, refl, sym, ap, subst, ◌∙◌, arith, rules}
use Rattle.std.specs.Prelude.{slice_get}
use Rattle.rdb_types.specs.declared.keys.Dbkey.{Dbkey}
use Rattle.reader_lines.specs.version_writing.declared.snapshot_slots.SnapshotSlots.{SnapshotSlots}
use Rattle.disk_store.specs.declared.member.Member.{Member}
use Rattle.disk_store.specs.declared.member.MemberStage.TheVariants as stage
use Rattle.disk_store.specs.Memory.{StoreMemory, with_member}
use Rattle.disk_store.specs.Sound.{HasSlotsFor, IsSound}
use Rattle.disk_store.specs.Changing.{AreFit, Stops, StopsAt, with_asides, changing_with}
use Rattle.disk_store.proofs.Members.{lent-there, set-long}
use Rattle.disk_store.proofs.LaidLines.{laid-sound}
use Rattle.disk_store.proofs.CommitsKept.{free-kept, slots-kept}
use Rattle.disk_store.proofs.held.Held.lay_writes.Goals as goal

abbrev before : goal.After-self-2-1 → StoreMemory
before c = let i = c.self.inside in record { limits = i.limits; numbers = i.numbers; next = i.next; tables = i.tables; slots = i.slots; members = i.members.items }

-- the session's member behind it
abbrev laid-now : goal.After-self-2-1 → Member
laid-now c = record c.index_mut-member.result.now { stage = stage.Changing; named = false; written = c.lay_lines.new.lines; pushed = length c.keys-count.result.now; aside = c.in_ok-wanted.wanted }

-- the memory behind it, by the keys that it had and the slots that it has
abbrev after : goal.After-self-2-1 → List Dbkey → SnapshotSlots → StoreMemory
after c keys slots = record (with_member c.args.s.number (record c.index_mut-member.result.now { stage = stage.Changing; named = false; written = c.lay_lines.new.lines; pushed = length keys; aside = c.in_ok-wanted.wanted }) (before c)) { slots = slots }

was : (c : goal.After-self-2-1) → slice_get c.self.inside.members.items c.args.s.number ≡ Some c.index_mut-member.result.now
was c = lent-there c.self.inside.members.items c.args.s.number c.index_mut-member.result.now (omega (arith, c.self.invariant.0, c.requires.member.last)) c.index_mut-member.ensures.value

pub invariant_of-self-2 : goal.invariant_of-self-2
invariant_of-self-2 c =
    let m : Member = c.index_mut-member.result.now in
    let fit : AreFit c.args.s.number c.self.inside.tables c.self.inside.members.items c.args.writes.now = subst (λ (h : StoreMemory). AreFit c.args.s.number h.tables h.members c.args.writes.now) (sym c.self.view_is) c.requires.fit in
    let enough : HasSlotsFor (before c).tables c.in_ok-wanted.wanted (drop (length m.written.keys) c.lay_lines.new.lines.keys) = c.in_ok-wanted.ensures.enough in (
      set-long c.self.inside.members.items c.args.s.number _ ∙ c.self.invariant.0,
      subst (λ (ks : List Dbkey). IsSound (after c ks c.lay_lines.new.slots)) (sym c.keys-count.ensures.value)
          (subst (λ (sl : SnapshotSlots). IsSound (after c m.written.keys sl)) (sym c.in_ok-wanted.ensures.aside)
          (laid-sound (before c) c.args.s.number m c.args.writes.now c.lay_lines.new.lines (was c) c.self.invariant.1 fit c.in_ok-wanted.ensures.laid c.in_ok-wanted.wanted enough)),
      slots-kept (with_member c.args.s.number (laid-now c) (before c)) c.lay_lines.new.slots (free-kept (before c) c.args.s.number m (laid-now c) c.requires.member (was c) refl c.self.invariant.2),
    )

pub returns-clause-laid : goal.returns-clause-laid
returns-clause-laid c =
    let m : Member = c.index_mut-member.result.now in
    record {
      member = m;
      was = ap (λ (h : StoreMemory). slice_get h.members c.args.s.number) (sym c.self.view_is) ∙ was c;
      written = c.lay_lines.new.lines;
      lays = c.in_ok-wanted.ensures.laid;
      wanted = c.in_ok-wanted.wanted;
      count = c.in_ok-wanted.ensures.count;
      is = ap (λ (ks : List Dbkey). after c ks c.lay_lines.new.slots) c.keys-count.ensures.value
          ∙ ap (λ (sl : SnapshotSlots). after c m.written.keys sl) c.in_ok-wanted.ensures.aside
          ∙ ap (λ (h : StoreMemory). record (with_member c.args.s.number (changing_with c.lay_lines.new.lines c.in_ok-wanted.wanted m) h) { slots = with_asides c.in_ok-wanted.wanted h.slots }) c.self.view_is;
    }

pub returns-in_err-wanted-clause-cause : goal.returns-in_err-wanted-clause-cause
returns-in_err-wanted-clause-cause c =
    let i = c.self.inside in
    let s = c.args.s.number in
    let m : Member = c.index_mut-member.result.now in
    let is : slice_get i.members.items s ≡ Some m = lent-there i.members.items s m (omega (arith, c.self.invariant.0, c.requires.member.last)) c.index_mut-member.ensures.value in
    let stopped : StopsAt s c.args.writes.now c.args.self.now c.in_err-wanted.field-0.0 = record {
      member = m;
      was = ap (λ (h : StoreMemory). slice_get h.members s) (sym c.self.view_is) ∙ is;
      stops = subst (λ (h : StoreMemory). Stops m.written c.args.writes.now h.slots h.limits.entries c.in_err-wanted.field-0.0) c.self.view_is c.in_err-wanted.ensures.cause;
    } in
    search (rules, stopped)
