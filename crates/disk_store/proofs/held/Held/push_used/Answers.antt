use Rattle.std.proofs.Common.{◌≡◌, ◌≤◌, ◌<◌, ◌+◌, ◌^◌, ℕ, List, drop, length, Some, inl, refl, sym, ap, subst, ◌∙◌, arith}
use Rattle.std.specs.Prelude.{slice_get}
use Rattle.rdb_types.specs.declared.keys.Dbkey.{Dbkey}
use Rattle.line_versions.specs.Versions.{snap_of}
use Rattle.line_moves.specs.declared.places.Place.{Place}
use Rattle.line_moves.specs.Changes.{IsPlaceOf}
use Rattle.reader_lines.specs.version_writing.declared.snapshot_slots.Wanted.{Wanted}
use Rattle.reader_lines.specs.version_writing.declared.snapshot_slots.SnapshotSlots.{SnapshotSlots}
use Rattle.member_rooms.proofs.of_member_steps.Journals.{page_there}
use Rattle.reader_lines.proofs.of_version_writing.AllHeld.{its_file, is_file}
use Rattle.disk_store.specs.declared.member.Member.{Member}
use Rattle.disk_store.specs.declared.member.MemberStage.TheVariants as stage
use Rattle.disk_store.specs.ChangeSteps.{IsNext, Rechains, StandsAside, TakesAside, broken_off, pushed_more, spent, with_spent}
use Rattle.disk_store.specs.Commits.{is_free}
use Rattle.disk_store.specs.Memory.{StoreMemory, with_member}
use Rattle.disk_store.specs.Sound.{HasSlotsFor, IsSound, IsUsedIn, wanted_in}
use Rattle.disk_store.proofs.Members.{get-within, lent-there, set-long}
use Rattle.disk_store.proofs.Sound.{sound-but}
use Rattle.disk_store.proofs.SlotsSound.{aside-there, found-key, line-before, next-its, slot-there, slots-spent, sound-rechained, sound-spent}
use Rattle.disk_store.proofs.CommitsKept.{free-kept, slots-kept}
use Rattle.disk_store.proofs.held.Held.push_used.Goals as goal

-- a slot is set aside for the session of the line's file, and the line was used in that
module _ (h : StoreMemory) (sound : IsSound h) (s : ℕ) (m : Member) (key : Dbkey) (place : Place) (was : slice_get h.members s ≡ Some m) (next : IsNext h.members s key) (placed : IsPlaceOf key place) (used : IsUsedIn h.tables place.file key) where
  its-next : slice_get m.written.keys m.pushed ≡ Some key
  its-next = (next-its h.members s key m was next).1

  used-here : IsUsedIn h.tables (snap_of key) key
  used-here = subst (λ (n : ℕ). IsUsedIn h.tables n key) (sym (its_file key place placed)) used

  aside-here : 1 ≤ wanted_in (snap_of key) m.aside
  aside-here = slot-there h.tables m key its-next (sound.each s m was).slots (snap_of key) (is_file key place placed) used-here

  aside-placed : 1 ≤ wanted_in place.file m.aside
  aside-placed = subst (λ (n : ℕ). 1 ≤ wanted_in n m.aside) (its_file key place placed) aside-here

  slots-here : (chain : ℕ) → HasSlotsFor h.tables (spent chain (snap_of key) m.aside) (drop (m.pushed + 1) m.written.keys)
  slots-here chain = slots-spent h.tables m key its-next (sound.each s m was).slots (snap_of key) chain (is_file key place placed) used-here

pub push_aside-answer-requires-clause-first : goal.push_aside-answer-requires-clause-first
push_aside-answer-requires-clause-first g c =
    let i = c.self.inside in
    let s = c.args.s.number in
    let m : Member = c.index_mut-member.result.now in
    (c.self.invariant.1.each s m (lent-there i.members.items s m (omega (arith, c.self.invariant.0, c.requires.member.last)) c.index_mut-member.ensures.value)).first

pub push_aside-answer-requires-clause-last : goal.push_aside-answer-requires-clause-last
push_aside-answer-requires-clause-last g c =
    let i = c.self.inside in
    let s = c.args.s.number in
    let m : Member = c.index_mut-member.result.now in
    (c.self.invariant.1.each s m (lent-there i.members.items s m (omega (arith, c.self.invariant.0, c.requires.member.last)) c.index_mut-member.ensures.value)).last

pub push_aside-answer-requires-clause-may : goal.push_aside-answer-requires-clause-may
push_aside-answer-requires-clause-may g c =
    let i = c.self.inside in
    let s = c.args.s.number in
    let m : Member = c.index_mut-member.result.now in
    let is : slice_get i.members.items s ≡ Some m = lent-there i.members.items s m (omega (arith, c.self.invariant.0, c.requires.member.last)) c.index_mut-member.ensures.value in
    let h : StoreMemory = record { limits = i.limits; numbers = i.numbers; next = i.next; tables = i.tables; slots = i.slots; members = i.members.items } in
    let next : IsNext h.members s c.args.key = subst (λ (k : StoreMemory). IsNext k.members s c.args.key) (sym c.self.view_is) c.requires.next in
    let used : IsUsedIn h.tables c.args.place.file c.args.key = subst (λ (k : StoreMemory). IsUsedIn k.tables c.args.place.file c.args.key) (sym c.self.view_is) c.requires.used in
    let some = aside-here h c.self.invariant.1 s m c.args.key c.args.place is next c.requires.place used in
    let there = aside-there h s m is c.self.invariant.1 (snap_of c.args.key) (is_file c.args.key c.args.place c.requires.place) in
    inl (refl, omega (arith, some, there))

pub spend-member-requires : goal.spend-member-requires
spend-member-requires g c =
    let i = c.self.inside in
    let s = c.args.s.number in
    let m : Member = c.index_mut-member.result.now in
    let is : slice_get i.members.items s ≡ Some m = lent-there i.members.items s m (omega (arith, c.self.invariant.0, c.requires.member.last)) c.index_mut-member.ensures.value in
    let h : StoreMemory = record { limits = i.limits; numbers = i.numbers; next = i.next; tables = i.tables; slots = i.slots; members = i.members.items } in
    let next : IsNext h.members s c.args.key = subst (λ (k : StoreMemory). IsNext k.members s c.args.key) (sym c.self.view_is) c.requires.next in
    let used : IsUsedIn h.tables c.args.place.file c.args.key = subst (λ (k : StoreMemory). IsUsedIn k.tables c.args.place.file c.args.key) (sym c.self.view_is) c.requires.used in
    aside-placed h c.self.invariant.1 s m c.args.key c.args.place is next c.requires.place used

pub invariant_of-self : goal.invariant_of-self
invariant_of-self g c =
    let v = g.D.Disk.view c.args.disk.now in
    let w = g.D.Disk.view c.push_aside-answer.new.disk in
    let i = c.self.inside in
    let s = c.args.s.number in
    let key = c.args.key in
    let chain = c.push_aside-answer.new.chain in
    let slots : SnapshotSlots = c.push_aside-answer.new.slots in
    let e = c.push_aside-answer.ensures in
    let m : Member = c.index_mut-member.result.now in
    let is : slice_get i.members.items s ≡ Some m = lent-there i.members.items s m (omega (arith, c.self.invariant.0, c.requires.member.last)) c.index_mut-member.ensures.value in
    let h : StoreMemory = record { limits = i.limits; numbers = i.numbers; next = i.next; tables = i.tables; slots = i.slots; members = i.members.items } in
    let takes : TakesAside v w key chain i.slots slots = record {
      writes = e.writes;
      reads = e.unused;
      keeps = e.keeps;
      others = e.others;
      spends = e.spends;
      free = λ image followed limit holds some. e.unfollowed image followed limit holds (λ bad. absurd (omega (arith, bad))) some;
      holds = e.holds;
    } in
    let here : IsNext h.members s key = subst (λ (k : StoreMemory). IsNext k.members s key) (sym c.self.view_is) c.requires.next in
    let used : IsUsedIn h.tables c.args.place.file key = subst (λ (k : StoreMemory). IsUsedIn k.tables c.args.place.file key) (sym c.self.view_is) c.requires.used in
    let some = aside-here h c.self.invariant.1 s m key c.args.place is here c.requires.place used in
    let left : c.spend-member.result ≡ spent chain (snap_of key) m.aside = c.spend-member.ensures ∙ ap (λ (f : ℕ). spent chain f m.aside) (sym (its_file key c.args.place c.requires.place)) in
    let slots-now : HasSlotsFor h.tables c.spend-member.result (drop (m.pushed + 1) m.written.keys) = subst (λ (x : Wanted). HasSlotsFor h.tables x (drop (m.pushed + 1) m.written.keys)) (sym left) (slots-here h c.self.invariant.1 s m key c.args.place is here c.requires.place used chain) in
    let n : Member = record m { stage = stage.Broken; aside = c.spend-member.result; pushed = m.pushed + 1 } in (
      set-long i.members.items s n ∙ c.self.invariant.0,
      sound-spent v w h s m n key chain slots takes (is_file key c.args.place c.requires.place) some left is c.self.invariant.1 (sound-but h.tables m n refl refl slots-now (c.self.invariant.1.each s m is)) (λ q line found. (line, found)),
      slots-kept (with_member s n h) slots (free-kept h s m n c.requires.member is refl c.self.invariant.2),
    )

pub returns-in-Err-clause-breaks : goal.returns-in-Err-clause-breaks
returns-in-Err-clause-breaks g c =
    let v = g.D.Disk.view c.args.disk.now in
    let w = g.D.Disk.view c.push_aside-answer.new.disk in
    let i = c.self.inside in
    let s = c.args.s.number in
    let key = c.args.key in
    let chain = c.push_aside-answer.new.chain in
    let slots : SnapshotSlots = c.push_aside-answer.new.slots in
    let e = c.push_aside-answer.ensures in
    let m : Member = c.index_mut-member.result.now in
    let is : slice_get i.members.items s ≡ Some m = lent-there i.members.items s m (omega (arith, c.self.invariant.0, c.requires.member.last)) c.index_mut-member.ensures.value in
    let h : StoreMemory = record { limits = i.limits; numbers = i.numbers; next = i.next; tables = i.tables; slots = i.slots; members = i.members.items } in
    let takes : TakesAside v w key chain i.slots slots = record {
      writes = e.writes;
      reads = e.unused;
      keeps = e.keeps;
      others = e.others;
      spends = e.spends;
      free = λ image followed limit holds some. e.unfollowed image followed limit holds (λ bad. absurd (omega (arith, bad))) some;
      holds = e.holds;
    } in
    let left : c.spend-member.result ≡ spent chain (snap_of key) m.aside = c.spend-member.ensures ∙ ap (λ (f : ℕ). spent chain f m.aside) (sym (its_file key c.args.place c.requires.place)) in
    record {
      member = m;
      was = ap (λ (k : StoreMemory). slice_get k.members s) (sym c.self.view_is) ∙ is;
      chain = chain;
      slots = slots;
      takes = subst (λ (k : StoreMemory). TakesAside v w key chain k.slots slots) c.self.view_is takes;
      is = ap (λ (x : Wanted). record (with_member s (record m { stage = stage.Broken; aside = x; pushed = m.pushed + 1 }) h) { slots = slots }) left
          ∙ ap (λ (k : StoreMemory). record (with_member s (broken_off chain (snap_of key) m) k) { slots = slots }) c.self.view_is;
    }

pub overflow_add-member : goal.overflow_add-member
overflow_add-member g c =
    let i = c.self.inside in
    let s = c.args.s.number in
    let m : Member = c.index_mut-member.result.now in
    let is : slice_get i.members.items s ≡ Some m = lent-there i.members.items s m (omega (arith, c.self.invariant.0, c.requires.member.last)) c.index_mut-member.ensures.value in
    let h : StoreMemory = record { limits = i.limits; numbers = i.numbers; next = i.next; tables = i.tables; slots = i.slots; members = i.members.items } in
    let next = next-its h.members s c.args.key m is (subst (λ (k : StoreMemory). IsNext k.members s c.args.key) (sym c.self.view_is) c.requires.next) in
    let less = get-within m.written.keys m.pushed c.args.key next.1 in
    let few = (c.self.invariant.1.each s m is).few in
    omega (arith, less, few)

pub overflow_add-member-2 : goal.overflow_add-member-2
overflow_add-member-2 g c =
    let i = c.self.inside in
    let s = c.args.s.number in
    let m : Member = c.index_mut-member.result.now in
    let is : slice_get i.members.items s ≡ Some m = lent-there i.members.items s m (omega (arith, c.self.invariant.0, c.requires.member.last)) c.index_mut-member.ensures.value in
    let h : StoreMemory = record { limits = i.limits; numbers = i.numbers; next = i.next; tables = i.tables; slots = i.slots; members = i.members.items } in
    let next = next-its h.members s c.args.key m is (subst (λ (k : StoreMemory). IsNext k.members s c.args.key) (sym c.self.view_is) c.requires.next) in
    let less = get-within m.written.keys m.pushed c.args.key next.1 in
    let few = (c.self.invariant.1.each s m is).few in
    omega (arith, less, few)

pub invariant_of-self-2 : goal.invariant_of-self-2
invariant_of-self-2 g c =
    let v = g.D.Disk.view c.args.disk.now in
    let w = g.D.Disk.view c.push_aside-answer.new.disk in
    let i = c.self.inside in
    let s = c.args.s.number in
    let key = c.args.key in
    let chain = c.push_aside-answer.new.chain in
    let slots : SnapshotSlots = c.push_aside-answer.new.slots in
    let e = c.push_aside-answer.ensures in
    let m : Member = c.index_mut-member.result.now in
    let is : slice_get i.members.items s ≡ Some m = lent-there i.members.items s m (omega (arith, c.self.invariant.0, c.requires.member.last)) c.index_mut-member.ensures.value in
    let h : StoreMemory = record { limits = i.limits; numbers = i.numbers; next = i.next; tables = i.tables; slots = i.slots; members = i.members.items } in
    let takes : TakesAside v w key chain i.slots slots = record {
      writes = e.writes;
      reads = e.unused;
      keeps = e.keeps;
      others = e.others;
      spends = e.spends;
      free = λ image followed limit holds some. e.unfollowed image followed limit holds (λ bad. absurd (omega (arith, bad))) some;
      holds = e.holds;
    } in
    let here : IsNext h.members s key = subst (λ (k : StoreMemory). IsNext k.members s key) (sym c.self.view_is) c.requires.next in
    let used : IsUsedIn h.tables c.args.place.file key = subst (λ (k : StoreMemory). IsUsedIn k.tables c.args.place.file key) (sym c.self.view_is) c.requires.used in
    let some = aside-here h c.self.invariant.1 s m key c.args.place is here c.requires.place used in
    let left : c.spend-member.result ≡ spent chain (snap_of key) m.aside = c.spend-member.ensures ∙ ap (λ (f : ℕ). spent chain f m.aside) (sym (its_file key c.args.place c.requires.place)) in
    let next = next-its h.members s key m is (subst (λ (k : StoreMemory). IsNext k.members s key) (sym c.self.view_is) c.requires.next) in
    let found = found-key h c.self.invariant.1 s m is m.pushed key next.1 in
    let rechains : Rechains key chain m.written c.set_chain.new.self = record { line = c.set_chain.ensures.found; same = c.set_chain.ensures.same; keys = c.set_chain.ensures.keys } in
    let slots-now : HasSlotsFor h.tables c.spend-member.result (drop (m.pushed + 1) m.written.keys) = subst (λ (x : Wanted). HasSlotsFor h.tables x (drop (m.pushed + 1) m.written.keys)) (sym left) (slots-here h c.self.invariant.1 s m key c.args.place is here c.requires.place used chain) in
    let n : Member = record m { written = c.set_chain.new.self; pushed = m.pushed + 1; aside = c.spend-member.result } in (
      set-long i.members.items s n ∙ c.self.invariant.0,
      sound-spent v w h s m n key chain slots takes (is_file key c.args.place c.requires.place) some left is c.self.invariant.1
          (sound-rechained h.tables m c.set_chain.new.self key chain (c.self.invariant.1.each s m is) found.0 found.1 rechains n refl refl c.keys-keys.ensures.its (subst (λ (ks : List Dbkey). length ks < 2 ^ 32) c.keys-keys.ensures.value c.keys-keys.ensures.few) slots-now)
          (λ q line there. let old = line-before h.tables m c.set_chain.new.self key chain (c.self.invariant.1.each s m is) found.0 found.1 rechains q line there in (old.0, old.1)),
      slots-kept (with_member s n h) slots (free-kept h s m n c.requires.member is (ap is_free next.0) c.self.invariant.2),
    )

pub returns-clause-pushed : goal.returns-clause-pushed
returns-clause-pushed g c =
    let v = g.D.Disk.view c.args.disk.now in
    let w = g.D.Disk.view c.push_aside-answer.new.disk in
    let i = c.self.inside in
    let s = c.args.s.number in
    let key = c.args.key in
    let chain = c.push_aside-answer.new.chain in
    let slots : SnapshotSlots = c.push_aside-answer.new.slots in
    let e = c.push_aside-answer.ensures in
    let d = c.in_default.ensures in
    let m : Member = c.index_mut-member.result.now in
    let is : slice_get i.members.items s ≡ Some m = lent-there i.members.items s m (omega (arith, c.self.invariant.0, c.requires.member.last)) c.index_mut-member.ensures.value in
    let h : StoreMemory = record { limits = i.limits; numbers = i.numbers; next = i.next; tables = i.tables; slots = i.slots; members = i.members.items } in
    let takes : TakesAside v w key chain i.slots slots = record {
      writes = e.writes;
      reads = e.unused;
      keeps = e.keeps;
      others = e.others;
      spends = e.spends;
      free = λ image followed limit holds some. e.unfollowed image followed limit holds (λ bad. absurd (omega (arith, bad))) some;
      holds = e.holds;
    } in
    let stands : StandsAside v w key m.tsn chain i.slots slots = record {
      never = d.never;
      stands = d.stands;
      held = λ some tells now course limit holds ended goes facts. (d.followed some tells now course limit holds (λ bad. absurd (omega (arith, bad))) ended goes facts).1;
    } in
    let left : c.spend-member.result ≡ spent chain (snap_of key) m.aside = c.spend-member.ensures ∙ ap (λ (f : ℕ). spent chain f m.aside) (sym (its_file key c.args.place c.requires.place)) in
    record {
      member = m;
      was = ap (λ (k : StoreMemory). slice_get k.members s) (sym c.self.view_is) ∙ is;
      chain = chain;
      written = c.set_chain.new.self;
      rechains = record { line = c.set_chain.ensures.found; same = c.set_chain.ensures.same; keys = c.set_chain.ensures.keys };
      slots = slots;
      takes = subst (λ (k : StoreMemory). TakesAside v w key chain k.slots slots) c.self.view_is takes;
      stands = subst (λ (k : StoreMemory). StandsAside v w key m.tsn chain k.slots slots) c.self.view_is stands;
      is = ap (λ (x : Wanted). record (with_member s (record m { written = c.set_chain.new.self; pushed = m.pushed + 1; aside = x }) h) { slots = slots }) left
          ∙ ap (λ (k : StoreMemory). record (with_member s (with_spent chain (snap_of key) (pushed_more c.set_chain.new.self m)) k) { slots = slots }) c.self.view_is;
    }

pub returns-in-Err-clause-bad : goal.returns-in-Err-clause-bad
returns-in-Err-clause-bad g c =
    let v = g.D.Disk.view c.args.disk.now in
    λ file slot is h shown.
    c.in-Err.ensures.bad file slot is shown.tells (page_there v shown.ledger (g.met.D.Disk.content_left c.args.disk.now v.moment shown.tells (omega arith)) shown.facts c.args.key c.args.place c.requires.place)
