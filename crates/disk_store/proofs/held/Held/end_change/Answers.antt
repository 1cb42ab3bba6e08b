use Rattle.std.proofs.Common.{◌≡◌, List, drop, length, Some, refl, sym, ap, subst, ◌∙◌, arith}
use Rattle.std.specs.Prelude.{slice_get}
use Rattle.rdb_types.specs.declared.keys.Dbkey.{Dbkey}
use Rattle.reader_lines.specs.version_writing.declared.snapshot_slots.SnapshotSlots.{SnapshotSlots}
use Rattle.disk_store.specs.declared.member.Member.{Member}
use Rattle.disk_store.specs.ChangeSteps.{change_ended, no_slots, without_asides, written_now}
use Rattle.disk_store.specs.Memory.{StoreMemory, with_member}
use Rattle.disk_store.specs.Sound.{HasSlotsFor, IsSound}
use Rattle.disk_store.proofs.Members.{lent-there, set-long}
use Rattle.disk_store.proofs.Sound.{sound-but}
use Rattle.disk_store.proofs.SlotsSound.{aside-there, left-keeps, left-no-more, slots-through, sound-slots}
use Rattle.disk_store.proofs.CommitsKept.{free-kept, slots-kept}
use Rattle.disk_store.proofs.held.Held.end_change.Goals as goal

pub leave-requires-clause-catalog : goal.leave-requires-clause-catalog
leave-requires-clause-catalog c =
    let i = c.self.inside in
    let s = c.args.s.number in
    let m : Member = c.index_mut-member.result.now in
    let is : slice_get i.members.items s ≡ Some m = lent-there i.members.items s m (omega (arith, c.self.invariant.0, c.requires.member.last)) c.index_mut-member.ensures.value in
    let h : StoreMemory = record { limits = i.limits; numbers = i.numbers; next = i.next; tables = i.tables; slots = i.slots; members = i.members.items } in
    aside-there h s m is c.self.invariant.1 1 (record { first = omega arith; last = omega arith })

pub leave-requires-clause-relations : goal.leave-requires-clause-relations
leave-requires-clause-relations c =
    let i = c.self.inside in
    let s = c.args.s.number in
    let m : Member = c.index_mut-member.result.now in
    let is : slice_get i.members.items s ≡ Some m = lent-there i.members.items s m (omega (arith, c.self.invariant.0, c.requires.member.last)) c.index_mut-member.ensures.value in
    let h : StoreMemory = record { limits = i.limits; numbers = i.numbers; next = i.next; tables = i.tables; slots = i.slots; members = i.members.items } in
    aside-there h s m is c.self.invariant.1 2 (record { first = omega arith; last = omega arith })

pub leave-requires-clause-indexes : goal.leave-requires-clause-indexes
leave-requires-clause-indexes c =
    let i = c.self.inside in
    let s = c.args.s.number in
    let m : Member = c.index_mut-member.result.now in
    let is : slice_get i.members.items s ≡ Some m = lent-there i.members.items s m (omega (arith, c.self.invariant.0, c.requires.member.last)) c.index_mut-member.ensures.value in
    let h : StoreMemory = record { limits = i.limits; numbers = i.numbers; next = i.next; tables = i.tables; slots = i.slots; members = i.members.items } in
    aside-there h s m is c.self.invariant.1 3 (record { first = omega arith; last = omega arith })

pub invariant_of-self : goal.invariant_of-self
invariant_of-self c =
    let i = c.self.inside in
    let s = c.args.s.number in
    let m : Member = c.index_mut-member.result.now in
    let is : slice_get i.members.items s ≡ Some m = lent-there i.members.items s m (omega (arith, c.self.invariant.0, c.requires.member.last)) c.index_mut-member.ensures.value in
    let h : StoreMemory = record { limits = i.limits; numbers = i.numbers; next = i.next; tables = i.tables; slots = i.slots; members = i.members.items } in
    let n : Member = record (written_now m) { pushed = length c.keys-count.result.now } in
    let left : c.leave.new.self ≡ without_asides m.aside i.slots = λ j. record { catalog = c.leave.ensures.catalog j; relations = c.leave.ensures.relations j; indexes = c.leave.ensures.indexes j } in (
      set-long i.members.items s n ∙ c.self.invariant.0,
      subst (λ (slots : SnapshotSlots). IsSound (record (with_member s n h) { slots = slots })) (sym left)
          (sound-slots h s m n (without_asides m.aside i.slots) is c.self.invariant.1 (sound-but h.tables m n refl refl (subst (λ (ks : List Dbkey). HasSlotsFor h.tables no_slots (drop (length ks) m.written.keys)) (sym c.keys-count.ensures.value) (slots-through h.tables no_slots m.written.keys)) (c.self.invariant.1.each s m is)) (record { lines = λ key line found. (line, found); asides = left-no-more m.aside }) (left-keeps m.aside i.slots)),
      slots-kept (with_member s n h) c.leave.new.self (free-kept h s m n c.requires.member is refl c.self.invariant.2),
    )

pub returns : goal.returns
returns c =
    let i = c.self.inside in
    let s = c.args.s.number in
    let m : Member = c.index_mut-member.result.now in
    let is : slice_get i.members.items s ≡ Some m = lent-there i.members.items s m (omega (arith, c.self.invariant.0, c.requires.member.last)) c.index_mut-member.ensures.value in
    let h : StoreMemory = record { limits = i.limits; numbers = i.numbers; next = i.next; tables = i.tables; slots = i.slots; members = i.members.items } in
    let left : c.leave.new.self ≡ without_asides m.aside i.slots = λ j. record { catalog = c.leave.ensures.catalog j; relations = c.leave.ensures.relations j; indexes = c.leave.ensures.indexes j } in (
      m,
      ap (λ (k : StoreMemory). slice_get k.members s) (sym c.self.view_is) ∙ is,
      ap (λ (slots : SnapshotSlots). record (with_member s (record (written_now m) { pushed = length c.keys-count.result.now }) h) { slots = slots }) left
          ∙ (ap (λ (ks : List Dbkey). record (with_member s (record (written_now m) { pushed = length ks }) h) { slots = without_asides m.aside i.slots }) c.keys-count.ensures.value
          ∙ ap (λ (k : StoreMemory). change_ended s m k) c.self.view_is),
    )
