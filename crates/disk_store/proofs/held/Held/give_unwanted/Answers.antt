use Rattle.std.proofs.Common.{List, sym, ap, subst, ◌∙◌}
use Rattle.std.specs.Prelude.{slice_get}
use Rattle.reader_lines.specs.version_writing.Tables.{table_of}
use Rattle.reader_lines.specs.version_writing.Wanting.{Sifts}
use Rattle.reader_lines.specs.version_writing.declared.snapshot_slots.SnapshotSlots.{SnapshotSlots}
use Rattle.disk_store.specs.declared.member.Member.{Member}
use Rattle.disk_store.specs.declared.member.MemberStage.TheVariants as stage
use Rattle.disk_store.specs.ChangeSteps.{without_asides}
use Rattle.disk_store.specs.Giving.{IsUnwanted, SiftsAll, without_slots}
use Rattle.disk_store.specs.Memory.{StoreMemory, with_member}
use Rattle.disk_store.specs.Seats.{IsAtStage}
use Rattle.disk_store.proofs.SlotsSound.{each-file, slots-sound}
use Rattle.disk_store.proofs.CommitsKept.{slots-kept}
use Rattle.disk_store.proofs.held.Held.give_unwanted.Goals as goal

sifts-all : (members : List Member) (old new : SnapshotSlots) → Sifts (λ tsn. IsUnwanted tsn members) old.catalog new.catalog → Sifts (λ tsn. IsUnwanted tsn members) old.relations new.relations → Sifts (λ tsn. IsUnwanted tsn members) old.indexes new.indexes → SiftsAll members old new
sifts-all members old new a b d = each-file (λ f. Sifts (λ tsn. IsUnwanted tsn members) (table_of old f) (table_of new f)) a b d

pub invariant_of-self : goal.invariant_of-self
invariant_of-self c =
    let i = c.self.inside in
    let h : StoreMemory = record { limits = i.limits; numbers = i.numbers; next = i.next; tables = i.tables; slots = i.slots; members = i.members.items } in
    let mid : SnapshotSlots = c.give_unwanted.new.self in
    let e = c.give_unwanted.ensures in
    let all = sifts-all _ i.slots mid e.catalog e.relations e.indexes in
    (c.self.invariant.0, slots-sound h mid (λ file is. (all file is).may.aside) c.self.invariant.1, slots-kept h mid c.self.invariant.2)

pub leave_aside-requires-clause-outside : goal.leave_aside-requires-clause-outside
leave_aside-requires-clause-outside c = subst (λ (k : StoreMemory). IsAtStage k.members c.args.s.number stage.Outside) (sym c.self.view_is) c.requires.outside

pub returns : goal.returns
returns c =
    let i = c.self.inside in
    let s = c.args.s.number in
    let mid : SnapshotSlots = c.give_unwanted.new.self in
    let e = c.give_unwanted.ensures in
    let leaves = c.leave_aside.ensures in
    let m : Member = leaves.member in
    let all : SiftsAll i.members.items i.slots mid = subst (λ (ms : List Member). SiftsAll ms i.slots mid) c.as_slice.ensures.value (sifts-all _ i.slots mid e.catalog e.relations e.indexes) in
    record {
      member = m;
      was = ap (λ (k : StoreMemory). slice_get k.members s) (sym c.self.view_is) ∙ leaves.was;
      mid = mid;
      sifts = subst (λ (k : StoreMemory). SiftsAll k.members k.slots mid) c.self.view_is all;
      is = leaves.is ∙ ap (λ (k : StoreMemory). record (with_member s (without_slots m) k) { slots = without_asides m.aside mid }) c.self.view_is;
    }
