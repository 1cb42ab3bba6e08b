use Rattle.std.proofs.Common.{◌≡◌, ℕ, List, ⊎_elim, sym, ap, subst, ◌∙◌, arith}
use Rattle.std.specs.Prelude.{slice_get}
use Rattle.std.proofs.lemmas.Option.{same_Some}
use Rattle.stable_lines.specs.Slots.{IsAreaFile}
use Rattle.reader_lines.specs.version_writing.Tables.{table_of}
use Rattle.reader_lines.specs.version_writing.declared.snapshot_slots.SnapshotSlots.{SnapshotSlots}
use Rattle.disk_store.specs.declared.member.Member.{Member}
use Rattle.disk_store.specs.declared.member.MemberStage.TheVariants as stage
use Rattle.disk_store.specs.ChangeSteps.{without_asides}
use Rattle.disk_store.specs.Giving.{GivesUnwanted, IsUnwanted, MayGive, without_slots}
use Rattle.disk_store.specs.Memory.{StoreMemory, with_member}
use Rattle.disk_store.specs.Seats.{IsAtStage}
use Rattle.disk_store.proofs.Members.{lent-there}
use Rattle.disk_store.proofs.SlotsSound.{slots-sound}
use Rattle.disk_store.proofs.CommitsKept.{slots-kept}
use Rattle.disk_store.proofs.held.Held.give_slots.Goals as goal

-- as many are set aside
may-aside : (tsn : ℕ) (members : List Member) (old new : SnapshotSlots) → MayGive tsn members old new → (file : ℕ) → IsAreaFile file → (table_of new file).aside ≡ (table_of old file).aside
may-aside tsn members old new may file is = ⊎_elim (λ (same : (new ≡ old) × (IsUnwanted tsn members → ⊥)). ap (λ (x : SnapshotSlots). (table_of x file).aside) same.0) (λ (given : GivesUnwanted tsn members old new). (given.back file is).aside) may

pub give_pushed-requires : goal.give_pushed-requires
give_pushed-requires c =
    let i = c.self.inside in
    let s = c.args.s.number in
    let m : Member = c.index.result.now in
    (c.self.invariant.1.each s m (lent-there i.members.items s m (omega (arith, c.self.invariant.0, c.requires.member.last)) c.index.ensures)).first

pub invariant_of-self : goal.invariant_of-self
invariant_of-self c =
    let i = c.self.inside in
    let h : StoreMemory = record { limits = i.limits; numbers = i.numbers; next = i.next; tables = i.tables; slots = i.slots; members = i.members.items } in
    let mid : SnapshotSlots = c.give_pushed.new.slots in
    (c.self.invariant.0, slots-sound h mid (may-aside _ _ i.slots mid c.give_pushed.ensures) c.self.invariant.1, slots-kept h mid c.self.invariant.2)

pub leave_aside-requires-clause-outside : goal.leave_aside-requires-clause-outside
leave_aside-requires-clause-outside c = subst (λ (k : StoreMemory). IsAtStage k.members c.args.s.number stage.Outside) (sym c.self.view_is) c.requires.outside

pub returns : goal.returns
returns c =
    let i = c.self.inside in
    let s = c.args.s.number in
    let mid : SnapshotSlots = c.give_pushed.new.slots in
    let leaves = c.leave_aside.ensures in
    let m : Member = leaves.member in
    let first : Member = c.index.result.now in
    let one : first ≡ m = same_Some first m (sym (lent-there i.members.items s first (omega (arith, c.self.invariant.0, c.requires.member.last)) c.index.ensures) ∙ leaves.was) in
    let may : MayGive m.tsn.number i.members.items i.slots mid = subst (λ (x : Member). MayGive x.tsn.number i.members.items i.slots mid) one (subst (λ (ms : List Member). MayGive first.tsn.number ms i.slots mid) c.as_slice.ensures.value c.give_pushed.ensures) in
    record {
      member = m;
      was = ap (λ (k : StoreMemory). slice_get k.members s) (sym c.self.view_is) ∙ leaves.was;
      mid = mid;
      gives = subst (λ (k : StoreMemory). MayGive m.tsn.number k.members k.slots mid) c.self.view_is may;
      is = leaves.is ∙ ap (λ (k : StoreMemory). record (with_member s (without_slots m) k) { slots = without_asides m.aside mid }) c.self.view_is;
    }
