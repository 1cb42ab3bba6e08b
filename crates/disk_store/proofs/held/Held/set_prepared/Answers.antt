use Rattle.std.proofs.Common.{◌≡◌, Some, refl, sym, ap, subst, ◌∙◌, arith}
use Rattle.std.specs.Prelude.{slice_get}
use Rattle.disk_store.specs.declared.member.Member.{Member}
use Rattle.disk_store.specs.declared.member.MemberStage.TheVariants as stage
use Rattle.disk_store.specs.Commits.{AreOfPages, HasRoomFor}
use Rattle.disk_store.specs.Memory.{StoreMemory, with_member}
use Rattle.disk_store.specs.Sound.{IsSound}
use Rattle.disk_store.proofs.Members.{lent-there, set-long}
use Rattle.disk_store.proofs.Sound.{sound-member, sound-as, keeps-lines}
use Rattle.disk_store.proofs.CommitsKept.{prepared-kept}
use Rattle.disk_store.proofs.held.Held.set_prepared.Goals as goal

pub invariant_of-self : goal.invariant_of-self
invariant_of-self c =
    let i = c.self.inside in
    let s = c.args.s.number in
    let m : Member = c.index_mut-member.result.now in
    let is : slice_get i.members.items s ≡ Some m = lent-there i.members.items s m (omega (arith, c.self.invariant.0, c.requires.member.last)) c.index_mut-member.ensures.value in
    let h : StoreMemory = record { limits = i.limits; numbers = i.numbers; next = i.next; tables = i.tables; slots = i.slots; members = i.members.items } in
    let sound : IsSound h = c.self.invariant.1 in
    let n : Member = record m { stage = stage.Prepared; classes = c.args.classes } in
    let got = ap (λ (k : StoreMemory). slice_get k.members s) (sym c.self.view_is) ∙ is in (
      set-long i.members.items s n ∙ c.self.invariant.0,
      sound-member h s m n is sound (sound-as h.tables m n refl refl refl refl (sound.each s m is)) (keeps-lines m n refl refl),
      prepared-kept h s m n c.requires.member is (λ t x at. (sound.each t x at).keys) refl refl
          (subst (λ (k : StoreMemory). AreOfPages k.tables m.written.lines c.args.classes.items) (sym c.self.view_is) (c.requires.classes m got)) (subst (λ (k : StoreMemory). HasRoomFor k s m) (sym c.self.view_is) (c.requires.room m got)) c.self.invariant.2,
    )

pub returns-clause-comes : goal.returns-clause-comes
returns-clause-comes c =
    let i = c.self.inside in
    let s = c.args.s.number in
    let m : Member = c.index_mut-member.result.now in
    let is : slice_get i.members.items s ≡ Some m = lent-there i.members.items s m (omega (arith, c.self.invariant.0, c.requires.member.last)) c.index_mut-member.ensures.value in
    let n : Member = record m { stage = stage.Prepared; classes = c.args.classes } in
    (m, ap (λ (k : StoreMemory). slice_get k.members s) (sym c.self.view_is) ∙ is, n, record { is = refl; classes_are = refl }, ap (λ (k : StoreMemory). with_member s n k) c.self.view_is)
