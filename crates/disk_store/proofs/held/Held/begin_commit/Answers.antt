use Rattle.std.proofs.Common.{◌≡◌, ◌==◌, ℕ, false, subst, Some, refl, sym, ap, ◌∙◌, arith}
use Rattle.std.specs.Prelude.{slice_get}
use Rattle.disk_store.specs.declared.member.Member.{Member}
use Rattle.disk_store.specs.declared.member.MemberStage.TheVariants as stage
use Rattle.disk_store.specs.Memory.{StoreMemory, at_stage, with_member}
use Rattle.disk_store.specs.Sound.{IsSound}
use Rattle.disk_store.proofs.Members.{lent-there, set-long}
use Rattle.disk_store.proofs.Sound.{sound-member, sound-as, keeps-lines}
use Rattle.member_rooms.specs.member_steps.declared.committing.CommitTurn.TheVariants.{Entering}
use Rattle.disk_store.specs.Seats.{IsAtStage}
use Rattle.disk_store.specs.Commits.{is_flying}
use Rattle.disk_store.proofs.CommitsKept.{begun-kept}
use Rattle.disk_store.proofs.held.Held.begin_commit.Goals as goal

pub invariant_of-self : goal.invariant_of-self
invariant_of-self c =
    let i = c.self.inside in
    let s = c.args.s.number in
    let m : Member = c.index_mut-member.result.now in
    let is : slice_get i.members.items s ≡ Some m = lent-there i.members.items s m (omega (arith, c.self.invariant.0, c.requires.member.last)) c.index_mut-member.ensures.value in
    let h : StoreMemory = record { limits = i.limits; numbers = i.numbers; next = i.next; tables = i.tables; slots = i.slots; members = i.members.items } in
    let sound : IsSound h = c.self.invariant.1 in
    let n : Member = at_stage (stage.Committing (Entering 0)) m in
    (set-long i.members.items s n ∙ c.self.invariant.0, sound-member h s m n is sound (sound-as h.tables m n refl refl refl refl (sound.each s m is)) (keeps-lines m n refl refl), begun-kept h s m n c.requires.member is (subst (λ (k : StoreMemory). IsAtStage k.members s stage.Prepared) (sym c.self.view_is) c.requires.prepared) refl refl refl (subst (λ (k : StoreMemory). (t : ℕ) (x : Member) → (t == s) ≡ false → slice_get k.members t ≡ Some x → is_flying x.stage ≡ false) (sym c.self.view_is) c.requires.alone) c.self.invariant.2)

pub returns-clause-comes : goal.returns-clause-comes
returns-clause-comes c =
    let i = c.self.inside in
    let s = c.args.s.number in
    let m : Member = c.index_mut-member.result.now in
    let is : slice_get i.members.items s ≡ Some m = lent-there i.members.items s m (omega (arith, c.self.invariant.0, c.requires.member.last)) c.index_mut-member.ensures.value in
    (m, ap (λ (h : StoreMemory). slice_get h.members s) (sym c.self.view_is) ∙ is, ap (λ (h : StoreMemory). with_member s (at_stage (stage.Committing (Entering 0)) m) h) c.self.view_is)
