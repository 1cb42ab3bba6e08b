use Rattle.std.proofs.Common.{◌≡◌, ◌<◌, ◌^◌, List, length, Some, refl, sym, ap, subst, ◌∙◌, arith}
use Rattle.std.specs.Prelude.{slice_get}
use Rattle.rdb_types.specs.declared.keys.Dbkey.{Dbkey}
use Rattle.disk_store.specs.declared.member.Member.{Member}
use Rattle.disk_store.specs.ChangeSteps.{IsNext, Rechains, pushed_more}
use Rattle.disk_store.specs.Commits.{is_free}
use Rattle.disk_store.specs.Memory.{StoreMemory, with_member}
use Rattle.disk_store.proofs.Members.{lent-there, set-long}
use Rattle.disk_store.proofs.Sound.{sound-member}
use Rattle.disk_store.proofs.SlotsSound.{found-key, next-its, rechained-lessens, slots-passed, sound-rechained}
use Rattle.disk_store.proofs.CommitsKept.{free-kept}
use Rattle.disk_store.proofs.held.Held.pass_next.Goals as goal

pub invariant_of-self : goal.invariant_of-self
invariant_of-self c =
    let i = c.self.inside in
    let s = c.args.s.number in
    let key = c.args.key in
    let m : Member = c.index_mut-member.result.now in
    let is : slice_get i.members.items s ≡ Some m = lent-there i.members.items s m (omega (arith, c.self.invariant.0, c.requires.member.last)) c.index_mut-member.ensures.value in
    let h : StoreMemory = record { limits = i.limits; numbers = i.numbers; next = i.next; tables = i.tables; slots = i.slots; members = i.members.items } in
    let next = next-its h.members s key m is (subst (λ (k : StoreMemory). IsNext k.members s key) (sym c.self.view_is) c.requires.next) in
    let found = found-key h c.self.invariant.1 s m is m.pushed key next.1 in
    let rechains : Rechains key 0 m.written c.set_chain.new.self = record { line = c.set_chain.ensures.found; same = c.set_chain.ensures.same; keys = c.set_chain.ensures.keys } in
    let its = c.self.invariant.1.each s m is in
    let n : Member = pushed_more c.set_chain.new.self m in (
      set-long i.members.items s n ∙ c.self.invariant.0,
      sound-member h s m n is c.self.invariant.1
          (sound-rechained h.tables m c.set_chain.new.self key 0 its found.0 found.1 rechains n refl refl c.keys-keys.ensures.its (subst (λ (ks : List Dbkey). length ks < 2 ^ 32) c.keys-keys.ensures.value c.keys-keys.ensures.few) (slots-passed h.tables m key next.1 its.slots))
          (rechained-lessens h.tables m c.set_chain.new.self key 0 its found.0 found.1 rechains n refl (λ file. omega arith)),
      free-kept h s m n c.requires.member is (ap is_free next.0) c.self.invariant.2,
    )

pub returns : goal.returns
returns c =
    let i = c.self.inside in
    let s = c.args.s.number in
    let m : Member = c.index_mut-member.result.now in
    let is : slice_get i.members.items s ≡ Some m = lent-there i.members.items s m (omega (arith, c.self.invariant.0, c.requires.member.last)) c.index_mut-member.ensures.value in
    record {
      member = m;
      was = ap (λ (k : StoreMemory). slice_get k.members s) (sym c.self.view_is) ∙ is;
      written = c.set_chain.new.self;
      rechains = record { line = c.set_chain.ensures.found; same = c.set_chain.ensures.same; keys = c.set_chain.ensures.keys };
      never = c.requires.never;
      is = ap (λ (k : StoreMemory). with_member s (pushed_more c.set_chain.new.self m) k) c.self.view_is;
    }
