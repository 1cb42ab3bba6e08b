use Rattle.std.proofs.Common.{◌≡◌, List, Some, length, refl, sym, ap, subst, ◌∙◌, arith}
use Rattle.std.specs.Prelude.{slice_get}
use Rattle.rdb_types.specs.declared.keys.Dbkey.{Dbkey}
use Rattle.line_moves.specs.Lines.{ChangedLines}
use Rattle.member_memory.specs.Memory.{Memory}
use Rattle.disk_store.specs.declared.member.Member.{Member}
use Rattle.disk_store.specs.declared.held.Tables.{Tables}
use Rattle.disk_store.specs.Dying.{forgotten}
use Rattle.disk_store.specs.Landing.{PutsAll, group_behind, landed_with}
use Rattle.disk_store.specs.Memory.{StoreMemory, with_member}
use Rattle.disk_store.proofs.Members.{lent-there, set-long}
use Rattle.disk_store.proofs.Ordered.{found-by}
use Rattle.disk_store.proofs.CommitsKept.{due-room, landed-kept, landed-as, sound-landed}
use Rattle.disk_store.proofs.held.Held.land.Goals as goal

pub put_lines-requires : goal.put_lines-requires
put_lines-requires c =
    let i = c.self.inside in
    let s = c.args.s.number in
    let m : Member = c.index_mut-member.result.now in
    let is : slice_get i.members.items s ≡ Some m = lent-there i.members.items s m (omega (arith, c.self.invariant.0, c.requires.member.last)) c.index_mut-member.ensures.value in
    let its = c.self.invariant.1.each s m is in
    λ k line got.
    let lies = its.lies line.0 line.1 (found-by m.written.lines its.keys.ordered k line (ap (λ (ls : ChangedLines). slice_get ls k) (sym c.lines.ensures.value) ∙ got)) in
    (lies.place, lies.is, lies.is_line)

pub overflow_add-self : goal.overflow_add-self
overflow_add-self c =
    let i = c.self.inside in
    let s = c.args.s.number in
    let m : Member = c.index_mut-member.result.now in
    let is : slice_get i.members.items s ≡ Some m = lent-there i.members.items s m (omega (arith, c.self.invariant.0, c.requires.member.last)) c.index_mut-member.ensures.value in
    let h : StoreMemory = record { limits = i.limits; numbers = i.numbers; next = i.next; tables = i.tables; slots = i.slots; members = i.members.items } in
    let flies = c.requires.flies m (ap (λ (k : StoreMemory). slice_get k.members s) (sym c.self.view_is) ∙ is) in
    let room = due-room h s m c.requires.member is flies.0 flies.1 c.self.invariant.2 in
    let few = c.self.invariant.2.few in
    let count = ap (λ (ks : List Dbkey). length ks) c.keys.ensures.value in
    omega (arith, room, few, count)

pub overflow_add-self-2 : goal.overflow_add-self-2
overflow_add-self-2 c =
    let i = c.self.inside in
    let s = c.args.s.number in
    let m : Member = c.index_mut-member.result.now in
    let is : slice_get i.members.items s ≡ Some m = lent-there i.members.items s m (omega (arith, c.self.invariant.0, c.requires.member.last)) c.index_mut-member.ensures.value in
    let h : StoreMemory = record { limits = i.limits; numbers = i.numbers; next = i.next; tables = i.tables; slots = i.slots; members = i.members.items } in
    let flies = c.requires.flies m (ap (λ (k : StoreMemory). slice_get k.members s) (sym c.self.view_is) ∙ is) in
    let room = due-room h s m c.requires.member is flies.0 flies.1 c.self.invariant.2 in
    let few = c.self.invariant.2.few in
    let count = ap (λ (ks : List Dbkey). length ks) c.keys.ensures.value in
    omega (arith, room, few, count)

pub invariant_of-self : goal.invariant_of-self
invariant_of-self c =
    let i = c.self.inside in
    let s = c.args.s.number in
    let m : Member = c.index_mut-member.result.now in
    let is : slice_get i.members.items s ≡ Some m = lent-there i.members.items s m (omega (arith, c.self.invariant.0, c.requires.member.last)) c.index_mut-member.ensures.value in
    let h : StoreMemory = record { limits = i.limits; numbers = i.numbers; next = i.next; tables = i.tables; slots = i.slots; members = i.members.items } in
    let flies = c.requires.flies m (ap (λ (k : StoreMemory). slice_get k.members s) (sym c.self.view_is) ∙ is) in
    let kept : Tables = c.put_lines.new.tables in
    let n : Member = record m { stage = c.args.next; written = c.new.result } in
    let puts : PutsAll h.tables m.written.lines kept = subst (λ (ls : ChangedLines). PutsAll h.tables ls kept) c.lines.ensures.value c.put_lines.ensures in
    let count : length c.keys.result.now ≡ length m.written.keys = ap (λ (ks : List Dbkey). length ks) c.keys.ensures.value in
    let is_n : n ≡ forgotten c.args.next m = ap (λ (w : Memory). record m { stage = c.args.next; written = w }) c.new.ensures in (
      set-long i.members.items s n ∙ c.self.invariant.0,
      sound-landed h s m n kept (length c.keys.result.now) is c.self.invariant.1 puts refl refl c.new.ensures,
      landed-as h s m c.args.next kept n (length c.keys.result.now) is_n count (landed-kept h s m c.args.next kept c.requires.member is c.requires.free flies.0 flies.1 puts c.self.invariant.2),
    )

pub returns-clause-comes : goal.returns-clause-comes
returns-clause-comes c =
    let i = c.self.inside in
    let s = c.args.s.number in
    let m : Member = c.index_mut-member.result.now in
    let is : slice_get i.members.items s ≡ Some m = lent-there i.members.items s m (omega (arith, c.self.invariant.0, c.requires.member.last)) c.index_mut-member.ensures.value in
    let h : StoreMemory = record { limits = i.limits; numbers = i.numbers; next = i.next; tables = i.tables; slots = i.slots; members = i.members.items } in
    let kept : Tables = c.put_lines.new.tables in (
      m,
      ap (λ (k : StoreMemory). slice_get k.members s) (sym c.self.view_is) ∙ is,
      kept,
      subst (λ (k : StoreMemory). PutsAll k.tables m.written.lines kept) c.self.view_is (subst (λ (ls : ChangedLines). PutsAll h.tables ls kept) c.lines.ensures.value c.put_lines.ensures),
      ap (λ (w : Memory). record (with_member s (record m { stage = c.args.next; written = w }) h) { tables = kept; next = group_behind (length c.keys.result.now) i.next }) c.new.ensures
          ∙ (ap (λ (ks : List Dbkey). record (with_member s (forgotten c.args.next m) h) { tables = kept; next = group_behind (length ks) i.next }) c.keys.ensures.value
          ∙ ap (λ (k : StoreMemory). landed_with c.args.next kept s m k) c.self.view_is),
    )
