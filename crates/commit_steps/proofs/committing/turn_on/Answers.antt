use Rattle.std.proofs.Common.{◌≡◌, ◌≢◌, ◌⊎◌, ℕ, List, inl, inr, length, sym, ap, subst, true, ◌∙◌, arith}
use Rattle.std.specs.Prelude.{slice_get}
use Rattle.rdb_types.specs.declared.file.FileKind.{FileKind}
use Rattle.rdb_types.specs.declared.file.FileKind.TheVariants.{Aij, Area, Root, Snap}
use Rattle.line_moves.specs.Lines.{ChangedLines, AreDistinct}
use Rattle.line_seat.specs.declared.commit.GroupPlace.{GroupPlace}
use Rattle.line_seat.specs.Groups.{ArePlaced}
use Rattle.disk_store.specs.declared.member.Member.{Member}
use Rattle.disk_store.specs.declared.member.MemberStage.TheVariants as stage
use Rattle.disk_store.specs.Commits.{is_flying}
use Rattle.commit_steps.specs.Turns.{MakesTurn}
use Rattle.disk_store.proofs.Closing.{one-member}
use Rattle.disk_store.proofs.Ordered.{are-distinct}
use Rattle.commit_steps.proofs.Planning.{all-placed, all-allowed}
use Rattle.disk_store.proofs.CommitsKept.{due-room, ready-now}
use Rattle.disk_store.specs.OwnFiles.{is_own}
use Rattle.commit_steps.proofs.committing.turn_on.Goals as goal

-- an area file or the after-image journal
aside-of : (kind : FileKind) → (kind ≡ Area) ⊎ (kind ≡ Aij) → (is_own kind ≡ true) × (kind ≢ Snap) × (kind ≢ Root)
aside-of kind is = elim is [
  | inl area ↦ (ap is_own area, (λ k. let bad : Area ≡ Snap = sym area ∙ k in cc), (λ k. let bad : Area ≡ Root = sym area ∙ k in cc))
  | inr aij ↦ (ap is_own aij, (λ k. let bad : Aij ≡ Snap = sym aij ∙ k in cc), (λ k. let bad : Aij ≡ Root = sym aij ∙ k in cc))
]

pub commit_next-requires-clause-distinct : goal.commit_next-requires-clause-distinct
commit_next-requires-clause-distinct g c =
    let m : Member = c.member-member.result.now in
    subst AreDistinct (sym c.lines.ensures.value) (are-distinct m.written.lines (c.sound.ensures.each c.args.s.number m c.member-member.ensures).keys.ordered)

pub commit_next-requires-clause-placed : goal.commit_next-requires-clause-placed
commit_next-requires-clause-placed g c =
    let m : Member = c.member-member.result.now in
    let ready = ready-now c.args.held.now c.args.s.number m c.args.turn c.keeps_commits.ensures c.requires.commits c.member-member.ensures in
    subst ArePlaced (sym c.lines.ensures.value) (all-placed c.args.held.now.tables m.written.lines m.classes.items ready.0)

pub commit_next-requires-clause-classes : goal.commit_next-requires-clause-classes
commit_next-requires-clause-classes g c =
    let m : Member = c.member-member.result.now in
    let ready = ready-now c.args.held.now c.args.s.number m c.args.turn c.keeps_commits.ensures c.requires.commits c.member-member.ensures in
    ap (λ (cs : List ℕ). length cs) c.deref.ensures.value ∙ (ready.0.long ∙ sym (ap (λ (ls : ChangedLines). length ls) c.lines.ensures.value))

pub commit_next-requires-clause-allowed : goal.commit_next-requires-clause-allowed
commit_next-requires-clause-allowed g c =
    let m : Member = c.member-member.result.now in
    let ready = ready-now c.args.held.now c.args.s.number m c.args.turn c.keeps_commits.ensures c.requires.commits c.member-member.ensures in
    λ i line class got of. all-allowed c.args.held.now.tables m.written.lines m.classes.items ready.0 i line class
    (ap (λ (ls : ChangedLines). slice_get ls i) (sym c.lines.ensures.value) ∙ got) (ap (λ (cs : List ℕ). slice_get cs i) (sym c.deref.ensures.value) ∙ of)

pub commit_next-requires-clause-room : goal.commit_next-requires-clause-room
commit_next-requires-clause-room g c =
    let m : Member = c.member-member.result.now in
    let s = c.args.s.number in
    let was = c.member-member.ensures in
    let held = c.args.held.now in
    let flies = ap is_flying (subst (λ (x : Member). x.stage ≡ stage.Committing c.args.turn) (one-member held.members s c.requires.commits.member m c.requires.commits.is was) c.requires.commits.at) in
    let room = due-room held s m c.requires.member was flies (c.requires.some m was) c.keeps_commits.ensures in
    let few = c.keeps_commits.ensures.few in
    let slot = ap (λ (p : GroupPlace). p.slot) (c.group_of-group.ensures m was) in
    let long = (c.sound.ensures.each s m was).keys.long in
    let count = ap (λ (ls : ChangedLines). length ls) c.lines.ensures.value in
    omega (arith, room, few, slot, long, count)

pub returns : goal.returns
returns g c m was =
    let v = g.D.Disk.view c.args.disk.now in
    let w = g.D.Disk.view c.commit_next.new.disk in
    let held = c.args.held.now in
    let x : Member = c.member-member.result.now in
    let same : x ≡ m = one-member held.members c.args.s.number x m c.member-member.ensures was in
    let writes = c.commit_next.ensures.files in
    let aside = aside-of writes.0.kind writes.2 in
    let made : MakesTurn v w c.args.turn c.group_of-group.result c.lines.result.now c.deref.result.now c.commit_next.result = record {
      distinct = subst AreDistinct (sym c.lines.ensures.value) (are-distinct x.written.lines (c.sound.ensures.each c.args.s.number x c.member-member.ensures).keys.ordered);
      writes = record { file = writes.0; slot = writes.1; own = aside.0; not_snap = aside.1; not_root = aside.2; only = writes.3 };
      journals = c.commit_next.ensures.journals;
      failed = c.commit_next.ensures.failed;
      bad = c.commit_next.ensures.bad;
      changes = c.commit_next.ensures.changes;
      classed = c.commit_next.ensures.classes;
      owners = c.commit_next.ensures.owners;
      keeps = c.commit_next.ensures.keeps;
      order = c.commit_next.ensures.order;
      further = c.commit_next.ensures.further;
      goes_on = c.commit_next.ensures.goes_on;
    } in
    subst (λ (p : GroupPlace). MakesTurn v w c.args.turn p m.written.lines m.classes.items c.commit_next.result) (c.group_of-group.ensures m was)
    (subst (λ (y : Member). MakesTurn v w c.args.turn c.group_of-group.result y.written.lines y.classes.items c.commit_next.result) same
    (subst (λ (ls : ChangedLines). MakesTurn v w c.args.turn c.group_of-group.result ls x.classes.items c.commit_next.result) c.lines.ensures.value
    (subst (λ (cs : List ℕ). MakesTurn v w c.args.turn c.group_of-group.result c.lines.result.now cs c.commit_next.result) c.deref.ensures.value made)))
