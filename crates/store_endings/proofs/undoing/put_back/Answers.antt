use Rattle.std.proofs.Common.{◌≡◌, ◌≢◌, ◌+◌, ℕ, Bool, true, List, Some, Err, sym, subst, ap, ◌∙◌, arith}
use Rattle.std.specs.Prelude.{slice_get}
use Rattle.rdb_types.specs.declared.keys.Limits.{Limits}
use Rattle.line_store.specs.Calls.{GoesOn, Fails}
use Rattle.line_store.proofs.Causes.{cause-of}
use Rattle.line_store.specs.Seats.{failed_at}
use Rattle.disk_seats.specs.Ledgers.{undoing, stands_as}
use Rattle.disk_seats.specs.Members.{LedgerFacts}
use Rattle.disk_store.specs.declared.member.Member.{Member}
use Rattle.disk_store.specs.declared.member.MemberStage.TheVariants as stage
use Rattle.disk_store.specs.declared.member.Recovery.{Recovery}
use Rattle.disk_store.specs.declared.member.Recovery.TheVariants as recovery
use Rattle.disk_store.specs.Commits.{is_flying, IsReady}
use Rattle.disk_store.specs.Dying.{undoing_with}
use Rattle.disk_store.specs.Memory.{StoreMemory, with_member, at_stage}
use Rattle.disk_store.specs.Seats.{stand_at, IsAtStage, steps_at, steps_of, steps_in, recovery_left}
use Rattle.disk_store.specs.Shown.{DoesOn}
use Rattle.disk_store.proofs.Members.{set-here}
use Rattle.disk_store.proofs.DeadStages.{undoing-ready}
use Rattle.disk_store.proofs.Closing.{one-member}
use Rattle.disk_store.proofs.Failing.{does-failed, moves-failed}
use Rattle.store_endings.proofs.PutBack.{undone-with, does-back, does-none-left, fewer-left}
use Rattle.disk_store.proofs.OwnFiles.{own-area, own-none}
use Rattle.store_endings.proofs.undoing.put_back.Goals as goal

-- it was dead before
flies-still : (members : List Member) (s : ℕ) (commits : Bool) (left : Recovery) → IsAtStage members s (stage.Dead commits left) → commits ≡ true → (m : Member) → slice_get members s ≡ Some m → is_flying m.stage ≡ true
flies-still members s commits left at flies m is = ap (λ (x : Member). is_flying x.stage) (one-member members s m at.member is at.is) ∙ (ap is_flying at.at ∙ flies)

pub set_dead-requires-clause-flies : goal.set_dead-requires-clause-flies
set_dead-requires-clause-flies g c flies m is = flies-still c.args.held.now.members c.args.s.number c.args.commits (recovery.Undoing c.args.left) c.requires.died flies m is

pub set_dead-requires-in-Ok-clause-flies : goal.set_dead-requires-in-Ok-clause-flies
set_dead-requires-in-Ok-clause-flies g c flies m is = flies-still c.args.held.now.members c.args.s.number c.args.commits (recovery.Undoing c.args.left) c.requires.died flies m is

pub set_dead-requires-in-Err-clause-flies : goal.set_dead-requires-in-Err-clause-flies
set_dead-requires-in-Err-clause-flies g c flies m is = flies-still c.args.held.now.members c.args.s.number c.args.commits (recovery.Undoing c.args.left) c.requires.died flies m is

pub set_dead-requires-in-Ok-clause-ready : goal.set_dead-requires-in-Ok-clause-ready
set_dead-requires-in-Ok-clause-ready g c m is = subst (λ (r : Recovery). IsReady (stage.Dead c.args.commits r) c.args.held.now.tables (at_stage (stage.Dead c.args.commits r) m)) (sym c.undoing-recovery.ensures) (undoing-ready c.args.commits c.in-Ok.rest c.args.held.now.tables _)

pub returns-then-left-eq0-clause-comes : goal.returns-then-left-eq0-clause-comes
returns-then-left-eq0-clause-comes g c =
    let v = g.D.Disk.view c.args.disk.now in
    let s = c.args.s.number in
    let held = c.args.held.now in
    let at = c.requires.died in
    let comes = c.set_dead.ensures.comes in
    let same : comes.0 ≡ at.member = one-member held.members s comes.0 at.member comes.1 at.is in
    subst (λ new. DoesOn s (stand_at held.members s) (λ h k. GoesOn s h k) v held v new)
    (sym (comes.2 ∙ ap (λ (x : Member). with_member s (at_stage (stage.Dead c.args.commits recovery.Restoring) x) held) same))
    (does-none-left v held s at.member c.args.commits c.args.left at.is at.at c.if-left-eq0.true)

pub returns-then-left-eq0-clause-less : goal.returns-then-left-eq0-clause-less
returns-then-left-eq0-clause-less g c more =
    let s = c.args.s.number in
    let held = c.args.held.now in
    let at = c.requires.died in
    let comes = c.set_dead.ensures.comes in
    let next = at_stage (stage.Dead c.args.commits recovery.Restoring) comes.0 in
    let behind : steps_at c.set_dead.new.self.members s ≡ 2 = ap (λ (x : StoreMemory). steps_at x.members s) comes.2 ∙ ap steps_of (set-here held.members s next c.set_dead.ensures.within) in
    let before : steps_at held.members s ≡ c.args.left + 3 = ap steps_of at.is ∙ ap (λ x. steps_in x at.member) at.at in
    omega (arith, behind, before)

pub returns-in-Ok-clause-comes : goal.returns-in-Ok-clause-comes
returns-in-Ok-clause-comes g c =
    let v = g.D.Disk.view c.args.disk.now in
    let w = g.D.Disk.view c.undo.new.disk in
    let s = c.args.s.number in
    let held = c.args.held.now in
    let at = c.requires.died in
    let mine : c.member-member.result.now ≡ at.member = one-member held.members s c.member-member.result.now at.member c.member-member.ensures at.is in
    let comes = c.set_dead-in-Ok.ensures.comes in
    let same : comes.0 ≡ at.member = one-member held.members s comes.0 at.member comes.1 at.is in
    let writes = c.undo.ensures.writes in
    subst (λ new. DoesOn s (stand_at held.members s) (λ h k. GoesOn s h k) v held w new)
    (sym (comes.2 ∙ ap (λ (x : Member). with_member s (at_stage (stage.Dead c.args.commits c.undoing-recovery.result) x) held) same ∙ ap (λ (r : Recovery). with_member s (at_stage (stage.Dead c.args.commits r) at.member) held) c.undoing-recovery.ensures))
    (does-back v w held s at.member c.args.commits c.args.left c.in-Ok.rest (undoing_with c.in-Ok.rest) at.is at.at (λ ledger u. undone-with ledger s _ c.in-Ok.rest u) writes.0 writes.1 writes.2 writes.3
    (λ t ledger facts limits u.
    let tsn = ap (λ (x : Member). x.tsn) mine ∙ u.number in
    let pages = ap (λ (l : Limits). l.pages) (c.limits-limits.ensures ∙ sym limits) in
    record { lines = c.undo.ensures.restores t ledger u.transaction u.all facts u.stands u.is_open tsn pages; facts = c.in-Ok.ensures.undone t ledger u.transaction u.all facts u.stands u.is_open tsn pages })
    c.undo.ensures.classes c.undo.ensures.owners (λ h k. GoesOn s h k)
    (λ h k shown u moves before behind faults faults-behind. record { moves = moves; less = let fewer = fewer-left c.in-Ok.rest c.args.left (at_stage (stage.Dead c.args.commits (undoing_with c.in-Ok.rest)) at.member) c.in-Ok.ensures.fewer in omega (arith, before, behind, fewer) }))

pub returns-in-Ok-clause-less : goal.returns-in-Ok-clause-less
returns-in-Ok-clause-less g c more =
    let s = c.args.s.number in
    let held = c.args.held.now in
    let at = c.requires.died in
    let comes = c.set_dead-in-Ok.ensures.comes in
    let next = at_stage (stage.Dead c.args.commits c.undoing-recovery.result) comes.0 in
    let behind : steps_at c.set_dead-in-Ok.new.self.members s ≡ recovery_left (undoing_with c.in-Ok.rest) next =
    ap (λ (x : StoreMemory). steps_at x.members s) comes.2 ∙ ap steps_of (set-here held.members s next c.set_dead-in-Ok.ensures.within) ∙ ap (λ (r : Recovery). recovery_left r next) c.undoing-recovery.ensures in
    let before : steps_at held.members s ≡ c.args.left + 3 = ap steps_of at.is ∙ ap (λ x. steps_in x at.member) at.at in
    let fewer = fewer-left c.in-Ok.rest c.args.left next c.in-Ok.ensures.fewer in
    omega (arith, behind, before, fewer)

pub returns-in-Err-clause-comes : goal.returns-in-Err-clause-comes
returns-in-Err-clause-comes g c =
    let v = g.D.Disk.view c.args.disk.now in
    let w = g.D.Disk.view c.undo.new.disk in
    let s = c.args.s.number in
    let held = c.args.held.now in
    let at = c.requires.died in
    let mine : c.member-member.result.now ≡ at.member = one-member held.members s c.member-member.result.now at.member c.member-member.ensures at.is in
    let all : c.member-member.result.now.journalled ≡ at.member.journalled = ap (λ (x : Member). x.journalled) mine in
    let comes = c.set_dead-in-Err.ensures.comes in
    let same : comes.0 ≡ at.member = one-member held.members s comes.0 at.member comes.1 at.is in
    let writes = c.undo.ensures.writes in
    let other : at.member.stage ≢ stage.Changing = λ changes. cc in
    subst (λ new. DoesOn s (failed_at (stand_at held.members s)) (λ h k. Fails s c.in-Err.fault h k) v held w new)
    (sym (comes.2 ∙ ap (λ (x : Member). with_member s (at_stage (stage.Dead c.args.commits (recovery.Undoing c.member-member.result.now.journalled)) x) held) same ∙ ap (λ (k : ℕ). with_member s (at_stage (stage.Dead c.args.commits (recovery.Undoing k)) at.member) held) all))
    (does-failed held s at.member at.is other (λ h k. Fails s c.in-Err.fault h k) v w held (with_member s (at_stage (stage.Dead c.args.commits (recovery.Undoing at.member.journalled)) at.member) held) (does-back v w held s at.member c.args.commits c.args.left at.member.journalled (recovery.Undoing at.member.journalled) at.is at.at (λ ledger u. u) writes.0 writes.1 writes.2 writes.3
    (λ t ledger facts limits u.
    let tsn = ap (λ (x : Member). x.tsn) mine ∙ u.number in
    let pages = ap (λ (l : Limits). l.pages) (c.limits-limits.ensures ∙ sym limits) in
    record {
      lines = c.undo.ensures.restores t ledger u.transaction u.all facts u.stands u.is_open tsn pages;
      facts = subst (λ (k : ℕ). LedgerFacts w (stands_as s (undoing u.all k) ledger)) (sym u.count) (c.undo.ensures.keeps t ledger u.transaction u.all facts u.stands u.is_open tsn pages);
    })
    c.undo.ensures.classes c.undo.ensures.owners (λ h k. Fails s c.in-Err.fault h k)
    (λ h k shown u moves before behind faults faults-behind. record {
      moves = moves-failed v held s at.member at.is other h k shown moves;
      cause = cause-of c.in-Err.fault h.clock k.clock v.faults w.faults (λ is. c.in-Err.ensures.failed (ap Err is))
          (λ file slot is. absurd (c.in-Err.ensures.bad file slot (ap Err is) shown.tells shown.ledger u.transaction u.all shown.facts u.stands u.is_open (ap (λ (x : Member). x.tsn) mine ∙ u.number) (ap (λ (l : Limits). l.pages) (c.limits-limits.ensures ∙ sym shown.limits))))
          faults faults-behind;
    })))

pub returns-then-left-eq0-clause-writes : goal.returns-then-left-eq0-clause-writes
returns-then-left-eq0-clause-writes g c = own-none (g.D.Disk.view c.args.disk.now)

pub returns-in-Ok-clause-writes : goal.returns-in-Ok-clause-writes
returns-in-Ok-clause-writes g c = let writes = c.undo.ensures.writes in own-area writes.0 writes.1 (g.D.Disk.view c.args.disk.now) (g.D.Disk.view c.undo.new.disk) writes.3

pub returns-in-Err-clause-writes : goal.returns-in-Err-clause-writes
returns-in-Err-clause-writes g c = let writes = c.undo.ensures.writes in own-area writes.0 writes.1 (g.D.Disk.view c.args.disk.now) (g.D.Disk.view c.undo.new.disk) writes.3
