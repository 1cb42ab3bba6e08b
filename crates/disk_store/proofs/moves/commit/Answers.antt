use Rattle.std.proofs.Common.{[], refl, sym, ap, subst, ◌∙◌}
use Rattle.line_store.specs.Seats.{committing, IsPrepared, committing_by}
use Rattle.line_store.specs.Calls.{Moves}
use Rattle.line_store.specs.Sights.{BeginsCommit}
use Rattle.member_rooms.specs.member_steps.declared.committing.CommitTurn.TheVariants.{Entering}
use Rattle.member_memory.specs.Memory.{writes_in}
use Rattle.disk_store.specs.declared.member.Member.{Member}
use Rattle.disk_store.specs.declared.member.MemberStage.TheVariants as stage
use Rattle.disk_store.specs.Seats.{seat_with, stand_of}
use Rattle.disk_store.specs.Shown.{DoesOn}
use Rattle.disk_store.proofs.Moving.{does-move}
use Rattle.disk_store.proofs.Stages.{may-commit, committing-now}
use Rattle.disk_store.proofs.DeadStages.{prepared-at, still-at}
use Rattle.disk_store.proofs.moves.commit.Goals as goal

pub begin_commit-requires-clause-prepared : goal.begin_commit-requires-clause-prepared
begin_commit-requires-clause-prepared g c = prepared-at c.args.held.now.members c.args.s.number c.requires.prepared

pub begin_commit-requires-clause-alone : goal.begin_commit-requires-clause-alone
begin_commit-requires-clause-alone g c t x apart is = still-at c.args.held.now.members t x is (c.requires.alone t apart)

pub returns-clause-does : goal.returns-clause-does
returns-clause-does g c =
    let v = g.D.Disk.view c.args._disk.now in
    let s = c.args.s.number in
    let m : Member = c.begin_commit.ensures.comes.0 in
    let was = c.begin_commit.ensures.comes.1 in
    let is : IsPrepared (seat_with m.stage [] []) = subst (λ x. IsPrepared (stand_of x)) was c.requires.prepared in
    let does = does-move v c.args.held.now s m (stage.Committing (Entering 0)) c.begin_commit.ensures.within was (may-commit v s m is) (committing []) (BeginsCommit s) refl (λ h g start at moves. subst (λ seat. Moves s seat h g) (sym (ap committing_by at ∙ committing-now m (writes_in m.written.lines) start is)) moves) in
    subst (λ held. DoesOn s (committing []) (BeginsCommit s) v c.args.held.now v held) (sym c.begin_commit.ensures.comes.2) does
