use Rattle.std.proofs.Common.{◌≡◌, [], refl, sym, subst}
use Rattle.line_store.specs.Seats.{outside, beginning}
use Rattle.line_store.specs.Calls.{Moves}
use Rattle.disk_store.specs.declared.member.Member.{Member}
use Rattle.disk_store.specs.declared.member.Ceiling.TheVariants.{Asking}
use Rattle.disk_store.specs.declared.member.MemberStage.TheVariants as stage
use Rattle.disk_store.specs.Seats.{seat_with, stand_of}
use Rattle.disk_store.specs.Shown.{DoesOn}
use Rattle.disk_store.proofs.Moving.{does-move}
use Rattle.disk_store.proofs.Stages.{may-begin}
use Rattle.disk_store.proofs.moves.begin.Goals as goal

pub returns-clause-does : goal.returns-clause-does
returns-clause-does g c =
    let v = g.D.Disk.view c.args._disk.now in
    let s = c.args.s.number in
    let m : Member = c.set_stage.ensures.comes.0 in
    let was = c.set_stage.ensures.comes.1 in
    let is : seat_with m.stage [] [] ≡ outside = subst (λ x. stand_of x ≡ outside) was c.requires.outside in
    let does = does-move v c.args.held.now s m (stage.Beginning Asking) c.set_stage.ensures.within was (may-begin v s m is) beginning (Moves s beginning) refl (λ h g start at moves. moves) in
    subst (λ held. DoesOn s beginning (Moves s beginning) v c.args.held.now v held) (sym c.set_stage.ensures.comes.2) does
