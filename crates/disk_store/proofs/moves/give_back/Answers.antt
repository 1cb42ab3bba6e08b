use Rattle.std.proofs.Common.{[], refl, sym, ap, subst, ◌∙◌}
use Rattle.line_store.specs.Seats.{writing, IsPrepared, given_back}
use Rattle.line_store.specs.Calls.{Moves}
use Rattle.line_store.specs.Sights.{GivesBack}
use Rattle.member_memory.specs.Memory.{writes_in}
use Rattle.disk_store.specs.declared.member.Member.{Member}
use Rattle.disk_store.specs.declared.member.MemberStage.TheVariants as stage
use Rattle.disk_store.specs.Seats.{seat_with, stand_of}
use Rattle.disk_store.specs.Shown.{DoesOn}
use Rattle.disk_store.proofs.Moving.{does-move}
use Rattle.disk_store.proofs.Stages.{may-give_back, given-back}
use Rattle.disk_store.proofs.moves.give_back.Goals as goal

pub returns-clause-does : goal.returns-clause-does
returns-clause-does g c =
    let v = g.D.Disk.view c.args._disk.now in
    let s = c.args.s.number in
    let m : Member = c.set_stage.ensures.comes.0 in
    let was = c.set_stage.ensures.comes.1 in
    let is : IsPrepared (seat_with m.stage [] []) = subst (λ x. IsPrepared (stand_of x)) was c.requires.prepared in
    let does = does-move v c.args.held.now s m stage.Writing c.set_stage.ensures.within was (may-give_back v s m is) (writing []) (GivesBack s) refl (λ h g start at moves. subst (λ seat. Moves s seat h g) (sym (ap given_back at ∙ given-back m (writes_in m.written.lines) start is)) moves) in
    subst (λ held. DoesOn s (writing []) (GivesBack s) v c.args.held.now v held) (sym c.set_stage.ensures.comes.2) does
