use Rattle.std.proofs.Common.{◌≡◌, [], refl, sym, ap, subst, ◌∙◌, arith}
use Rattle.line_store.specs.Seats.{rolling_back, rolled_back, IsWriting}
use Rattle.line_store.specs.Calls.{Moves}
use Rattle.line_store.specs.Sights.{RollsBack}
use Rattle.member_memory.specs.Memory.{writes_in}
use Rattle.disk_store.specs.declared.member.Member.{Member}
use Rattle.disk_store.specs.declared.member.MemberStage.TheVariants as stage
use Rattle.disk_store.specs.Seats.{seat_with, stand_of}
use Rattle.disk_store.specs.Standing.{StageStands}
use Rattle.disk_store.specs.Shown.{DoesOn}
use Rattle.disk_store.proofs.EndingOpen.{does-end}
use Rattle.disk_store.proofs.Stages.{is-writing, rolled-now, may-end-begun}
use Rattle.store_endings.proofs.rolling.roll_back.Goals as goal

pub returns-clause-does : goal.returns-clause-does
returns-clause-does g c =
    let v = g.D.Disk.view c.args._disk.now in
    let s = c.args.s.number in
    let held = c.args.held.now in
    let comes = c.set_stage.ensures.comes in
    let m : Member = comes.0 in
    let is : IsWriting (seat_with m.stage [] []) = subst (λ x. IsWriting (stand_of x)) comes.1 c.requires.seat in
    let at : m.stage ≡ stage.Writing = is-writing m.stage is in
    subst (λ new. DoesOn s (rolling_back []) (RollsBack s) v held v new) (sym comes.2)
    (does-end v held s m comes.1 stage.RollingBack (λ tells. g.met.D.Disk.content_left c.args._disk.now v.moment tells (omega arith))
    (λ ledger rests. rests) (λ waiting. tt) (λ e. cc) refl (λ ledger stands. let has = subst (λ st. StageStands st v ledger s m) at stands in may-end-begun ledger s m has.begun)
    (rolling_back []) (RollsBack s) refl
    (λ h k start seat moves. subst (λ x. Moves s x h k) (sym (ap rolled_back seat ∙ rolled-now m (writes_in m.written.lines) start is)) moves))
