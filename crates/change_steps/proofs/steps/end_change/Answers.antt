use Rattle.std.proofs.Common.{◌≡◌, ◌≤◌, length, sym, subst, ◌∙◌}
use Rattle.std.proofs.lemmas.Option.{same_Some}
use Rattle.line_store.specs.Seats.{done_at}
use Rattle.line_store.specs.Calls.{IsDone}
use Rattle.line_store.specs.Sights.{seat_or}
use Rattle.disk_store.specs.declared.member.Member.{Member}
use Rattle.disk_store.specs.declared.member.MemberStage.TheVariants as stage
use Rattle.disk_store.specs.Memory.{StoreMemory}
use Rattle.disk_store.specs.Seats.{stand_at}
use Rattle.disk_store.specs.Shown.{DoesOn}
use Rattle.change_steps.proofs.ChangeEnds.{does-written}
use Rattle.change_steps.proofs.steps.end_change.Goals as goal

pub returns-clause-does : goal.returns-clause-does
returns-clause-does g c =
    let v = g.D.Disk.view c.args._disk.now in
    let s = c.args.s.number in
    let held : StoreMemory = c.args.held.now in
    let comes = c.end_change.ensures in
    let through = c.requires.through in
    let one = same_Some through.member comes.0 (sym through.is ∙ comes.1) in
    subst (λ (new : StoreMemory). DoesOn s (seat_or (stand_at held.members s) (done_at (stand_at held.members s))) (λ h k. IsDone s h k) v held v new) (sym comes.2)
    (does-written v held s comes.0 comes.1 c.sound.ensures (subst (λ (x : Member). x.stage ≡ stage.Changing) one through.at) (subst (λ (x : Member). length x.written.keys ≤ x.journalled) one through.all) (subst (λ (x : Member). length x.written.keys ≤ x.pushed) one through.through))
