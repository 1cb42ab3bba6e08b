use Rattle.std.proofs.Common.{rules, ◌≡◌}
use Rattle.line_view.specs.declared.need.Need.TheVariants.{Room}
use Rattle.job_steps.specs.session_states.declared.stage.Work.TheVariants.{Lacking}
use Rattle.rdo_ast.specs.Views.{uttered_of}
use Rattle.job_steps.specs.stage_steps.Scenes.{scene}
use Rattle.line_arms.proofs.Arms.{quiet-comes, passes}
use Rattle.line_arms.proofs.Asked.{work-asked}
use Rattle.line_arms.proofs.working.go_on_working.Goals as goal

pub returns-in-Opening-clause-comes : goal.returns-in-Opening-clause-comes
returns-in-Opening-clause-comes g c = rw c.in-Opening.is (c.open.ensures c.args.common.now.word c.args.common.now.tree)

pub want_lock-requires-clause-asked : goal.want_lock-requires-clause-asked
want_lock-requires-clause-asked g c = work-asked (uttered_of c.args.item) c.args.work

pub returns-in-Lacking-Room-clause-comes : goal.returns-in-Lacking-Room-clause-comes
returns-in-Lacking-Room-clause-comes g c =
    let is : c.args.work ≡ Lacking (Room c.in-Lacking-Room.field-0-0) = search rules in
    rw is (quiet-comes _ _ _ _ _ _ _ _ c.quiet.ensures.phase c.quiet.ensures.happened (passes _ c.args.s.number (scene c.args.common.now.word (g.L.LineStore.sight c.args.common.now.store) c.args.common.now.tree) _ _ (c.hand_in.ensures.lacks c.in-Lacking-Room.field-0-0)))

pub returns-in-Lodging-clause-comes : goal.returns-in-Lodging-clause-comes
returns-in-Lodging-clause-comes g c = rw c.in-Lodging.is (quiet-comes _ _ _ _ _ _ _ _ c.quiet-in-Lodging.ensures.phase c.quiet-in-Lodging.ensures.happened (passes _ c.args.s.number (scene c.args.common.now.word (g.L.LineStore.sight c.args.common.now.store) c.args.common.now.tree) _ _ (c.hand_in-in-Lodging.ensures.lodges c.in-Lodging.field-0 c.in-Lodging.field-1)))
