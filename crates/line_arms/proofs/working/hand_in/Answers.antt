use Rattle.std.proofs.Common.{sym, subst}
use Rattle.job_steps.specs.session_states.declared.stage.Phase.{Phase}
use Rattle.line_view.specs.declared.need.Need.TheVariants as need
use Rattle.job_steps.specs.session_states.declared.stage.Work.TheVariants.{Lacking, Lodging}
use Rattle.job_steps.specs.session_states.declared.stage.Stage.TheVariants.{Working}
use Rattle.job_steps.specs.stage_steps.Scenes.{PassesOn}
use Rattle.job_steps.specs.stage_steps.Turns.{at_stage}
use Rattle.line_arms.proofs.Rooms.{lacks-again, lodges-again}
use Rattle.line_arms.proofs.working.hand_in.Goals as goal

pub returns-clause-lacks : goal.returns-clause-lacks
returns-clause-lacks g c = λ room. subst (λ (y : Phase). PassesOn g.S.Statements.stands (at_stage c.args.terms (Working c.args.item (Lacking (need.Room room)))) y) (sym c.at.ensures)
    (lacks-again g.S.Statements.stands g.met.S.Statements.orderly c.args.terms c.args.item room)

pub returns-clause-lodges : goal.returns-clause-lodges
returns-clause-lodges g c = λ room key. subst (λ (y : Phase). PassesOn g.S.Statements.stands (at_stage c.args.terms (Working c.args.item (Lodging room key))) y) (sym c.at.ensures)
    (lodges-again g.S.Statements.stands g.met.S.Statements.orderly c.args.terms c.args.item room key)
