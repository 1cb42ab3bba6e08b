use Rattle.std.proofs.Common.{ℕ, List, refl, ◌∙◌, subst, arith}
use Rattle.rdo_ast.specs.declared.syntax.Item.{Item as ItemValue}
use Rattle.rdo_ast.specs.Views.{uttered_of}
use Rattle.line_view.specs.Held.{knows}
use Rattle.line_store.specs.Shelves.{Shelf}
use Rattle.session_jobs.specs.Jobs.{IsFound}
use Rattle.session_jobs.specs.declared.jobs.Found.{Found}
use Rattle.gathering_steps.specs.session_states.declared.stage.Life.TheVariants.{Alive}
use Rattle.gathering_steps.specs.session_states.declared.stage.Work.TheVariants.{Out}
use Rattle.gathering_steps.specs.session_states.declared.stage.Stage.TheVariants.{Working}
use Rattle.gathering_steps.proofs.of_session_states.Working.{never-bad}
use Rattle.gathering_steps.proofs.of_session_states.Resting.{rests-by}
use Rattle.gathering_steps.proofs.of_session_measure.Nearer.{nearer-in-round}
use Rattle.gathering_steps.specs.stage_steps.Turns.{shared}
use Rattle.gathering_steps.proofs.of_stage_steps.Goes.{goes-still, comes-as}
use Rattle.gathering_steps.proofs.of_stage_steps.Resting.{as-before}
use Rattle.gathering_steps.proofs.of_stage_steps.Seated.{rests-at}
use Rattle.job_steps.proofs.jobs.take_found.Goals as goal

pub returns-in-Missing-clause-comes : goal.returns-in-Missing-clause-comes
returns-in-Missing-clause-comes g c =
    comes-as g.S.Statements.stands c.args.s.number _ _ _ _ _ _ _ c.quiet.ensures.phase c.quiet.ensures.happened
    (goes-still c.args.s.number _ Alive _ Alive _ _ _ refl (λ f. c.gather.ensures.seated _ _ c.args.s.number f) (λ u other. refl) (λ left total. c.gather.ensures.nearer c.args.s.number _ left total)
    (λ h shown dead left total. c.gather.ensures.comes c.args.s.number (shared c.args.common.now.word h c.args.common.now.tree dead)
    (subst (λ (f : Found). IsFound g.S.Statements.stands c.args.common.now.word c.args.terms.standing (uttered_of c.args.item) (knows c.args.terms.known) f) c.in-Missing.is c.requires.found) left total))

pub returns-in-Bad-clause-comes : goal.returns-in-Bad-clause-comes
returns-in-Bad-clause-comes g c =
    let bad = λ (h : Shelf) (dead : ℕ) (left : List ItemValue) (total : ℕ). never-bad g.S.Statements.stands g.met.S.Statements.orderly c.args.s.number (shared c.args.common.now.word h c.args.common.now.tree dead) left total c.args.terms.standing c.args.terms.known c.args.terms.spoken c.args.terms.waits c.args.item c.in-Bad.key
    (subst (λ (f : Found). IsFound g.S.Statements.stands c.args.common.now.word c.args.terms.standing (uttered_of c.args.item) (knows c.args.terms.known) f) c.in-Bad.is c.requires.found) in
    rw c.at.ensures (goes-still c.args.s.number _ Alive _ Alive _ _ _ refl (λ f. rests-at _ _ c.args.s.number _ f.seat f.wants f.needs f.statement) (λ u other. refl) (λ left total h shown dead. bad h dead left total)
    (λ h shown dead left total. rests-by g.S.Statements.stands g.met.S.Statements.orderly c.args.s.number (shared c.args.common.now.word h c.args.common.now.tree dead) left total _ _ refl (λ o p g1 f. absurd (bad h dead left total o p g1 f))))

pub returns-in-NoMemory-clause-comes : goal.returns-in-NoMemory-clause-comes
returns-in-NoMemory-clause-comes g c =
    c.forgo.ensures.forgoes c.args.common.now.tree (Working c.args.item Out) (as-before c.args.common.now.tree) refl refl
