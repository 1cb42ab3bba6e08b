use Rattle.session_limits.specs.session_states.declared.stage.Life.TheVariants.{Alive}
use Rattle.std.proofs.Common.{ap, refl, arith}
use Rattle.rdo_ast.specs.Views.{uttered_of}
use Rattle.line_store.specs.Seats.{done_at}
use Rattle.session_limits.proofs.of_session_states.Forgoing.{forgoes-on}
use Rattle.session_limits.proofs.of_session_states.Starting.{start-forgoes-on}
use Rattle.session_measure.proofs.Nearer.{nearer-answered}
use Rattle.session_measure.specs.Weights.{one_under_way}
use Rattle.stage_steps.specs.Turns.{shared}
use Rattle.stage_steps.proofs.Goes.{goes, goes-still}
use Rattle.stage_steps.proofs.Resting.{given-up, released, given-needs}
use Rattle.stage_steps.proofs.Seated.{bare-writing, rests-at, sits-closing}
use Rattle.stage_steps.proofs.working.forgo.Goals as goal

pub returns-then-terms-clause-forgoes : goal.returns-then-terms-clause-forgoes
returns-then-terms-clause-forgoes g c locks stage before idle is =
    let rests = given-up c.args.s.number locks c.args.common.now.tree c.give_up.new.self before c.give_up.ensures.others c.give_up.ensures.ended c.give_up.ensures.needs c.give_up.ensures.trail in
    rw (c.refused-answer.ensures, c.at.ensures, c.if-terms.true) (goes-still c.args.s.number _ Alive _ Alive _ _ _ refl
    (λ f. rests-at _ _ c.args.s.number _ (bare-writing _ c.requires.seat) c.give_up.ensures.ended (given-needs stage _ _ idle rests.needs f.needs) tt) rests.others (nearer-answered c.args.s.number _ _ _ _ (let one = ap one_under_way is in omega (arith, one)))
    (λ h shown dead left total. forgoes-on g.S.Statements.stands g.met.S.Statements.orderly c.args.s.number (shared c.args.common.now.word h locks dead) c.give_up.new.self left total c.args.terms.standing c.args.terms.known c.args.terms.waits stage (uttered_of c.args.item) idle is rests))

pub returns-clause-forgoes : goal.returns-clause-forgoes
returns-clause-forgoes g c locks stage before idle is =
    let rests = released c.args.s.number locks c.args.common.now.tree c.release_all.new.self before c.release_all.ensures.others c.release_all.ensures.idle c.release_all.ensures.trail in
    rw (c.refused-answer.ensures, c.if-terms.false) (goes c.args.s.number _ Alive _ Alive _ _ _ _ _
    (λ e f. sits-closing _ _ c.args.s.number (ap done_at e) c.release_all.ensures.idle) rests.others (nearer-answered c.args.s.number _ _ _ _ (let one = ap one_under_way is in omega (arith, one)))
    (λ h k shown told r dead left total. start-forgoes-on g.S.Statements.stands g.met.S.Statements.orderly c.args.s.number (shared c.args.common.now.word h locks dead) k c.release_all.new.self left total c.args.terms.standing c.args.terms.known c.args.terms.waits stage (uttered_of c.args.item) idle is r rests)
    c.roll_back.ensures.does)

pub returns-then-terms-clause-nearer : goal.returns-then-terms-clause-nearer
returns-then-terms-clause-nearer g c b d x left total one = rw c.at.ensures (nearer-answered c.args.s.number b d x _ (omega (arith, one)) left total)

pub returns-clause-nearer : goal.returns-clause-nearer
returns-clause-nearer g c b d x left total one = nearer-answered c.args.s.number b d x _ (omega (arith, one)) left total
