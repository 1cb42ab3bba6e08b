use Rattle.session_limits.specs.session_states.declared.stage.Life.TheVariants.{Alive}
use Rattle.std.proofs.Common.{ap, refl, ◌∙◌, arith}
use Rattle.line_store.specs.Seats.{done_at}
use Rattle.session_measure.proofs.Nearer.{nearer-answered}
use Rattle.session_measure.specs.Weights.{one_under_way}
use Rattle.stage_steps.proofs.Asked.{wants-without}
use Rattle.stage_steps.proofs.Called.{refused-step, unstarted-step, refused-seat}
use Rattle.stage_steps.proofs.Goes.{goes, goes-still}
use Rattle.stage_steps.proofs.Resting.{as-before, released}
use Rattle.stage_steps.proofs.Seated.{bare-writing, sits-closing}
use Rattle.stage_steps.proofs.wanting.refuse.Goals as goal

pub returns-then-terms : goal.returns-then-terms
returns-then-terms g c locks stage n answer wants is call so =
    rw (c.refused-answer.ensures, c.at.ensures, c.if-terms.true) (goes-still c.args.s.number _ Alive _ Alive _ _ _ refl (λ f. refused-seat _ c.args.s.number n _ locks _ _ call _ _ _ _ stage _ _ so (bare-writing _ c.requires.seat) (wants-without stage n wants) f) call.call.others (nearer-answered c.args.s.number _ _ _ _ (let one = ap one_under_way is in omega (arith, one)))
    (λ h shown dead. refused-step g.S.Statements.stands g.met.S.Statements.orderly c.args.s.number c.args.common.now.word h locks c.args.common.now.tree dead c.args.terms.standing c.args.terms.known stage n c.args.terms.waits _ call wants c.args.item c.args.reply is so))

pub returns : goal.returns
returns g c locks stage n answer wants is call so =
    let rests = released c.args.s.number c.args.common.now.tree c.args.common.now.tree c.release_all.new.self (as-before c.args.common.now.tree) c.release_all.ensures.others c.release_all.ensures.idle c.release_all.ensures.trail in
    rw (c.refused-answer.ensures, c.if-terms.false) (goes c.args.s.number _ Alive _ Alive _ _ _ _ _ (λ e f. sits-closing _ _ c.args.s.number (ap done_at e) c.release_all.ensures.idle) (λ u other. rests.others u other ∙ call.call.others u other) (nearer-answered c.args.s.number _ _ _ _ (let one = ap one_under_way is in omega (arith, one)))
    (λ h k shown told r dead. unstarted-step g.S.Statements.stands g.met.S.Statements.orderly c.args.s.number c.args.common.now.word h locks c.args.common.now.tree dead c.args.terms.standing c.args.terms.known stage n c.args.terms.waits _ call wants c.args.item c.args.reply is k c.release_all.new.self r rests so)
    c.roll_back.ensures.does)
