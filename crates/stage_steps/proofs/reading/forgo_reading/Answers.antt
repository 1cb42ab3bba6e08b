use Rattle.session_limits.specs.session_states.declared.stage.Life.TheVariants.{Alive}
use Rattle.std.proofs.Common.{◌≡◌, ◌∙◌, ap, sym, refl, arith}
use Rattle.session_limits.proofs.of_session_states.Reading.{forgoes-to-reader}
use Rattle.session_limits.proofs.of_session_states.ReadingEnds.{reader-unstarted-on}
use Rattle.session_measure.specs.Weights.{one_under_way}
use Rattle.session_measure.proofs.Nearer.{nearer-answered}
use Rattle.session_limits.specs.session_states.States.{reader_item}
use Rattle.stage_steps.specs.Turns.{shared}
use Rattle.stage_steps.proofs.Goes.{goes, goes-still}
use Rattle.stage_steps.proofs.Seated.{bare-reader, reads-plain, reads-out}
use Rattle.stage_steps.proofs.Tests.{first-starts}
use Rattle.stage_steps.proofs.reading.forgo_reading.Goals as goal

pub returns-then-goes_on-clause-forgoes : goal.returns-then-goes_on-clause-forgoes
returns-then-goes_on-clause-forgoes g c word locks stage is =
    rw (c.refused.ensures, c.spoken.ensures) (goes-still c.args.s.number _ Alive _ Alive _ _ _ refl (λ f. reads-plain _ _ locks c.args.s.number _ _ (bare-reader _ c.requires.seat) refl tt f) (λ u other. refl) (nearer-answered c.args.s.number _ _ _ _ (let one : one_under_way (reader_item stage) ≡ 1 = ap one_under_way is in omega (arith, one)))
    (λ h shown dead left total. forgoes-to-reader g.S.Statements.stands g.met.S.Statements.orderly c.args.s.number (shared word h locks dead) left total c.args.terms.standing c.args.terms.known c.args.terms.spoken c.args.item stage is (sym c.goes_on.ensures ∙ c.if-goes_on.true)))

pub returns-clause-forgoes : goal.returns-clause-forgoes
returns-clause-forgoes g c word locks stage is =
    let first = first-starts c.args.terms.spoken _ (sym c.goes_on.ensures ∙ c.if-goes_on.false) in
    rw (c.refused-2.ensures, first.0) (goes c.args.s.number _ Alive _ Alive _ _ _ _ _ (λ e f. reads-out _ _ locks c.args.s.number _ e f) (λ u other. refl) (nearer-answered c.args.s.number _ _ _ _ (let one : one_under_way (reader_item stage) ≡ 1 = ap one_under_way is in omega (arith, one)))
    (λ h k shown told r dead left total. reader-unstarted-on g.S.Statements.stands g.met.S.Statements.orderly c.args.s.number (shared word h locks dead) k left total c.args.terms.standing c.args.terms.known c.args.item stage is first.1 r)
    c.end_reading.ensures.does)

pub returns-then-goes_on-clause-nearer : goal.returns-then-goes_on-clause-nearer
returns-then-goes_on-clause-nearer g c b d x left total one = rw c.spoken.ensures (nearer-answered c.args.s.number b d x _ (omega (arith, one)) left total)

pub returns-clause-nearer : goal.returns-clause-nearer
returns-clause-nearer g c b d x left total one = nearer-answered c.args.s.number b d x _ (omega (arith, one)) left total
