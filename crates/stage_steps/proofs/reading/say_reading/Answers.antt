use Rattle.std.proofs.Common.{arith}
use Rattle.session_limits.proofs.of_session_states.Reading.{answers-to-reader}
use Rattle.session_measure.proofs.Nearer.{nearer-answered}
use Rattle.stage_steps.proofs.reading.say_reading.Goals as goal

pub returns-clause-says : goal.returns-clause-says
returns-clause-says g c s d found left total =
    rw c.spoken.ensures (answers-to-reader g.S.Statements.stands g.met.S.Statements.orderly s d left total c.args.terms.standing c.args.terms.known c.args.terms.spoken c.args.item c.args.worked found)

pub returns-clause-nearer : goal.returns-clause-nearer
returns-clause-nearer g c s b d x left total one =
    rw c.spoken.ensures (nearer-answered s b d x _ (omega (arith, one)) left total)
