use Rattle.std.proofs.Common.{refl}
use Rattle.session_limits.proofs.of_session_states.Working.{hands-out}
use Rattle.session_measure.proofs.Nearer.{nearer-handed-out}
use Rattle.stage_steps.proofs.Seated.{rests-at}
use Rattle.stage_steps.proofs.working.hand_out.Goals as goal

pub returns-clause-passes : goal.returns-clause-passes
returns-clause-passes g c =
    rw c.at.ensures (record {
      comes = λ s d left total. hands-out g.S.Statements.stands g.met.S.Statements.orderly s d left total c.args.terms.standing c.args.terms.known c.args.terms.spoken c.args.terms.waits c.args.item;
      seated = λ stand locks s f. rests-at stand locks s _ f.seat f.wants f.needs f.statement;
      nearer = λ s b left total. nearer-handed-out s b b _ _ refl refl refl refl refl left total;
    })
