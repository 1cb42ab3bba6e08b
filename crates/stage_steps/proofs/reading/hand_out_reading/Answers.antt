use Rattle.std.proofs.Common.{refl}
use Rattle.session_limits.specs.session_states.declared.stage.ReaderWork.TheVariants.{Due, Out}
use Rattle.session_limits.specs.session_states.declared.stage.ReaderStage.TheVariants.{Working}
use Rattle.session_limits.proofs.of_session_states.Reading.{goes-to-read}
use Rattle.session_measure.proofs.Nearer.{nearer-handed-out}
use Rattle.stage_steps.proofs.Seated.{reads-on}
use Rattle.stage_steps.proofs.reading.hand_out_reading.Goals as goal

pub returns-clause-passes : goal.returns-clause-passes
returns-clause-passes g c =
    rw c.at.ensures (record {
      comes = λ s d left total. goes-to-read g.S.Statements.stands g.met.S.Statements.orderly s d left total c.args.terms.standing c.args.terms.known c.args.terms.spoken (Working c.args.item Due) (Working c.args.item Out) refl refl (λ stays. stays);
      seated = λ stand locks s f. reads-on stand stand locks s _ _ refl refl tt f;
      nearer = λ s b left total. nearer-handed-out s b b _ _ refl refl refl refl refl left total;
    })
