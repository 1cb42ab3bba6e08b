use Rattle.std.proofs.Common.{◌∙◌, ap, sym, subst, refl, arith}
use Rattle.stage_steps.specs.session_states.declared.stage.Gather.TheVariants.{Locking}
use Rattle.stage_steps.specs.session_states.declared.stage.Stage.{Stage}
use Rattle.stage_steps.specs.session_states.declared.stage.Phase.{Phase}
use Rattle.stage_steps.proofs.of_session_states.Gathering.{gathers-on}
use Rattle.stage_steps.proofs.of_session_measure.Nearer.{nearer-in-round}
use Rattle.stage_steps.specs.Turns.{at_stage}
use Rattle.gathering_steps.specs.Rounds.{GathersFrom}
use Rattle.gathering_steps.proofs.Seats.{gathering-seat}
use Rattle.gathering_steps.proofs.fetching.gather.Goals as goal

pub returns : goal.returns
returns g c =
    subst (λ (y : Phase). GathersFrom g.S.Statements.stands c.args.terms c.args.item c.args.next c.args.later y) (sym (c.at-2.ensures ∙ ap (λ (x : Stage). at_stage c.args.terms x) c.at.ensures))
    (record {
      comes = λ s d found left total. gathers-on g.S.Statements.stands g.met.S.Statements.orderly s d left total c.args.terms.standing c.args.terms.known c.args.terms.spoken c.args.terms.waits c.args.item c.args.next c.args.later found;
      seated = λ stand locks s f. gathering-seat stand locks s c.args.terms.standing c.args.terms.known c.args.terms.spoken c.args.terms.waits c.args.item f.seat f.wants f.needs f.statement (Locking c.args.next) c.args.later 0;
      nearer = λ s b left total. nearer-in-round s b b _ _ refl refl refl refl (omega arith) left total;
    })
