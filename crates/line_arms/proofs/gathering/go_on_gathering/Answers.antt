use Rattle.std.proofs.Common.{sym, subst}
use Rattle.rdo_ast.specs.Views.{uttered_of}
use Rattle.job_steps.specs.session_states.Locks.{lock_of}
use Rattle.job_steps.specs.session_states.declared.stage.Stage.{Stage}
use Rattle.line_arms.specs.Going.{MayBeAsked}
use Rattle.line_arms.proofs.Asked.{gather-asked}
use Rattle.line_arms.proofs.gathering.go_on_gathering.Goals as goal

pub want_lock-requires-clause-asked : goal.want_lock-requires-clause-asked
want_lock-requires-clause-asked g c = subst (λ (x : Stage). MayBeAsked (lock_of x)) (sym c.at.ensures) (gather-asked (uttered_of c.args.round.item) c.args.gather)
