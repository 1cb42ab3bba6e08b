use Rattle.std.proofs.Common.{◌≡◌, true, subst}
use Rattle.std.specs.Prelude.{is_some}
use Rattle.std.proofs.lemmas.Bool.{false≢true}
use Rattle.job_steps.specs.session_states.declared.stage.Phase.{Phase}
use Rattle.job_steps.specs.session_states.States.{copies_in}
use Rattle.line_arms.proofs.Arms.{goes-on}
use Rattle.line_arms.proofs.Taken.{takes-none}
use Rattle.line_arms.proofs.going.go_on.Goals as goal

pub returns-in-Closing-clause-goes : goal.returns-in-Closing-clause-goes
returns-in-Closing-clause-goes g c = λ none. rw c.in-Closing.is (goes-on _ _ _ _ _ _ _ _ (c.put_away.ensures c.args.common.now.word c.args.common.now.tree))

pub returns-in-Closing-clause-some : goal.returns-in-Closing-clause-some
returns-in-Closing-clause-some g c = (c.args.left.now, rw c.in-Closing.is (goes-on _ _ _ _ _ _ _ _ (c.put_away.ensures c.args.common.now.word c.args.common.now.tree)))

pub returns-in-Outside-clause-backed : goal.returns-in-Outside-clause-backed
returns-in-Outside-clause-backed g c copies = absurd (false≢true (subst (λ (x : Phase). is_some (copies_in x) ≡ true) c.in-Outside.is copies))

pub returns-in-Closing-clause-backed : goal.returns-in-Closing-clause-backed
returns-in-Closing-clause-backed g c copies = absurd (false≢true (subst (λ (x : Phase). is_some (copies_in x) ≡ true) c.in-Closing.is copies))

pub returns-in-Writing-clause-backed : goal.returns-in-Writing-clause-backed
returns-in-Writing-clause-backed g c copies = absurd (false≢true (subst (λ (x : Phase). is_some (copies_in x) ≡ true) c.in-Writing.is copies))

pub returns-in-Reading-clause-backed : goal.returns-in-Reading-clause-backed
returns-in-Reading-clause-backed g c copies = c.go_on_reading.ensures.backed (subst (λ (x : Phase). is_some (copies_in x) ≡ true) c.in-Reading.is copies)

pub returns-in-Closing-clause-one : goal.returns-in-Closing-clause-one
returns-in-Closing-clause-one g c = takes-none c.args.left.now c.args.phase
