use Rattle.std.proofs.Common.{◌≡◌, ◌∙◌, true, sym, ap, subst, Option}
use Rattle.std.specs.Prelude.{is_some}
use Rattle.std.proofs.lemmas.Bool.{false≢true}
use Rattle.session_states.specs.States.{copies_in}
use Rattle.lent_members.specs.declared.lent_members.Presence.{Presence}
use Rattle.lent_members.specs.Whereabouts.{phase_at}
use Rattle.lent_members.proofs.Absent.{out-copies}
use Rattle.lent_members.proofs.of_line_arms.Arms.{goes-on}
use Rattle.lent_members.proofs.of_line_arms.Taken.{takes-none}
use Rattle.line_cluster.proofs.going.go_on_from.Goals as goal

pub returns-in-Back-clause-goes : goal.returns-in-Back-clause-goes
returns-in-Back-clause-goes g c = λ none. rw c.in-Back.is (goes-on _ _ _ _ _ _ _ _ c.take_answered.ensures.comes)

pub returns-in-Back-clause-some : goal.returns-in-Back-clause-some
returns-in-Back-clause-some g c = (c.args.left.now, rw c.in-Back.is (goes-on _ _ _ _ _ _ _ _ c.take_answered.ensures.comes))

pub returns-in-Back-clause-rounds : goal.returns-in-Back-clause-rounds
returns-in-Back-clause-rounds g c = rw c.in-Back.is (c.take_answered.ensures.rounds c.args.allotment.now.rounds)

pub returns-in-Back-clause-backed : goal.returns-in-Back-clause-backed
returns-in-Back-clause-backed g c copies =
    absurd (false≢true (sym (ap is_some (out-copies c.args.left.now c.in-Back.answer.job c.in-Back.absence)) ∙ subst (λ (p : Presence _ _). is_some (copies_in (phase_at p)) ≡ true) c.in-Back.is copies))

pub returns-in-Back-clause-one : goal.returns-in-Back-clause-one
returns-in-Back-clause-one g c = takes-none c.args.left.now (phase_at c.args.presence)
