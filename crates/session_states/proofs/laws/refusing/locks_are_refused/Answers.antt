use Rattle.std.proofs.Common.{refl, ◌∙◌, ap, not}
use Rattle.rdo_ast.specs.Views.{uttered_of}
use Rattle.rdo_ast.specs.declared.reply.Reply.TheVariants as r
use Rattle.line_steps.proofs.of_lock_ties.Answers.{conflict-lawful, deadlock-lawful}
use Rattle.session_states.proofs.Refusing.{refuses-on, asks-waits}
use Rattle.session_states.proofs.laws.refusing.locks_are_refused.Goals as goal

pub returns-clause-conflict : goal.returns-clause-conflict
returns-clause-conflict g c = λ s d locks left total standing known waits stage n item t wants is stays call a.
    refuses-on g.S.Statements.stands g.met.S.Statements.orderly s d locks left total standing known waits stage n (uttered_of item) (r.LockConflict t) wants is stays call a.1.rests refl
    (λ word tables free asks. (free, asks-waits tables n (uttered_of item) asks stays)) (λ o p x is_open tied nowait. conflict-lawful o p s n x is_open d.locks locks t tied call a.1 (nowait ∙ ap not a.0))

pub returns-clause-deadlock : goal.returns-clause-deadlock
returns-clause-deadlock g c = λ s d locks left total standing known waits stage n item cycle wants is stays call a.
    refuses-on g.S.Statements.stands g.met.S.Statements.orderly s d locks left total standing known waits stage n (uttered_of item) (r.Deadlock cycle) wants is stays call a.1.rests refl
    (λ word tables free asks. (free, asks-waits tables n (uttered_of item) asks stays)) (λ o p x is_open tied nowait. deadlock-lawful o p s n x is_open d.locks locks cycle tied call a.1)

pub returns-clause-conflict_forgone : goal.returns-clause-conflict_forgone
returns-clause-conflict_forgone g c = λ s d locks left total standing known waits stage n item t wants is stays call a.
    refuses-on g.S.Statements.stands g.met.S.Statements.orderly s d locks left total standing known waits stage n item r.NoMemory wants is stays call a.1.rests refl (λ word tables free asks. tt) (λ o p x is_open tied nowait. refl)

pub returns-clause-deadlock_forgone : goal.returns-clause-deadlock_forgone
returns-clause-deadlock_forgone g c = λ s d locks left total standing known wait stage n item cycle waits wants is stays call a.
    refuses-on g.S.Statements.stands g.met.S.Statements.orderly s d locks left total standing known waits stage n item r.NoMemory wants is stays call a.1.rests refl (λ word tables free asks. tt) (λ o p x is_open tied nowait. refl)
