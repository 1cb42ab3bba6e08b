use Rattle.std.proofs.Common.{◌∙◌, sym, subst, Option}
use Rattle.lock_needs.specs.declared.need.Need.{Need}
use Rattle.line_arms.specs.Going.{MayBeAsked}
use Rattle.line_arms.proofs.Asked.{writing-statement}
use Rattle.line_arms.proofs.working.want_lock.Goals as goal

pub want-requires-clause-seat : goal.want-requires-clause-seat
want-requires-clause-seat g c = writing-statement _ _ c.requires.statement (λ none. c.requires.wants none) c.requires.seated.seat

pub want-requires-clause-plain : goal.want-requires-clause-plain
want-requires-clause-plain g c = (subst (λ (o : Option Need). MayBeAsked o) (sym c.lock_of.ensures ∙ c.in-Some.is) c.requires.asked).0

pub want-requires-clause-beside : goal.want-requires-clause-beside
want-requires-clause-beside g c = (subst (λ (o : Option Need). MayBeAsked o) (sym c.lock_of.ensures ∙ c.in-Some.is) c.requires.asked).1
