use Rattle.std.proofs.Common.{rules, inl, inr, refl}
use Rattle.database_opening.proofs.beginning.first_stage.Goals as goal

pub returns-then-names_none : goal.returns-then-names_none
returns-then-names_none c = inl (c.names_none.ensures (search rules), refl)

pub returns : goal.returns
returns c = inr refl
