use Rattle.std.proofs.Common.{sym, subst}
use Rattle.aij_journal.specs.Header.{IsHeader}
use Rattle.fitted_groups.proofs.journals.first_number.Goals as goal

pub returns-in-None-clause-bad : goal.returns-in-None-clause-bad
returns-in-None-clause-bad g c = λ named at is t first header. c.in-None.ensures.none first (subst (λ b. IsHeader b first) (sym (c.in_ok-read.ensures.bytes t)) header)
