use Rattle.std.proofs.Common.{sym, subst}
use Rattle.journal_scan.specs.aij_journal.Header.{IsHeader}
use Rattle.journal_reading.proofs.reading.first_number.Goals as goal

pub returns-in-None-clause-bad_header : goal.returns-in-None-clause-bad_header
returns-in-None-clause-bad_header g c = λ bad tells first is.
    c.in-None.ensures.none first (subst (λ slot. IsHeader slot first) (sym (c.in_ok-read.ensures.bytes tells)) is)
