use Rattle.std.proofs.Common.{rules, IsErrOf, subst}
use Rattle.line_opening.specs.declared.fault.OpeningFault.{OpeningFault}
use Rattle.rmu_keeping.proofs.Causes.{met_slot}
use Rattle.rmu_keeping.proofs.copying.journal_command.Goals as goal

pub returns-in-Err-clause-refused : goal.returns-in-Err-clause-refused
returns-in-Err-clause-refused g c is t may =
    let met = met_slot c.in-Err.fault c.status_of.result c.status_of.ensures is in
    let err : IsErrOf c.open_and_copy.result c.in-Err.fault = search rules in
    c.open_and_copy.ensures.bad met.0 met.1 (subst (λ (f : OpeningFault). IsErrOf c.open_and_copy.result f) met.2 err) t may.classes may.lines may.journal may.kept may.numbers
