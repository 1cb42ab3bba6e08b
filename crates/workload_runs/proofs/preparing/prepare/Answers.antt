use Rattle.std.proofs.Common.{◌≡◌, ◌∙◌, Err, ap, sym}
use Rattle.workload_runs.proofs.Stops.{bad-fault}
use Rattle.workload_runs.proofs.preparing.prepare.Goals as goal

pub returns-in-Err-clause-refused : goal.returns-in-Err-clause-refused
returns-in-Err-clause-refused g c is =
    let four : c.status_of_fault.result ≡ 4 = cc in
    let bad = bad-fault c.in-Err.fault (sym c.status_of_fault.ensures ∙ four) in
    c.in-Err.ensures.bad bad.0 bad.1 (ap Err bad.2)
