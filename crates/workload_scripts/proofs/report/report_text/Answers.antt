use Rattle.std.specs.Prelude.{codes}
use Rattle.workload_scripts.specs.Report.{signed, counted}
use Rattle.workload_scripts.proofs.Parts.{on_ok, three}
use Rattle.workload_scripts.proofs.report.report_text.Goals as goal

pub returns : goal.returns
returns c = on_ok c.faults_line.result
    (three c.args.out.now (signed (codes "accounts ") c.args.report.accounts) (signed (codes "total ") c.args.report.total) (counted (codes "faults ") c.args.report.faults) _ _ _
    c.in_ok-accounts_line.ensures c.in_ok-total_line.ensures) c.faults_line.ensures
