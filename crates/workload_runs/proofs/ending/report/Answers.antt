use Rattle.std.proofs.Common.{Err, inr, List, refl, sym, ap, subst, ◌∙◌}
use Rattle.rdb_outside.specs.Disk.{Image}
use Rattle.stable_lines.specs.Journal.{IsJournalOf}
use Rattle.page_faults.proofs.Reading.{image_same}
use Rattle.rmu_texts.specs.declared.faults.VerifyFault.{VerifyFault}
use Rattle.faultless_databases.specs.rmu_verify.Verified.{AreFaults}
use Rattle.rmu_commands.proofs.Statuses.{gave_up}
use Rattle.workload_runs.proofs.Opening.{told-before}
use Rattle.workload_runs.proofs.Reporting.{gave-up, speaks}
use Rattle.workload_runs.proofs.Stops.{bad-fault}
use Rattle.workload_runs.proofs.ending.report.Goals as goal

pub returns-in_default-clause-reports : goal.returns-in_default-clause-reports
returns-in_default-clause-reports g c = gave-up _ _ 5 _ _ _ (inr (inr refl)) (λ tells. refl)

pub returns-in-Err-clause-reports : goal.returns-in-Err-clause-reports
returns-in-Err-clause-reports g c = gave-up _ _ c.status_of_fault.result _ _ _ (gave_up c.in-Err.fault c.status_of_fault.result c.status_of_fault.ensures) (λ tells. refl)

-- the faults of the disk before the verification, which only reads, are those behind it
pub returns-in-Ok-clause-reports : goal.returns-in-Ok-clause-reports
returns-in-Ok-clause-reports g c =
    let old = g.D.Disk.view c.args.disk.now in
    let new = g.D.Disk.view c.verify.new.disk in
    let reads = c.verify.ensures.reads in
    record {
      counted = c.in-Some.counted;
      faults = c.as_slice.result.now;
      printed = λ text. sym c.counted_by_last.ensures ∙ c.in-Some.is;
      are = λ text t journal is.
          let told = told-before old new reads t in
          let same = image_same old new reads told in
          subst (λ (l : List VerifyFault). AreFaults new.content journal.groups l) (sym c.as_slice.ensures)
          (subst (λ (m : Image). AreFaults m journal.groups c.in-Ok.faults) (sym same)
          (c.in-Ok.ensures.faults told journal (subst (λ (m : Image). IsJournalOf m journal) same is)));
      none = c.write_report.ensures.none;
      some = c.write_report.ensures.some;
      writes = c.write_report.ensures.writes;
      silent = λ tells other. absurd (speaks c.write_report.result c.write_report.ensures.status other);
    }

-- what opens is verified
pub returns-in-Err-clause-refused : goal.returns-in-Err-clause-refused
returns-in-Err-clause-refused g c four t usable =
    let bad = bad-fault c.in-Err.fault (sym c.status_of_fault.ensures ∙ four) in
    c.in-Err.ensures.refused bad.0 bad.1 (ap Err bad.2) t usable.headers usable.journal usable.has_journal
