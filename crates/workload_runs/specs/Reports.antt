-- What a workload writes.
use Rattle.std.specs.Prelude.{◌≡◌, ◌⊎◌, ℕ, List, [], length, Some, IsTrue}
use Rattle.rdb_outside.specs.Disk.{View}
use Rattle.rdb_account.specs.declared.event.Event.{Event}
use Rattle.stable_lines.specs.Journal.{Journal, IsJournalOf}
use Rattle.rmu_texts.specs.declared.faults.VerifyFault.{VerifyFault}
use Rattle.faultless_databases.specs.rmu_verify.Verified.{AreFaults}
use Rattle.rmu_commands.specs.Written.{HasText, Writes}
use Rattle.workload_scripts.specs.declared.report.Report.{Report}
use Rattle.workload_scripts.specs.Report.{report_text}
use Rattle.workload_replies.specs.declared.replies.Counted.{Counted}
use Rattle.workload_replies.specs.Replies.{counted_among}

abbrev pub report_of : Counted → List VerifyFault → Report
report_of c faults = record { accounts = c.accounts; total = c.total; faults = length faults }

-- A report is written: what the last run printed, whose account this is, and how many faults the database has; status 7 says that there are some. Nothing is written where the workload ended before it.
pub record Reports (disk : View) (last : List Event) (status : ℕ) (SinkTells : Type 0) (old new : List ℕ) : Type 0 where
  pub counted : Counted
  pub faults : List VerifyFault
  pub printed : HasText status → counted_among last ≡ Some counted
  pub are : HasText status → IsTrue disk.tells → (journal : Journal) → IsJournalOf disk.content journal → AreFaults disk.content journal.groups faults
  pub none : status ≡ 0 → faults ≡ []
  pub some : status ≡ 7 → faults ≡ [] → ⊥
  pub writes : SinkTells → Writes status (report_text (report_of counted faults)) old new
  pub silent : SinkTells → (status ≡ 8) ⊎ (status ≡ 9) → new ≡ old
