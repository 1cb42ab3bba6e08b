-- A reader behind calls that only read.
use Rattle.std.proofs.Common.{◌≡◌, ℕ, IsTrue, inl}
use Rattle.rdb_outside.specs.Disk.{View, OnlyReads}
use Rattle.line_view.specs.Knowledge.{Lines}
use Rattle.line_versions.specs.Versions.{Start}
use Rattle.line_moves.proofs.OnlyPut.{keeps_lines}
use Rattle.seen_lines.specs.disk_seats.Ledgers.{Ledger}
use Rattle.version_writing.proofs.of_disk_versions.Moves.{kept_by_reads, versions_move}
use Rattle.seen_lines.proofs.of_member_steps.Journals.{read_ledger}
use Rattle.reader_lines.specs.Readers.{IsReader}

pub reads_on : (v w : View) (g : Ledger) (limit : ℕ) (start : Start) (lines : Lines) → IsTrue v.tells → OnlyReads v w → IsReader v g limit start lines → IsReader w g limit start lines
reads_on v w g limit start lines t only was = record {
  facts = read_ledger v w g t only was.facts;
  course = was.course;
  versions = versions_move v w g.base limit was.course (kept_by_reads v w was.course.followed t only) (λ key. inl (keeps_lines v.content w.content (only.keeps t).content key)) was.versions;
  session = was.session;
  reading = was.reading;
  goes = was.goes;
  kept = was.kept;
  shows = was.shows;
}
