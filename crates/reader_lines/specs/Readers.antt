-- A read-only transaction on a disk.
use Rattle.std.specs.Prelude.{ℕ, ◌≡◌, Some}
use Rattle.rdb_types.specs.declared.keys.Dbkey.{Dbkey}
use Rattle.rdb_outside.specs.Disk.{View}
use Rattle.line_view.specs.Knowledge.{Lines, line_in}
use Rattle.line_versions.specs.Versions.{Start}
use Rattle.line_versions.specs.Course.{Course, Reading}
use Rattle.seen_lines.specs.disk_seats.Ledgers.{Ledger}
use Rattle.seen_lines.specs.disk_seats.Members.{LedgerFacts}
use Rattle.version_writing.specs.disk_versions.Versions.{VersionFacts}

-- A reader that keeps this from its start goes on, and these lines were committed then.
pub record IsReader (v : View) (g : Ledger) (limit : ℕ) (start : Start) (lines : Lines) : Type 0 where
  pub facts : LedgerFacts v g
  pub course : Course
  pub versions : VersionFacts v g.base limit course
  pub session : ℕ
  pub reading : Reading
  pub goes : course.reader session ≡ Some reading
  pub kept : reading.start ≡ start
  pub shows : (key : Dbkey) → reading.lines key ≡ line_in key lines
