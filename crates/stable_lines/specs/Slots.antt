-- What the slots of a database say: the lines of data pages, the headers of before-image journals, and their entries.
use Rattle.std.specs.Prelude.{ℕ, ◌+◌, ◌-◌, ◌≤◌, ◌==◌, ◌&&◌, Bool, nat_le, nat_lt, List, take, drop, if◌then◌else◌}
use Rattle.slot_fields.specs.Fields.{number_at}
use Rattle.rdb_types.specs.declared.file.FileId.{FileId}
use Rattle.rdb_types.specs.declared.file.FileKind.TheVariants.{Area, Ruj}
use Rattle.rdb_types.specs.declared.keys.Dbkey.{Dbkey}
use Rattle.rdb_types.specs.declared.keys.Tsn.{Tsn}
use Rattle.rdb_types.specs.declared.keys.Line.{Line}
use Rattle.journal_reading.specs.rdb_outside.Disk.{Image}
use Rattle.ruj_journal.specs.rdb_page.Lines.{line_place, never}
use Rattle.ruj_journal.specs.rdb_page.Page.{lines_of, class_at}
use Rattle.line_versions.specs.Lines.{storage_area}
use Rattle.ruj_journal.specs.declared.entry.RujEntry.{RujEntry}
use Rattle.journal_reading.specs.journal_scan.Standing.{said_state}

-- ---- files

-- the before-image journal of a member
abbrev pub ruj_file : ℕ → FileId
ruj_file member = record { kind = Ruj; number = member }

abbrev pub area_file : ℕ → FileId
area_file number = record { kind = Area; number = number }

-- members have numbers from 1 to 16
pub record IsMember (member : ℕ) : Type 0 where
  pub first : 1 ≤ member
  pub last : member ≤ 16

-- area files have numbers from 1 to 3
pub record IsAreaFile (number : ℕ) : Type 0 where
  pub first : 1 ≤ number
  pub last : number ≤ 3

-- ---- lines

-- where the page of a line stands
abbrev pub file_of : Dbkey → FileId
file_of key = area_file (storage_area key.area)

abbrev pub slot_of : Dbkey → ℕ
slot_of key = key.page - 1

-- the logical area that a page says it belongs to
abbrev pub owner_at : List ℕ → ℕ
owner_at page = number_at 4 8 page

-- whether a page has a place for the line: the page is of its logical area, and has so many lines. Pages count from 1 to 65,536.
abbrev pub has_place : Dbkey → List ℕ → Bool
has_place key page = nat_le 1 key.area && nat_le 1 key.page && nat_le key.page 65536 && (owner_at page == key.area) && nat_lt key.line (lines_of (class_at page))

-- what the bytes of a page say at the place of a line
abbrev pub said_at : ℕ → List ℕ → Line
said_at at page = record {
  state = said_state (number_at 1 at page);
  tsn = record { number = number_at 8 (at + 4) page };
  chain = number_at 4 (at + 12) page;
  image = take (number_at 2 (at + 2) page) (drop (at + 16) page);
}

-- the line of this key on its page. Where the page has no place for it, as one of zeros, it was never used.
unfoldable pub line_on : Dbkey → List ℕ → Line
line_on key page = if has_place key page then said_at (line_place (class_at page) key.line) page else never

-- the line as it stands in the image
abbrev pub line_at : Image → Dbkey → Line
line_at image key = line_on key (image (file_of key) (slot_of key))

-- ---- before-image journals

-- the transaction that a header names, 0 being none
unfoldable pub named : List ℕ → ℕ
named header = number_at 8 4 header

-- how a line was before a transaction changed it
pub record Undo : Type 0 where
  pub key : Dbkey
  pub before : Line

-- the entry of a transaction in a slot
abbrev pub entry_at : Tsn → ℕ → Undo → RujEntry
entry_at tsn slot undo = record { tsn = tsn; index = slot; key = undo.key; before = undo.before }
