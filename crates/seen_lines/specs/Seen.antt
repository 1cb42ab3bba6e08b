-- The lines as a read-write transaction sees them.
use Rattle.std.specs.Prelude.{ℕ, ◌≡◌, ◌==◌, if◌then◌else◌, List, Option, Some, None}
use Rattle.std.specs.FinMap.Entries.{put}
use Rattle.rdb_types.specs.declared.keys.Dbkey.{Dbkey}
use Rattle.rdb_types.specs.Order.{dbkey_order}
use Rattle.line_view.specs.Knowledge.{Lines, IsInOrder, laid, lines_in}
use Rattle.line_view.specs.Writes.{laid_all}
use Rattle.member_memory.specs.Memory.{Memory, writes_in}

-- what is committed, under what the transaction wrote
abbrev pub seen_by : Memory → Lines → Lines
seen_by own committed = laid_all (writes_in own.lines) committed

-- with a line more, where it has an image
abbrev pub with_found : Dbkey → Option (List ℕ) → Lines → Lines
with_found key (Some image) found = put dbkey_order key image found
with_found key None found = found

-- a write laid over the lines of an area, where it is of the area
abbrev pub laid_in : ℕ → Dbkey → Option (List ℕ) → Lines → Lines
laid_in area key image found = if key.area == area then laid key image found else found

-- a map of lines of this area alone
pub record IsOfArea (area : ℕ) (found : Lines) : Type 0 where
  pub ordered : IsInOrder found
  pub alone : lines_in area found ≡ found
