-- What a commit that stands makes of memory.
use Rattle.std.specs.Prelude.{ℕ, ◌+◌, ◌≡◌, [], ◌∷◌, ◌++◌, length, slice_get, Some, is_some}
use Rattle.rdb_types.specs.declared.keys.Dbkey.{Dbkey}
use Rattle.rdb_types.specs.declared.keys.Line.{Line}
use Rattle.rdb_page.specs.Page.{IsOwner}
use Rattle.line_opening.specs.declared.groups.NextGroup.{NextGroup}
use Rattle.line_versions.specs.Lines.{shown}
use Rattle.line_moves.specs.declared.places.Place.{Place}
use Rattle.line_moves.specs.Changes.{IsPlaceOf}
use Rattle.line_moves.specs.Lines.{ChangedLines}
use Rattle.member_rooms.specs.page_table.Pages.{IsLineOf, PutsLine}
use Rattle.disk_store.specs.declared.member.Member.{Member}
use Rattle.disk_store.specs.declared.member.MemberStage.{MemberStage}
use Rattle.disk_store.specs.declared.held.Tables.{Tables}
use Rattle.disk_store.specs.Dying.{forgotten}
use Rattle.disk_store.specs.Memory.{StoreMemory, with_member}
use Rattle.disk_store.specs.Shown.{pages_of}

-- the line is put into the table of its file
pub record PutsIn (line : Dbkey × Line) (old new : Tables) : Type 0 where
  pub file : ℕ
  pub owner : IsOwner file line.0.area
  pub is_line : IsLineOf (pages_of old file) line.0
  pub here : PutsLine line.0 (is_some (shown line.1)) (pages_of old file) (pages_of new file)
  pub others : (other : ℕ) → (other ≡ file → ⊥) → pages_of new other ≡ pages_of old other

-- each of the lines is, one behind another
pub data PutsAll (old : Tables) : ChangedLines → Tables → Type 0 where
  none : (lines : ChangedLines) (new : Tables) → lines ≡ [] → new ≡ old → PutsAll old lines new
  more : (before lines : ChangedLines) (between new : Tables) (line : Dbkey × Line) → lines ≡ before ++ line ∷ [] → PutsAll old before between → PutsIn line between new → PutsAll old lines new

-- each of the lines lies on a page of its area, by the tables
abbrev pub LieThere : Tables → ChangedLines → Type 0
LieThere tables lines = (i : ℕ) (line : Dbkey × Line) → slice_get lines i ≡ Some line → (place : Place) × IsPlaceOf line.0 place × IsLineOf (pages_of tables place.file) line.0

-- where the group behind one of so many lines is written
abbrev pub group_behind : ℕ → NextGroup → NextGroup
group_behind lines next = record { slot = next.slot + (lines + 1); number = next.number + 1 }

-- the session comes to this stage, without lines; the tables have its lines, and the next group comes behind its own
abbrev pub landed_with : MemberStage → Tables → ℕ → Member → StoreMemory → StoreMemory
landed_with next tables s m held = record (with_member s (forgotten next m) held) { tables = tables; next = group_behind (length m.written.keys) held.next }
