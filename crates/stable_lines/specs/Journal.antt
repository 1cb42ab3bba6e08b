-- The whole groups of the after-image journal of an image.
use Rattle.std.specs.Prelude.{ℕ, ◌+◌, ◌≡◌, Bool, false, ◌==◌, ◌||◌, List, [], ◌∷◌, ◌++◌, length, map, slice_get, Option, Some, None}
use Rattle.std.specs.List.{flat_map}
use Rattle.journal_reading.specs.rdb_outside.Disk.{Image}
use Rattle.new_database.specs.aij_journal.declared.part.GroupLine.{GroupLine}
use Rattle.new_database.specs.aij_journal.declared.part.AijPart.{AijPart}
use Rattle.new_database.specs.aij_journal.Header.{IsHeader}
use Rattle.journal_reading.specs.journal_scan.declared.group.Group.{Group}
use Rattle.journal_reading.specs.journal_scan.Standing.{what_stands}
use Rattle.journal_reading.specs.journal_scan.Whole.{slots_of, group_slot, IsWhole, AreWhole}
use Rattle.line_view.specs.declared.writes.Write.{Write}
use Rattle.line_view.specs.Knowledge.{Lines}
use Rattle.line_view.specs.Writes.{laid_all}
use Rattle.new_database.specs.Maker.{aij_file}
use Rattle.line_versions.specs.Lines.{shown_as}

-- the number of the first group, and the whole groups
pub record Journal : Type 0 where
  pub first : ℕ
  pub groups : List Group

-- what stands in the slots behind the header
abbrev pub slots_in : Journal → List (Option AijPart)
slots_in j = flat_map slots_of j.groups

-- the number and the first slot of the group to be written next
abbrev pub next_number : Journal → ℕ
next_number j = j.first + length j.groups

abbrev pub next_slot : Journal → ℕ
next_slot j = length (slots_in j) + 1

-- the slots of this group stand in the image from this slot on
abbrev pub StandsAt : Image → ℕ → Group → Type 0
StandsAt image slot g = (i : ℕ) (what : Option AijPart) → slice_get (slots_of g) i ≡ Some what → what_stands (image aij_file (slot + i)) ≡ what

-- these are the whole groups of the image: each stands where the one before ends, and no next one does
pub record IsJournalOf (image : Image) (j : Journal) : Type 0 where
  pub header : IsHeader (image aij_file 0) j.first
  pub whole : AreWhole j.first j.groups
  pub stand : (i : ℕ) (what : Option AijPart) → slice_get (slots_in j) i ≡ Some what → what_stands (image aij_file (i + 1)) ≡ what
  pub no_more : (g : Group) → IsWhole (next_number j) g → StandsAt image (next_slot j) g → ⊥

-- whether the transaction has a whole group
abbrev pub has_group : ℕ → List Group → Bool
has_group tsn [] = false
has_group tsn (g ∷ gs) = (g.tsn.number == tsn) || has_group tsn gs

-- one group more
abbrev pub with_group : Journal → Group → Journal
with_group j g = record { first = j.first; groups = j.groups ++ g ∷ [] }

-- its commit
abbrev pub commit_of : Group → Option AijPart
commit_of g = group_slot g (length g.lines) None

-- the lines of a group laid over a map
abbrev pub write_of : GroupLine → Write
write_of line = record { key = line.key; image = shown_as line.state line.image }

abbrev pub lines_behind : Group → Lines → Lines
lines_behind g lines = laid_all (map write_of g.lines) lines
