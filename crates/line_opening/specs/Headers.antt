-- What the members' headers name, and which of it is open.
use Rattle.std.specs.Prelude.{ℕ, ◌-◌, ◌<◌, ◌≡◌, List, length, slice_index_or, if◌then◌else◌}
use Rattle.rdb_outside.specs.Disk.{Image}
use Rattle.journal_passing.specs.journal_scan.declared.group.Group.{Group}
use Rattle.line_moves.specs.stable_lines.Slots.{ruj_file, IsMember, named}
use Rattle.line_moves.specs.stable_lines.Journal.{has_group}

-- the number in the place of a member
abbrev pub number_of : List ℕ → ℕ → ℕ
number_of numbers member = slice_index_or numbers (member - 1) 0

-- these are the transactions that the headers name, 0 being none
pub record AreNamed (image : Image) (numbers : List ℕ) : Type 0 where
  pub long : length numbers ≡ 16
  pub each : (member : ℕ) → IsMember member → number_of numbers member ≡ named (image (ruj_file member) 0)

-- the transaction where none of these groups is its own, and 0 where one is
abbrev pub open_in : List Group → ℕ → ℕ
open_in groups tsn = if has_group tsn groups then 0 else tsn

-- the headers of the members before this one name no transaction
abbrev pub AreClosed : Image → ℕ → Type 0
AreClosed image end = (member : ℕ) → IsMember member → member < end → named (image (ruj_file member) 0) ≡ 0
