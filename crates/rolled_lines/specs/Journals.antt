-- The journals of a database, read one behind another: copies that were taken of its after-image journal, and that journal itself.
use Rattle.std.specs.Prelude.{ℕ, ◌+◌, ◌-◌, nat_lt, max, if◌then◌else◌, List, [], ◌∷◌, ◌++◌}
use Rattle.journal_scan.specs.declared.group.Group.{Group}
use Rattle.journal_scan.specs.Whole.{AreWhole}
use Rattle.stable_lines.specs.Journal.{Journal, next_number}
use Rattle.stable_lines.specs.Rolling.{groups_above}

-- What they give: the groups, or the first number that none of them has.
pub data Found : Type 0 where
  laid : List Group → Found
  gap : ℕ → Found

abbrev pub behind : List Group → Found → Found
behind groups (laid more) = laid (groups ++ more)
behind groups (gap number) = gap number

-- Behind the group of this number. Journals may overlap: of each those groups are taken that no earlier one had.
abbrev pub follow : ℕ → List Journal → Found
follow last [] = laid []
follow last (j ∷ js) = if nat_lt (last + 1) j.first then gap (last + 1)
    else behind (groups_above last j.groups) (follow (max last (next_number j - 1)) js)

-- the groups of each journal are whole, from its first number on
abbrev pub AreWholeJournals : List Journal → Type 0
AreWholeJournals [] = Unit {0}
AreWholeJournals (j ∷ js) = AreWhole j.first j.groups × AreWholeJournals js
