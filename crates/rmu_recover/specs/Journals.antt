-- The journals that a roll-forward is told, one behind another.
use Rattle.std.specs.Prelude.{ℕ, ◌+◌, ◌≤◌, ◌≡◌, List, [], ◌∷◌, length}
use Rattle.rdb_types.specs.declared.file.FileId.{FileId}
use Rattle.rdb_outside.specs.Disk.{Image}
use Rattle.journal_scan.specs.declared.group.Group.{Group}
use Rattle.new_database.specs.Maker.{aij_file}
use Rattle.stable_lines.specs.Journal.{Journal}
use Rattle.rolled_lines.specs.Journals.{follow, laid}
use Rattle.journal_backup.specs.Copied.{copy_named}
use Rattle.fitted_groups.specs.laid_groups.declared.passing.Reached.{Reached}
use Rattle.fitted_groups.specs.laid_groups.Passing.{IsJournalIn, ceiling_behind, reached_behind}

-- the files of the copies of these numbers, and behind them the journal's
abbrev pub files_of : List ℕ → List FileId
files_of [] = aij_file ∷ []
files_of (number ∷ numbers) = copy_named number ∷ files_of numbers

-- in each of the files stands one of the journals
abbrev pub AreJournalsIn : Image → List FileId → List Journal → Type 0
AreJournalsIn image [] [] = Unit {0}
AreJournalsIn image [] (journal ∷ journals) = ⊥
AreJournalsIn image (file ∷ files) [] = ⊥
AreJournalsIn image (file ∷ files) (journal ∷ journals) = IsJournalIn image file journal × AreJournalsIn image files journals

-- The journal doesn't begin above the next number, and a pass over it comes to this.
pub record Reaches (at : Reached) (journal : Journal) (reached : Reached) : Type 0 where
  pub begins : journal.first ≤ at.last + 1
  pub is : reached ≡ reached_behind at journal

-- The journals follow on, with these groups; so far they go, with the ceiling above all of these.
pub record FollowsTo (at : Reached) (journals : List Journal) (reached : Reached) : Type 0 where
  pub groups : List Group
  pub follows : follow at.last journals ≡ laid groups
  pub last : reached.last ≡ at.last + length groups
  pub ceiling : reached.ceiling ≡ ceiling_behind at.ceiling groups
