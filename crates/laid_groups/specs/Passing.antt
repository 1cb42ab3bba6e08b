-- A journal in any file, and what a pass over it comes to.
use Rattle.std.specs.Prelude.{ℕ, ◌+◌, ◌-◌, max, List, [], ◌∷◌}
use Rattle.rdb_types.specs.declared.file.FileId.{FileId}
use Rattle.rdb_outside.specs.Disk.{Image}
use Rattle.journal_scan.specs.declared.group.Group.{Group}
use Rattle.stable_lines.specs.Journal.{Journal, IsJournalOf, next_number}
use Rattle.stable_lines.specs.Rolling.{groups_above}
use Rattle.laid_groups.specs.declared.passing.Reached.{Reached}

-- the slots of the file are those of this journal
abbrev pub IsJournalIn : Image → FileId → Journal → Type 0
IsJournalIn image file journal = IsJournalOf (λ f slot. image file slot) journal

-- a ceiling above the number of each of these groups' transactions too
abbrev pub ceiling_behind : ℕ → List Group → ℕ
ceiling_behind ceiling [] = ceiling
ceiling_behind ceiling (g ∷ gs) = ceiling_behind (max ceiling (g.tsn.number + 1)) gs

-- What a pass comes to behind a journal: of its groups those above the last one are laid.
abbrev pub reached_behind : Reached → Journal → Reached
reached_behind at journal = record {
  last = max at.last (next_number journal - 1);
  ceiling = ceiling_behind at.ceiling (groups_above at.last journal.groups);
}
