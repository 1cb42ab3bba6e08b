-- A commit slot, written and made stable.
use Rattle.std.proofs.Common.{◌≡◌, ℕ, ◌+◌, List, length, Some, None, ap, sym, ◌∙◌}
use Rattle.rdb_types.specs.declared.keys.Tsn.{Tsn}
use Rattle.line_store.specs.rdb_outside.Disk.{Image}
use Rattle.stable_lines.specs.aij_journal.declared.part.AijPart.{AijPart}
use Rattle.stable_lines.specs.aij_journal.Part.{IsPart}
use Rattle.stable_lines.specs.journal_scan.Standing.{what_stands}
use Rattle.stable_lines.proofs.of_journal_scan.Stands.{only_stands}
use Rattle.stable_lines.specs.new_database.Maker.{aij_file}
use Rattle.stable_lines.specs.Journal.{next_slot, commit_of}
use Rattle.stable_lines.specs.Progress.{Flight, Progress, landed}
use Rattle.stable_lines.specs.Facts.{PendingContents, More, Only, Facts}
use Rattle.stable_lines.proofs.JournalWrite.{commit_written}
use Rattle.stable_lines.proofs.Ending.{lands}
use Rattle.line_moves.specs.Changes.{IsCommitOf}

abbrev pub commit_part : ℕ → Tsn → ℕ → AijPart
commit_part number tsn lines = record { number = number; tsn = tsn; index = lines; count = lines + 1; line = None }

pub commit_stands : (now : Progress) (f : Flight) (slot number lines : ℕ) (tsn : Tsn) (bytes : List ℕ) → IsCommitOf now f slot number tsn lines → IsPart bytes (commit_part number tsn lines) → what_stands bytes ≡ commit_of f.group
commit_stands now f slot number lines tsn bytes is part =
    sym (only_stands bytes (Some (commit_part number tsn lines)) part)
    ∙ (λ i. Some (record { number = is.numbered i; tsn = is.its i; index = is.count i; count = is.count i + 1; line = None }))

pub commits : (P Q : PendingContents) (now : Progress) (f : Flight) (slot number lines : ℕ) (tsn : Tsn) (bytes : List ℕ) → More Q P aij_file (slot + lines) bytes → Facts P now → IsCommitOf now f slot number tsn lines → IsPart bytes (commit_part number tsn lines) → Facts Q now
commits P Q now f slot number lines tsn bytes more was is part =
    commit_written P Q now (slot + lines) bytes more was f is.flies (λ i. is.in_slot i + is.count i) (commit_stands now f slot number lines tsn bytes is part)

pub lands_with : (P : PendingContents) (content : Image) → Only P content → (now : Progress) (f : Flight) (slot number lines : ℕ) (tsn : Tsn) → Facts P now → IsCommitOf now f slot number tsn lines → what_stands (content aij_file (slot + lines)) ≡ commit_of f.group → Facts P (landed f now)
lands_with P content only now f slot number lines tsn was is here =
    lands P now f is.flies (λ x p. ap what_stands (only aij_file (next_slot now.journal + length f.group.lines) x p ∙ ap (content aij_file) (sym place)) ∙ here) was
  where
    place : slot + lines ≡ next_slot now.journal + length f.group.lines
    place i = is.in_slot i + is.count i
