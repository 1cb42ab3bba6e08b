-- What a commit slot tells.
use Rattle.std.proofs.Common.{◌≡◌, ◌≢◌, ℕ, ◌+◌, List, Some, None, sym, subst, ◌∙◌, ap}
use Rattle.rdb_types.specs.declared.file.FileId.{FileId}
use Rattle.rdb_types.specs.declared.keys.Tsn.{Tsn}
use Rattle.rdb_outside.specs.Disk.{View, SameContent}
use Rattle.aij_journal.specs.declared.part.AijPart.{AijPart}
use Rattle.aij_journal.specs.Part.{IsPart}
use Rattle.journal_scan.specs.Standing.{what_stands}
use Rattle.journal_scan.proofs.Stands.{only_stands}
use Rattle.new_database.specs.Maker.{aij_file}
use Rattle.disk_seats.specs.stable_lines.Journal.{commit_of}
use Rattle.disk_seats.specs.stable_lines.Progress.{Flight, Progress}
use Rattle.disk_seats.proofs.of_stable_lines.Turns.{some_same}
use Rattle.disk_seats.specs.line_moves.Changes.{IsCommitOf}
use Rattle.disk_seats.proofs.of_line_moves.Commits.{commit_part, commit_stands}

module _ (now : Progress) (f : Flight) (slot number lines : ℕ) (tsn : Tsn) (is : IsCommitOf now f slot number tsn lines) (bytes : List ℕ) where
  pub told : (part : AijPart) → IsPart bytes part → part ≡ commit_part number tsn lines → what_stands bytes ≡ commit_of f.group
  told part here same = commit_stands now f slot number lines tsn bytes is (subst (λ (p : AijPart). IsPart bytes p) same here)

  commit_is : commit_of f.group ≡ Some (commit_part number tsn lines)
  commit_is = sym (λ i. Some (record { number = is.numbered i; tsn = is.its i; index = is.count i; count = is.count i + 1; line = None }))

  pub untold : (part : AijPart) → IsPart bytes part → part ≢ commit_part number tsn lines → what_stands bytes ≢ commit_of f.group
  untold part here off stands = off (some_same part (commit_part number tsn lines) (only_stands bytes (Some part) here ∙ (stands ∙ commit_is)))

  pub nothing_told : ((part : AijPart) → IsPart bytes part → ⊥) → what_stands bytes ≢ commit_of f.group
  nothing_told none stands = let bad : None ≡ Some (commit_part number tsn lines) = only_stands bytes None none ∙ (stands ∙ commit_is) in cc

-- what was read stands there still
pub read_there : (v w : View) (file : FileId) (slot : ℕ) (bytes : List ℕ) → file ≡ aij_file → SameContent v.content w.content → bytes ≡ v.content file slot → w.content aij_file slot ≡ bytes
read_there v w file slot bytes is same read = same aij_file slot ∙ (ap (λ (f : FileId). v.content f slot) (sym is) ∙ sym read)
