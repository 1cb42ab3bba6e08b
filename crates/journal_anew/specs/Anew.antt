-- A journal that is begun anew.
use Rattle.std.specs.Prelude.{ℕ, ◌+◌, ◌≤◌, ◌≡◌, ◌≢◌, ◌==◌, ◌⊎◌, if◌then◌else◌, [], None}
use Rattle.rdb_types.specs.declared.file.FileId.{FileId}
use Rattle.root_file.specs.declared.Root.{Root}
use Rattle.rdb_outside.specs.Disk.{Image, View, Pending}
use Rattle.new_database.specs.Maker.{root_file, aij_file}
use Rattle.line_view.specs.Knowledge.{Lines}
use Rattle.stable_lines.specs.Journal.{Journal, next_number}
use Rattle.stable_lines.specs.Progress.{Progress}
use Rattle.stable_lines.specs.Facts.{Facts}
use Rattle.stable_lines.specs.Kept.{Kept}
use Rattle.stable_lines.specs.Steps.{NamesNone}
use Rattle.database_opening.specs.declared.start.StoreStart.{StoreStart}
use Rattle.database_opening.specs.Start.{IsStart}

-- Nobody has a transaction, and this number is above the groups.
pub record MayBeginAnew (v : View) (now : Progress) (first : ℕ) : Type 0 where
  pub facts : Facts (Pending v) now
  pub closed : NamesNone (Pending v)
  pub former : now.former ≡ None
  pub flight : now.flight ≡ None
  pub above : next_number now.journal ≤ first

-- neither the root nor the journal
pub record IsApart (file : FileId) : Type 0 where
  pub root : file ≢ root_file
  pub journal : file ≢ aij_file

abbrev pub no_groups : ℕ → Journal
no_groups first = record { first = first; groups = [] }

-- The journal of a database in use, by its root: the one that it has, or, where it was restored and not used since, one without groups, whose numbers leave one out.
abbrev pub journal_in_use : Root → Journal → Journal
journal_in_use root journal = if root.state == 3 then no_groups (next_number journal + 1) else journal

-- An image of the same lines, before the journal is the one in use or behind that.
abbrev pub StandsInUse : (ℕ → ℕ) → Lines → Journal → Root → Image → Type 0
StandsInUse classes lines journal root image = Kept classes lines journal image ⊎ Kept classes lines (journal_in_use root journal) image

-- Where the store begins: as it was opened, or, where the database was restored and not used since, with a whole root and the journal in use.
abbrev pub start_in_use : StoreStart → StoreStart
start_in_use start = if start.root.state == 3
    then record {
      root = record { format = start.root.format; state = 1; limits = start.root.limits; ceiling = start.root.ceiling; applied = start.root.applied };
      next_tsn = start.next_tsn;
      next = record { slot = 1; number = start.next.number + 1 };
    }
    else start

-- The lines are the same. The journal is this one, or one without groups, whose numbers leave one out.
pub record IsInUse (classes : ℕ → ℕ) (lines : Lines) (journal : Journal) (v : View) (used : StoreStart) : Type 0 where
  pub its : Journal
  pub start : IsStart classes lines its v used
  pub since : (its ≡ journal) ⊎ (its ≡ no_groups (next_number journal + 1))
