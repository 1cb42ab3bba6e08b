-- Where a store begins behind an opening.
use Rattle.std.specs.Prelude.{ℕ, ◌∷◌, [], None}
use Rattle.rdb_outside.specs.Disk.{View, Pending}
use Rattle.line_view.specs.Knowledge.{Lines}
use Rattle.line_opening.specs.stable_lines.Journal.{Journal}
use Rattle.line_opening.specs.stable_lines.Progress.{Progress}
use Rattle.line_opening.specs.stable_lines.Facts.{Facts}
use Rattle.line_opening.specs.stable_lines.History.{History}
use Rattle.line_opening.specs.stable_lines.Steps.{NamesNone}
use Rattle.line_opening.specs.Passing.{IsNext}
use Rattle.database_opening.specs.declared.start.StoreStart.{StoreStart}

-- nothing is open, and these lines are committed
abbrev pub beginning_with : (ℕ → ℕ) → Lines → Journal → StoreStart → Progress
beginning_with classes lines journal start = record {
  lines = lines;
  classes = classes;
  journal = journal;
  former = None;
  going = λ member. None;
  flight = None;
  next_tsn = start.next_tsn;
  limits = start.root.limits;
}

-- no commit was made yet
abbrev pub history_with : (ℕ → ℕ) → Lines → History
history_with classes lines = record { reached = record { lines = lines; classes = classes } ∷ []; tried = [] }

-- the facts of that, and no header names a transaction
pub record IsStart (classes : ℕ → ℕ) (lines : Lines) (journal : Journal) (v : View) (start : StoreStart) : Type 0 where
  pub facts : Facts (Pending v) (beginning_with classes lines journal start)
  pub next : IsNext journal start.next
  pub closed : NamesNone (Pending v)
