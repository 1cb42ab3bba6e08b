-- How the ledger of a database begins.
use Rattle.std.specs.Prelude.{ℕ, ◌+◌, ◌≤◌, ◌≡◌, List, None}
use Rattle.root_file.specs.declared.Root.{Root}
use Rattle.root_file.specs.Root.{IsRoot, IsAllowed}
use Rattle.new_database.specs.Maker.{root_file}
use Rattle.disk_seats.specs.stable_lines.Progress.{Progress}
use Rattle.disk_seats.specs.stable_lines.Facts.{PendingContents}

-- the root of a whole database with these limits, and room for 64 transactions more
pub record IsRaised (root : Root) (next_tsn : ℕ) (made : Root) : Type 0 where
  pub allowed : IsAllowed made
  pub whole : made.state ≡ 1
  pub limits : made.limits ≡ root.limits
  pub ceiling : made.ceiling ≡ next_tsn + 64

-- each root that a crash may leave has its ceiling there, or above
abbrev pub HasCeiling : PendingContents → ℕ → Type 0
HasCeiling P ceiling = (content : List ℕ) (root : Root) → P root_file 0 content → IsRoot content root → ceiling ≤ root.ceiling

-- nothing is open, and nothing flies
pub record IsAtRest (base : Progress) : Type 0 where
  pub rests : (member : ℕ) → base.going member ≡ None
  pub quiet : base.flight ≡ None
  pub settled : base.former ≡ None
