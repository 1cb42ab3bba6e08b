-- Commits whose writes aren't in the map yet.
use Rattle.std.specs.Prelude.{ℕ, List, [], ◌∷◌}
use Rattle.line_view.specs.declared.writes.Write.{Write}
use Rattle.line_view.specs.Knowledge.{Lines}
use Rattle.line_view.specs.Writes.{laid_all}

-- the map behind commits, one after another
abbrev pub landed_on : List (List Write) → Lines → Lines
landed_on [] lines = lines
landed_on (batch ∷ batches) lines = landed_on batches (laid_all batch lines)

-- The committed lines, and how many commits may land before memory is wanted.
pub record Stock : Type 0 where
  pub lines : Lines
  pub room : ℕ
