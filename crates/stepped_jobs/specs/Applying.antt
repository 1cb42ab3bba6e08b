-- Writes that are laid, and what is known behind them.
use Rattle.std.specs.Prelude.{ℕ, List}
use Rattle.line_view.specs.declared.writes.Write.{Write}
use Rattle.line_view.specs.Knowledge.{IsInOrder, Agrees}
use Rattle.line_view.specs.Held.{Held, knows}
use Rattle.line_store.specs.Shelves.{Shelf, seen_by}
use Rattle.line_store.specs.Calls.{Changes}

-- The writes begin to be laid, and what is known goes on agreeing with the lines that s sees.
pub record Applies (s : ℕ) (writes : List Write) (known behind : Held) (old new : Shelf) : Type 0 where
  pub changes : Changes s writes old new
  pub agrees : IsInOrder old.now → Agrees (knows known) (seen_by s old) → Agrees (knows behind) (seen_by s new)
