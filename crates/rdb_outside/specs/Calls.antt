-- The calls of a source or a sink in memory.
use Rattle.std.specs.Prelude.{ℕ, Bool, List, ◌+◌, ◌-◌, ◌^◌, min}
use Rattle.rdb_outside.specs.Plan.{is_listed}

pub record Numbered : Type 0 where
  -- how many there were
  pub made : ℕ
  -- the numbers of those that fail, counted from 1
  pub fails : List ℕ

-- the number of the next call, which stands still at its type's last value
abbrev pub next_number : Numbered → ℕ
next_number calls = min (calls.made + 1) (2 ^ 64 - 1)

-- whether the next call is one that fails
abbrev pub fails_next : Numbered → Bool
fails_next calls = is_listed calls.fails (next_number calls)

-- behind one call more
abbrev pub called : Numbered → Numbered
called calls = record { made = next_number calls; fails = calls.fails }
