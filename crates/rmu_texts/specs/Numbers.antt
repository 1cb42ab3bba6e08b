-- Numbers within lines.
use Rattle.std.specs.Prelude.{ℕ, List, ◌++◌, codes, decimal}

-- words and a number behind them
abbrev pub numbered : List ℕ → ℕ → List ℕ
numbered words n = words ++ decimal n

-- a number and what it counts, as `2 groups`
abbrev pub count_line : ℕ → List ℕ → List ℕ
count_line n unit = decimal n ++ codes " " ++ unit ++ codes "\n"
