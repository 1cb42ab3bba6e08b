use Rattle.std.proofs.Common.{◌≡◌, ◌≤◌, ◌<◌, ◌^◌, ℕ, true, length, All}
use Rattle.rdb_top.specs.Runs.{scripts_of}
use Rattle.rdb_top.proofs.scripts.read_scripts.Given as goal

abbrev pub invariant-loop-done : goal.invariant-loop-done
invariant-loop-done g l =
    (length l.scripts.items ≡ l.done)
    × (g.S.Source.tells l.source ≡ g.S.Source.tells l.fn.source)
    × (g.S.Source.tells l.fn.source ≡ true → l.scripts.items ≡ scripts_of (g.S.Source.left l.fn.source) l.done)
    × (g.S.Source.tells l.fn.source ≡ true → (s : ℕ) → l.done < s → g.S.Source.left l.source s ≡ g.S.Source.left l.fn.source s)
    × (g.S.Source.tells l.fn.source ≡ true → (s : ℕ) → 1 ≤ s → s ≤ l.done → length (g.S.Source.left l.fn.source s) ≤ 1048576)
    × (g.S.Source.faults l.fn.source ≤ g.S.Source.faults l.source)
    × All (λ script. length script.items < 2 ^ 32) l.scripts.items
