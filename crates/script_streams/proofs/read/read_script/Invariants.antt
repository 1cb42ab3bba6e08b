use Rattle.std.proofs.Common.{◌≡◌, ◌≢◌, ℕ, ◌≤◌, ◌-◌, ◌++◌, true, length}
use Rattle.script_streams.proofs.read.read_script.Given as goal

abbrev pub invariant-loop-count : goal.invariant-loop-count
invariant-loop-count g l =
    (length l.text ≤ 1048576)
    × (g.S.Source.tells l.source ≡ g.S.Source.tells l.fn.source)
    × (g.S.Source.tells l.fn.source ≡ true →
    g.S.Source.left l.fn.source l.session ≡ l.text ++ g.S.Source.left l.source l.session)
    × (g.S.Source.tells l.fn.source ≡ true → (other : ℕ) → other ≢ l.session → g.S.Source.left l.source other ≡ g.S.Source.left l.fn.source other)
    × (g.S.Source.faults l.fn.source ≤ g.S.Source.faults l.source)
    × (length l.buffer ≡ 512)

abbrev pub decreases-loop-count : goal.decreases-loop-count
decreases-loop-count g l = 1048577 - length l.text
