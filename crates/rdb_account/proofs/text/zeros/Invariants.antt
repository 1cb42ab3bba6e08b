use Rattle.std.proofs.Common.{◌≡◌, ◌++◌, replicate}
use Rattle.rdb_account.proofs.text.zeros.Given as goal

abbrev pub invariant-loop-turn : goal.invariant-loop-turn
invariant-loop-turn l = l.out ≡ l.initial.out ++ replicate l._turn 48
