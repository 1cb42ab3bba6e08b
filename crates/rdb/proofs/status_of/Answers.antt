use Rattle.std.proofs.Common.{◌<◌, ℕ, [], length, refl, arith}
use Rattle.std.specs.List.{Contains}
use Rattle.rdb.proofs.status_of.Goals as goal

in-none : (s : ℕ) → Contains [] s → ⊥
in-none s (k, below, is) = omega (arith, below)

pub run-finish-requires-clause-mortals : goal.run-finish-requires-clause-mortals
run-finish-requires-clause-mortals g c κs within given row s held = absurd (in-none s held)

pub run-finish-requires-clause-mortal : goal.run-finish-requires-clause-mortal
run-finish-requires-clause-mortal g c κs within s = (refl, refl)

pub run-finish-requires-clause-opens : goal.run-finish-requires-clause-opens
run-finish-requires-clause-opens g c κs within told = absurd told
