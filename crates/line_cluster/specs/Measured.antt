-- What falls with each turn that moves.
use Rattle.std.specs.Prelude.{◌≡◌, ℕ, suc, Bool, true, false, List, [], ◌∷◌, ◌++◌, length}
use Rattle.rdb_drive.specs.Boards.{Fits}
use Rattle.lock_tree_laws.specs.Progress.{measure}
use Rattle.session_states.specs.declared.stage.Member.{Member}
use Rattle.session_measure.specs.Weights.{Beside, weight, sum_of}

-- the numbers of nobody
abbrev pub no_weight : List ℕ
no_weight = 0 ∷ 0 ∷ 0 ∷ 0 ∷ 0 ∷ 0 ∷ 0 ∷ 0 ∷ []

-- The numbers of these sessions, of which the first has this number, summed up number by number. So often the job of the statement of each may still be handed out.
abbrev pub weights_from : ℕ → List Member → (rounds : ℕ → ℕ) → Beside → List ℕ
weights_from s [] rounds b = no_weight
weights_from s (m ∷ ms) rounds b = sum_of (weight (rounds s) b s m) (weights_from (suc s) ms rounds b)

-- what they are called
abbrev pub numbers_from : ℕ → List Member → List ℕ
numbers_from s [] = []
numbers_from s (m ∷ ms) = s ∷ numbers_from (suc s) ms

-- behind a halt nothing is left to do
abbrev pub measure_by : (halted : Bool) → List Member → (rounds : ℕ → ℕ) → Beside → List ℕ
measure_by true members rounds b = no_weight ++ 0 ∷ 0 ∷ 0 ∷ 0 ∷ 0 ∷ []
measure_by false members rounds b = weights_from 1 members rounds b ++ measure (numbers_from 1 members) b.locks

-- There are as many numbers at every moment, and each fits 80 bits, as sums over sessions of numbers of 64 bits do.
pub record IsBounded (measure : List ℕ) : Type 0 where
  pub long : length measure ≡ 13
  pub fits : Fits measure
