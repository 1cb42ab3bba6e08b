-- Walks and cycles of waits.
use Rattle.std.specs.Prelude.{◌≡◌, ℕ, List, [], ◌∷◌, ◌++◌}

-- from x one comes to y over these owners, each of whom waits for the next
abbrev pub IsWalk : (ℕ → ℕ → Type 0) → ℕ → List ℕ → ℕ → Type 0
IsWalk waits x [] y = waits x y
IsWalk waits x (z ∷ zs) y = waits x z × IsWalk waits z zs y

-- from the owner over others back to the owner, each waits for the next
abbrev pub IsCycle : (ℕ → ℕ → Type 0) → ℕ → List ℕ → Type 0
IsCycle waits owner cycle = (over : List ℕ) × IsWalk waits owner over owner × (cycle ≡ owner ∷ (over ++ owner ∷ []))

-- no walk leads from the owner back to the owner
abbrev pub IsOnNoCycle : (ℕ → ℕ → Type 0) → ℕ → Type 0
IsOnNoCycle waits owner = (over : List ℕ) → IsWalk waits owner over owner → ⊥

abbrev pub IsAcyclic : (ℕ → ℕ → Type 0) → Type 0
IsAcyclic waits = (owner : ℕ) → IsOnNoCycle waits owner
