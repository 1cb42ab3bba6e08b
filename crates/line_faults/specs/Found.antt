-- Lists of what isn't as it has to be.
use Rattle.std.specs.Prelude.{◌≡◌, ◌⊎◌, List, [], ◌∷◌}
use Rattle.rdb_types.specs.declared.keys.Dbkey.{Dbkey}

-- Of these things, in their order, those that are bad are found under their names, each once, and the others are fine.
abbrev pub Finds : {X F : Type 0} → (X → Type 0) → (X → Type 0) → (X → F) → List X → List F → Type 0
Finds Fine Bad name [] found = found ≡ []
Finds {F = F} Fine Bad name (x ∷ xs) found =
    (Fine x × Finds Fine Bad name xs found) ⊎ (Bad x × ((rest : List F) × (found ≡ name x ∷ rest) × Finds Fine Bad name xs rest))

abbrev pub IsIn : Dbkey → List Dbkey → Type 0
IsIn key [] = ⊥
IsIn key (k ∷ ks) = (k ≡ key) ⊎ IsIn key ks
