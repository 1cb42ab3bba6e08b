-- How far a writing came.
use Rattle.std.specs.Prelude.{◌≡◌, ℕ, List, ◌++◌, take}

-- some front of these bytes was written behind the old ones
abbrev pub WritesFront : List ℕ → List ℕ → List ℕ → Type 0
WritesFront old new bytes = (n : ℕ) × (new ≡ old ++ take n bytes)
