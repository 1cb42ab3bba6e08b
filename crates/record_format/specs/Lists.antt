-- Things that stand one after another, each as its fields.
use Rattle.std.specs.Prelude.{ℕ, ◌+◌, ◌≤◌, ◌≡◌, List, length}
use Rattle.std.specs.List.{All, flat_map}
use Rattle.slot_fields.specs.Fields.{Field, HasFrom, HasPart, size}

-- from this place on the bytes are these things, and no more
pub record AreListed {X : Type 0} (fields_of : X → List Field) (Allowed : X → Type 0) (bytes : List ℕ) (from : ℕ) (xs : List X) : Type 0 where
  pub fields : HasFrom from (flat_map fields_of xs) bytes
  pub allowed : All Allowed xs

-- the thing stands at this place, and ends before that one
pub record StandsAt {X : Type 0} (fields_of : X → List Field) (Allowed : X → Type 0) (bytes : List ℕ) (at : ℕ) (x : X) (end : ℕ) : Type 0 where
  pub fields : HasPart at (fields_of x) bytes
  pub allowed : Allowed x
  pub ends : end ≡ at + size (fields_of x)
  pub within : end ≤ length bytes
