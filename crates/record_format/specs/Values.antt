-- Values, as they stand in rows and in keys.
use Rattle.std.specs.Prelude.{ℕ, ◌-◌, ◌≤◌, ◌<◌, ◌≢◌, List, [], ◌∷◌, length, Some, slice_get, FitsSigned}
use Rattle.std.specs.Int.{w64, cast_unsigned}
use Rattle.std.specs.List.{All, flat_map}
use Rattle.slot_fields.specs.Fields.{Field, number, text}
use Rattle.rdb_types.specs.declared.values.Value.{Value}
use Rattle.rdb_types.specs.declared.values.Value.TheVariants.{Missing, Number, Text}
use Rattle.record_format.specs.Lists.{AreListed}

-- printable characters, of which the last is no blank
pub record IsText (bytes : List ℕ) : Type 0 where
  pub printable : All (λ b. (32 ≤ b) × (b ≤ 126)) bytes
  pub trimmed : slice_get bytes (length bytes - 1) ≢ Some 32

abbrev pub value_fields : Value → List Field
value_fields Missing = number 1 0 ∷ []
value_fields (Number n) = number 1 1 ∷ number 8 (cast_unsigned w64 n) ∷ []
value_fields (Text t) = number 1 2 ∷ number 2 (length t) ∷ text t ∷ []

-- values one after another
abbrev pub values_fields : List Value → List Field
values_fields = flat_map value_fields

-- a text that may be laid out, a number or nothing
abbrev pub IsStorable : Value → Type 0
IsStorable Missing = Unit {0}
IsStorable (Number n) = Unit {0}
IsStorable (Text t) = IsText t

-- the same, with a number of 64 bits
abbrev pub IsValue : Value → Type 0
IsValue Missing = Unit {0}
IsValue (Number n) = FitsSigned w64 n
IsValue (Text t) = IsText t

-- from this place on the bytes are these values, and no more
abbrev pub AreValues : List ℕ → ℕ → List Value → Type 0
AreValues = AreListed value_fields IsValue

abbrev pub AreBytes : List ℕ → Type 0
AreBytes = All (λ b. b < 256)
