-- The images of rows.
use Rattle.std.specs.Prelude.{ℕ, ◌≤◌, List, ◌∷◌, length}
use Rattle.std.specs.List.{All}
use Rattle.slot_fields.specs.Fields.{Field, number, Has}
use Rattle.rdb_types.specs.declared.values.Value.{Value}
use Rattle.record_format.specs.Values.{values_fields, IsValue}

abbrev pub row_fields : ℕ → List Value → List Field
row_fields version row = number 2 version ∷ number 1 (length row) ∷ values_fields row

-- a version of a relation
abbrev pub IsVersion : ℕ → Type 0
IsVersion version = (1 ≤ version) × (version ≤ 50)

-- the bytes are the image of this row in this version of its relation
pub record IsRowImage (bytes : List ℕ) (version : ℕ) (row : List Value) : Type 0 where
  pub fields : Has (row_fields version row) bytes
  pub versioned : IsVersion version
  pub values : All IsValue row
