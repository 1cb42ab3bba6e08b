-- What catalog lines are made of: names, types, and the positions of fields.
use Rattle.std.specs.Prelude.{ℕ, ◌≤◌, ◌≡◌, Bool, ◌||◌, ◌==◌, if◌then◌else◌, IsTrue, List, [], ◌∷◌, length, slice_index}
use Rattle.std.specs.Char.{is_ascii_digit, is_ascii_uppercase}
use Rattle.std.specs.List.{All, flat_map}
use Rattle.slot_fields.specs.Fields.{Field, number, text, HasFrom, HasPart}
use Rattle.rdb_types.specs.declared.values.DataType.{DataType}
use Rattle.rdb_types.specs.declared.values.DataType.TheVariants.{Word, Longword, Quadword, Text}
use Rattle.rdb_types.specs.declared.values.FieldType.{FieldType}

-- ---- names, as the language has them once their letters are upper-cased

-- letters, digits, `_` and `$`
abbrev pub is_name_byte : ℕ → Bool
is_name_byte b = is_ascii_uppercase b || is_ascii_digit b || b == 95 || b == 36

pub record IsName (name : List ℕ) : Type 0 where
  pub length : (1 ≤ length name) × (length name ≤ 31)
  pub letter : IsTrue (is_ascii_uppercase (slice_index name 0))
  pub bytes : All (λ b. IsTrue (is_name_byte b)) name

-- its length, and its bytes
abbrev pub name_fields : List ℕ → List Field
name_fields name = number 1 (length name) ∷ text name ∷ []

-- the bytes end with this name, from this place on
pub record EndsWithName (bytes : List ℕ) (at : ℕ) (name : List ℕ) : Type 0 where
  pub fields : HasFrom at (name_fields name) bytes
  pub allowed : IsName name

-- ---- types

abbrev pub kind_byte : DataType → ℕ
kind_byte Word = 1
kind_byte Longword = 2
kind_byte Quadword = 3
kind_byte Text = 4

-- a text has no scale and from 1 to 500 characters, and a number up to 9 digits after its point and no size
abbrev pub IsTypeOf : DataType → ℕ → ℕ → Type 0
IsTypeOf Text scale size = (scale ≡ 0) × (1 ≤ size) × (size ≤ 500)
IsTypeOf _ scale size = (scale ≤ 9) × (size ≡ 0)

abbrev pub IsType : FieldType → Type 0
IsType t = IsTypeOf t.kind t.scale t.size

abbrev pub type_fields : FieldType → List Field
type_fields t = number 1 (kind_byte t.kind) ∷ number 1 t.scale ∷ number 2 t.size ∷ []

-- the type stands at this place
pub record HasType (bytes : List ℕ) (at : ℕ) (t : FieldType) : Type 0 where
  pub fields : HasPart at (type_fields t) bytes
  pub allowed : IsType t

-- ---- flags and positions

abbrev pub flag_byte : Bool → ℕ
flag_byte flag = if flag then 1 else 0

abbrev pub position_fields : ℕ → List Field
position_fields position = number 2 position ∷ []

-- one after another
abbrev pub positions_fields : List ℕ → List Field
positions_fields = flat_map position_fields
