-- The rows of a relation, as they stand on lines.
use Rattle.std.specs.Prelude.{◌≡◌, ◌≤◌, ◌-◌, ℕ, ℤ, Bool, true, false, ◌&&◌, nat_le, List, [], ◌∷◌, ◌++◌, length, replicate, Some, None, is_some}
use Rattle.std.specs.List.{AllByRecursion, filter}
use Rattle.rdb_types.specs.declared.values.Value.{Value}
use Rattle.rdb_types.specs.declared.values.Value.TheVariants.{Missing, Number, Text}
use Rattle.rdb_types.specs.declared.values.DataType.{DataType}
use Rattle.rdb_types.specs.declared.values.DataType.TheVariants as data_type
use Rattle.rdb_types.specs.declared.values.Field.{Field}
use Rattle.rdb_types.specs.declared.values.FieldType.{FieldType}
use Rattle.rdb_types.specs.declared.keys.Dbkey.{Dbkey}
use Rattle.rdb_meaning.specs.Numbers.{is_text_type, bits_of, fits_bits}
use Rattle.sorted_index_laws.specs.record_format.Rows.{IsRowImage}
use Rattle.sorted_index_laws.specs.line_view.declared.need.Need.{Need}
use Rattle.sorted_index_laws.specs.line_view.declared.need.Need.TheVariants.{Line, Area}
use Rattle.sorted_index_laws.specs.line_view.Knowledge.{Knowledge, Lines, line_in}
use Rattle.relation_rows.specs.declared.stored.StoredRelation.{StoredRelation}
use Rattle.relation_rows.specs.declared.stored.StoredRow.{StoredRow}

-- ---- the row of a line

-- a number of as many bits as the type has
abbrev pub is_number_of : DataType → ℤ → Bool
is_number_of data_type.Text n = false
is_number_of kind n = fits_bits (bits_of kind) n

-- a value that may stand in a field of this type
abbrev pub is_value_of : FieldType → Value → Bool
is_value_of type Missing = true
is_value_of type (Number n) = is_number_of type.kind n
is_value_of type (Text t) = is_text_type type && nat_le (length t) type.size

-- each value may stand in its field
abbrev pub are_values_of : List Field → List Value → Bool
are_values_of fields [] = true
are_values_of [] (v ∷ vs) = false
are_values_of (f ∷ fs) (v ∷ vs) = is_value_of f.kind v && are_values_of fs vs

-- how many fields the relation had in this version
abbrev pub count_in : ℕ → List Field → ℕ
count_in version fields = length (filter (λ f. nat_le f.version version) fields)

-- the values with missing ones for the fields that came later
abbrev pub completed : List Field → List Value → List Value
completed fields values = values ++ replicate (length fields - length values) Missing

-- These are values of the relation in this version of it.
pub record AreValuesIn (r : StoredRelation) (version : ℕ) (values : List Value) : Type 0 where
  pub known : version ≤ r.version
  pub count : length values ≡ count_in version r.fields.now
  pub fit : are_values_of r.fields.now values ≡ true

-- The image is that of this row of the relation, in the version in which it was stored.
pub record IsRowOf (r : StoredRelation) (image : List ℕ) (row : List Value) : Type 0 where
  pub version : ℕ
  pub values : List Value
  pub stands : IsRowImage image version values
  pub fit : AreValuesIn r version values
  pub whole : row ≡ completed r.fields.now values

-- ---- the rows of an area

-- the rows of lines, one for each
abbrev pub AreRowsOf : StoredRelation → Lines → List StoredRow → Type 0
AreRowsOf r [] [] = Unit {0}
AreRowsOf r [] (x ∷ xs) = ⊥
AreRowsOf r (e ∷ es) [] = ⊥
AreRowsOf r (e ∷ es) (x ∷ xs) = (x.key ≡ e.0) × IsRowOf r e.1 x.row × AreRowsOf r es xs

-- the known image of this line is that of this row
abbrev pub IsRowAt : Knowledge → StoredRelation → Dbkey → List Value → Type 0
IsRowAt known r key row = (image : List ℕ) × (known.line key ≡ Some (Some image)) × IsRowOf r image row

-- the known image of this line is that of no row of the relation
abbrev pub IsBadAt : Knowledge → StoredRelation → Dbkey → Type 0
IsBadAt known r key = (image : List ℕ) × (known.line key ≡ Some (Some image)) × ((row : List Value) → IsRowOf r image row → ⊥)

-- this line of the map is no row of the relation
abbrev pub IsBadIn : StoredRelation → Dbkey → Lines → Type 0
IsBadIn r key all = (image : List ℕ) × (line_in key all ≡ Some image) × ((row : List Value) → IsRowOf r image row → ⊥)

abbrev pub IsLineKnown : Knowledge → Dbkey → Type 0
IsLineKnown known key = is_some (known.line key) ≡ true

-- all that is read of a logical area is known: its keys and its lines
abbrev pub IsAreaKnown : Knowledge → ℕ → Type 0
IsAreaKnown known area = (keys : List Dbkey) × (known.area area ≡ Some keys) × AllByRecursion (IsLineKnown known) keys

-- The first of these lines that isn't known is this one.
pub record IsNextLine (known : Knowledge) (keys : List Dbkey) (key : Dbkey) : Type 0 where
  pub before : List Dbkey
  pub behind : List Dbkey
  pub stands : keys ≡ before ++ key ∷ behind
  pub read : AllByRecursion (IsLineKnown known) before
  pub unknown : known.line key ≡ None

-- What is read next of a logical area: its keys, then its lines in the order of their keys.
abbrev pub IsNextNeed : Knowledge → ℕ → Need → Type 0
IsNextNeed known area (Area a) = (a ≡ area) × (known.area area ≡ None)
IsNextNeed known area (Line key) = (keys : List Dbkey) × (known.area area ≡ Some keys) × IsNextLine known keys key
IsNextNeed known area need = ⊥
