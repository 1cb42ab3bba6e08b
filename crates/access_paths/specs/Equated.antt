-- With which key a condition equates the fields of an index.
use Rattle.std.specs.Prelude.{ℕ, ◌+◌, if◌then◌else◌, List, [], ◌∷◌, ◌++◌, length, Option, Some, None, option_and_then}
use Rattle.rdb_types.specs.declared.values.Value.{Value}
use Rattle.rdb_types.specs.declared.values.Scaled.{Scaled}
use Rattle.rdb_types.specs.declared.values.FieldType.{FieldType}
use Rattle.rdo_ast.specs.declared.syntax.Comparison.TheVariants as by
use Rattle.rdb_meaning.specs.Numbers.{Computed, is, overflow}
use Rattle.rdb_meaning.specs.Contents.{Row}
use Rattle.rdo_values.specs.Tree.{Conjunction}
use Rattle.rdo_values.specs.Filled.{value_at}
use Rattle.access_paths.specs.declared.equated.Equated.{Equated}
use Rattle.access_paths.specs.declared.equated.Equated.TheVariants as to
use Rattle.access_paths.specs.declared.equated.EquatedKey.{EquatedKey}
use Rattle.access_paths.specs.declared.equated.EquatedKey.TheVariants as key
use Rattle.access_paths.specs.Serving.{Asked, is_equating, asked_in}
use Rattle.access_paths.specs.Nearest.{nearest, meets}

abbrev pub equal_to : FieldType → Scaled → Option Value → Equated
equal_to kind other None = to.Never
equal_to kind other (Some v) = if meets by.Equal kind v other then to.To v else to.Never

-- the value of a field that is equal to a value
abbrev pub equal_value : FieldType → Scaled → Equated
equal_value kind other = equal_to kind other (nearest kind other)

abbrev pub equated_with : FieldType → Computed → Equated
equated_with kind (is other) = equal_value kind other
equated_with kind overflow = to.Lost

-- the value that the first equation asks for
abbrev pub first_equated : Row → List Asked → Option Equated
first_equated rows [] = None
first_equated rows (a ∷ more) = if is_equating a.op then Some (equated_with a.kind (value_at rows a.other)) else first_equated rows more

-- An overflow counts before a value that no row has.
abbrev pub with_equated : EquatedKey → Equated → EquatedKey
with_equated key.Lost _ = key.Lost
with_equated _ to.Lost = key.Lost
with_equated key.Never _ = key.Never
with_equated _ to.Never = key.Never
with_equated (key.To values) (to.To v) = key.To (values ++ v ∷ [])

abbrev pub key_from : Row → Conjunction → EquatedKey → List ℕ → Option EquatedKey
key_from rows tests k [] = Some k
key_from rows tests k (p ∷ ps) = option_and_then (λ v. key_from rows tests (with_equated k v) ps) (first_equated rows (asked_in (length rows) (length rows + p) tests))

-- the key that tests equate the fields at these positions of a row with, where the values before the row are known
abbrev pub key_at : Row → Conjunction → List ℕ → Option EquatedKey
key_at rows tests positions = key_from rows tests (key.To []) positions
