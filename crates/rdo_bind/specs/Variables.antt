-- Where the values of a variable that is named alone stand in the row of all variables.
use Rattle.std.specs.Prelude.{◌≡◌, ℕ, ◌+◌, if◌then◌else◌, List, [], ◌∷◌, map, length, Option, Some, None, option_map}
use Rattle.rdb_types.specs.declared.values.Field.{Field}
use Rattle.rdb_types.specs.declared.values.FieldType.{FieldType}
use Rattle.rdo_ast.specs.declared.syntax.Range.{Range}
use Rattle.rdo_ast.specs.Tree.{Name}
use Rattle.rdb_meaning.specs.declared.tables.Tables.{Tables}
use Rattle.rdb_meaning.specs.Contents.{same_name, relation_named, fields_of}
use Rattle.rdo_bind.specs.declared.variable.BoundVariable.{BoundVariable}
use Rattle.rdo_bind.specs.declared.variable.VariablePlace as declared

-- which of the variables it is, the place of its first value, and the types of its values
pub record VariablePlace : Type 0 where
  pub number : ℕ
  pub place : ℕ
  pub kinds : List FieldType

abbrev pub kinds_of : List Field → List FieldType
kinds_of fields = map (λ f. f.kind) fields

abbrev pub first_of : List Field → VariablePlace
first_of fields = record { number = 0; place = 0; kinds = kinds_of fields }

-- behind so many variables, which have so many values
abbrev pub behind : ℕ → ℕ → VariablePlace → VariablePlace
behind variables values p = record { number = variables + p.number; place = values + p.place; kinds = p.kinds }

abbrev pub located_variable : Name → Tables → List Range → Option VariablePlace
located_variable n t [] = None
located_variable n t (s ∷ ss) =
    if same_name n s.variable
    then Some (first_of (fields_of (relation_named s.relation t)))
    else option_map (behind 1 (length (fields_of (relation_named s.relation t)))) (located_variable n t ss)

abbrev pub place_of : declared.VariablePlace → VariablePlace
place_of p = record { number = p.number; place = p.place; kinds = kinds_of p.fields.now }

abbrev pub IsVariable : Tables → List Range → BoundVariable → Type 0
IsVariable t vs v = located_variable v.variable t vs ≡ Some (record { number = v.number; place = v.place; kinds = v.kinds })
