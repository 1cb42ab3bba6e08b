-- The row of all bound variables.
use Rattle.std.specs.Prelude.{List, [], ◌∷◌, ◌++◌, map, Option, Some, None}
use Rattle.rdb_types.specs.declared.values.Value.TheVariants.{Missing}
use Rattle.rdb_types.specs.declared.values.Field.{Field}
use Rattle.rdo_ast.specs.declared.syntax.Range.{Range}
use Rattle.rdb_meaning.specs.declared.tables.Tables.{Tables}
use Rattle.rdb_meaning.specs.declared.scope.Binding.{Binding}
use Rattle.rdb_meaning.specs.Contents.{Row, relation_named, fields_of}
use Rattle.rdb_meaning.specs.Evaluation.{Scope, row_now}

-- the values of a row's fields, missing where the row has none
abbrev pub values_of : List Field → Row → Row
values_of [] row = []
values_of (f ∷ fs) [] = Missing ∷ values_of fs []
values_of (f ∷ fs) (v ∷ vs) = v ∷ values_of fs vs

abbrev pub row_or_none : Option Row → Row
row_or_none (Some row) = row
row_or_none None = []

-- the values of all bound variables, the outermost first
abbrev pub row_of : Tables → Scope → Row
row_of t [] = []
row_of t (b ∷ scope) = values_of (fields_of (relation_named b.relation t)) (row_or_none (row_now t b)) ++ row_of t scope

abbrev pub variable_of : Binding → Range
variable_of b = record { variable = b.variable; relation = b.relation }

-- the bound variables and their relations, without their rows
abbrev pub variables_of : Scope → List Range
variables_of scope = map variable_of scope
