-- What REDUCED TO leaves: the values that its fields read for a tuple, and the tuples that are kept.
use Rattle.std.specs.Prelude.{Bool, true, false, List, [], ◌∷◌, ◌++◌, map}
use Rattle.std.specs.Ordering.{is_eq}
use Rattle.rdb_types.specs.declared.values.Value.{Value}
use Rattle.rdb_types.specs.Order.{row_order}
use Rattle.rdo_ast.specs.declared.syntax.Range.{Range}
use Rattle.rdo_ast.specs.declared.syntax.Clause.{Clause}
use Rattle.rdb_meaning.specs.declared.tables.Tables.{Tables}
use Rattle.rdb_meaning.specs.Evaluation.{Scope, Tuple}
use Rattle.rdb_meaning.specs.Selecting.{reduced_fields, reads_of}

-- the tuples that are kept, where one more is judged
abbrev pub kept_if : {X : Type 0} → Bool → List X → X → List X
kept_if true found k = found ++ k ∷ []
kept_if false found k = found

-- what the fields of REDUCED TO read for a tuple
abbrev pub reduced_row : List Clause → List Range → Tables → Scope → Tuple → List Value
reduced_row cs ss t scope ks = map (reads_of ss t scope ks) (reduced_fields cs)

abbrev pub read_alike : List Clause → List Range → Tables → Scope → Tuple → Tuple → Bool
read_alike cs ss t scope k l = is_eq (row_order (reduced_row cs ss t scope k) (reduced_row cs ss t scope l))
