-- What tuples are sorted by: the values that their keys read, and the order of such values.
use Rattle.std.specs.Prelude.{Bool, List, [], ◌∷◌, map}
use Rattle.std.specs.declared.cmp.Ordering.{Ordering}
use Rattle.std.specs.declared.cmp.Ordering.TheVariants.{Equal}
use Rattle.std.specs.Ordering.{ordering_then}
use Rattle.rdb_types.specs.declared.keys.Dbkey.{Dbkey}
use Rattle.rdb_types.specs.declared.values.Value.{Value}
use Rattle.rdb_types.specs.declared.values.Value.TheVariants.{Missing}
use Rattle.rdo_ast.specs.declared.syntax.Reference.{Reference}
use Rattle.rdo_ast.specs.declared.syntax.Range.{Range}
use Rattle.rdo_ast.specs.declared.syntax.SortKey.{SortKey}
use Rattle.rdo_ast.specs.declared.syntax.Clause.{Clause}
use Rattle.rdb_meaning.specs.declared.tables.Tables.{Tables}
use Rattle.rdb_evaluation.specs.declared.sorting.Ranked.{Ranked}
use Rattle.rdb_types.specs.Order.{value_order}
use Rattle.rdb_meaning.specs.Evaluation.{Scope, Tuple, read}
use Rattle.rdb_meaning.specs.Selecting.{turned, sort_keys, reads_of}

-- the value that a reference reads
abbrev pub value_read : Tables → Scope → Reference → Value
value_read t scope r = (read r t scope).value

abbrev pub key_values : List SortKey → (Reference → Value) → List Value
key_values keys reads = map (λ k. reads k.reference) keys

abbrev pub directions : List SortKey → List Bool
directions keys = map (λ k. k.descending) keys

-- a tuple with the values that it is sorted by
abbrev pub ranked_tuple : List Clause → List Range → Tables → Scope → Tuple → Ranked
ranked_tuple cs ss t scope ks = record { values = key_values (sort_keys cs) (reads_of ss t scope ks); tuple = ks }

abbrev pub first_value : List Value → Value
first_value [] = Missing
first_value (v ∷ vs) = v

abbrev pub further_values : List Value → List Value
further_values [] = []
further_values (v ∷ vs) = vs

-- the order by as many values as there are directions, true for a descending one
abbrev pub directed_order : List Bool → List Value → List Value → Ordering
directed_order [] a b = Equal
directed_order (d ∷ ds) a b = ordering_then (turned d (value_order (first_value a) (first_value b))) (directed_order ds (further_values a) (further_values b))

abbrev pub ranked_order : List Bool → Ranked → Ranked → Ordering
ranked_order ds a b = directed_order ds a.values b.values
