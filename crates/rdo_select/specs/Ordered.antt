-- What found tuples are sorted and reduced by: the values at the places of the bound keys.
use Rattle.std.specs.Prelude.{Bool, if◌then◌else◌, List, [], ◌∷◌, ◌++◌, map, slice_index_or}
use Rattle.std.specs.declared.cmp.Ordering.{Ordering}
use Rattle.std.specs.declared.cmp.Ordering.TheVariants.{Equal}
use Rattle.std.specs.Ordering.{is_eq, ordering_then}
use Rattle.rdb_types.specs.declared.values.Value.{Value}
use Rattle.rdb_types.specs.declared.values.Value.TheVariants.{Missing}
use Rattle.rdb_types.specs.Order.{value_order, row_order}
use Rattle.rdb_meaning.specs.Contents.{Row}
use Rattle.rdb_meaning.specs.Selecting.{turned, stably_sorted, without_repeats, is_reduced}
use Rattle.rdo_values.specs.declared.bound.BoundReference.{BoundReference}
use Rattle.rdo_values.specs.declared.bound.BoundSortKey.{BoundSortKey}
use Rattle.rdo_values.specs.declared.bound.BoundClause.{BoundClause}
use Rattle.rdo_values.specs.declared.bound.BoundClause.TheVariants.{Sorted, Reduced}
use Rattle.rdo_values.specs.Selections.{written_clause}
use Rattle.rdo_select.specs.declared.crossing.Found.{Found}

-- the value at a reference's place, missing where there is none
abbrev pub value_in : Row → BoundReference → Value
value_in row r = slice_index_or row r.place Missing

-- the order of two rows by the keys, the first key that tells them apart deciding
abbrev pub order_by_keys : List BoundSortKey → Row → Row → Ordering
order_by_keys [] a b = Equal
order_by_keys (k ∷ ks) a b = ordering_then (turned k.descending (value_order (value_in a k.reference) (value_in b k.reference))) (order_by_keys ks a b)

-- the same by the keys of all clauses
abbrev pub order_by : List BoundClause → Row → Row → Ordering
order_by [] a b = Equal
order_by (Sorted keys ∷ cs) a b = ordering_then (order_by_keys keys a b) (order_by cs a b)
order_by (Reduced refs ∷ cs) a b = order_by cs a b

abbrev pub found_order : List BoundClause → Found → Found → Ordering
found_order cs p q = order_by cs p.row q.row

-- the values of the fields of REDUCED TO
abbrev pub reduced_row : List BoundClause → Row → Row
reduced_row [] row = []
reduced_row (Sorted keys ∷ cs) row = reduced_row cs row
reduced_row (Reduced refs ∷ cs) row = map (value_in row) refs ++ reduced_row cs row

abbrev pub reduced_values : List BoundClause → Found → Row
reduced_values cs p = reduced_row cs p.row

abbrev pub found_alike : List BoundClause → Found → Found → Bool
found_alike cs p q = is_eq (row_order (reduced_values cs p) (reduced_values cs q))

abbrev pub sorted_found : List BoundClause → List Found → List Found
sorted_found cs = stably_sorted (found_order cs)

-- of those that agree in the fields of REDUCED TO only the first
abbrev pub reduced_found : List BoundClause → List Found → List Found
reduced_found cs ps = if is_reduced (map written_clause cs) then without_repeats (found_alike cs) ps else ps
