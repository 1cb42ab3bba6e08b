-- How keys compare, value by value.
use Rattle.std.specs.Prelude.{List, [], ◌∷◌}
use Rattle.std.specs.declared.cmp.Ordering.{Ordering}
use Rattle.std.specs.declared.cmp.Ordering.TheVariants.{Less, Equal}
use Rattle.std.specs.Ordering.{ordering_then}
use Rattle.rdb_types.specs.declared.values.Value.{Value}
use Rattle.rdb_types.specs.Order.{value_order}

-- by the first value that differs; `more` where the first has all values of the other and more
abbrev pub order_by : Ordering → List Value → List Value → Ordering
order_by more [] [] = Equal
order_by more [] (other ∷ others) = Less
order_by more (value ∷ values) [] = more
order_by more (value ∷ values) (other ∷ others) = ordering_then (value_order value other) (order_by more values others)
