-- The values that are borrowed.
use Rattle.rdb_types.specs.declared.values.Value.{Value}
use Rattle.rdb_types.specs.declared.values.Value.TheVariants.{Missing, Number, Text}
use Rattle.node_search.specs.declared.value.BorrowedValue.{BorrowedValue}
use Rattle.node_search.specs.declared.value.BorrowedValue.TheVariants.{Missing as missing, Number as number, Text as text}

abbrev pub value_of : BorrowedValue → Value
value_of missing = Missing
value_of (number n) = Number n
value_of (text t) = Text t.now
