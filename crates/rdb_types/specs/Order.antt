-- The orders of values, of rows, of Dbkeys and of names.
use Rattle.std.specs.Prelude.{ℕ, List}
use Rattle.std.specs.declared.cmp.Ordering.{Ordering}
use Rattle.std.specs.declared.cmp.Ordering.TheVariants.{Less, Equal, Greater}
use Rattle.std.specs.Ordering.{nat_cmp, int_cmp, ordering_then}
use Rattle.std.specs.Cmp.Lexicographic.{slice_cmp}
use Rattle.rdb_types.specs.declared.keys.Dbkey.{Dbkey}
use Rattle.rdb_types.specs.declared.values.Value.{Value}
use Rattle.rdb_types.specs.declared.values.Value.TheVariants.{Missing, Number, Text}

-- a missing value below all others, a number below a text, numbers by value, texts by their bytes, a prefix being less
abbrev pub value_order : Value → Value → Ordering
value_order Missing Missing = Equal
value_order Missing _ = Less
value_order _ Missing = Greater
value_order (Number m) (Number n) = int_cmp m n
value_order (Text a) (Text b) = slice_cmp nat_cmp a b
value_order (Number m) (Text b) = Less
value_order (Text a) (Number n) = Greater

-- by the first value that differs, a row before those that it begins
abbrev pub row_order : List Value → List Value → Ordering
row_order = slice_cmp value_order

-- by area, then by page, then by line
abbrev pub dbkey_order : Dbkey → Dbkey → Ordering
dbkey_order a b = ordering_then (nat_cmp a.area b.area) (ordering_then (nat_cmp a.page b.page) (nat_cmp a.line b.line))

-- by the first character that differs, a name before those that it begins
abbrev pub chars_order : List ℕ → List ℕ → Ordering
chars_order = slice_cmp nat_cmp
