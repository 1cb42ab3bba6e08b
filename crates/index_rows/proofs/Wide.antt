-- The numbers of stored rows have 64 bits.
use Rattle.std.proofs.Common.{◌≡◌, ◌-◌, ℕ, ℤ, zero, suc, true, List, [], ◌∷◌, ◌++◌, map, length, replicate, pos, negsuc, sym, subst, arith}
use Rattle.std.specs.List.{AllByRecursion}
use Rattle.std.proofs.lemmas.Bool.{and_parts}
use Rattle.std.proofs.lemmas.Bool.Decides.{nat_tests}
use Rattle.rdb_types.specs.declared.keys.Dbkey.{Dbkey}
use Rattle.rdb_types.specs.declared.values.Value.{Value}
use Rattle.rdb_types.specs.declared.values.Value.TheVariants.{Missing, Number, Text}
use Rattle.rdb_types.specs.declared.values.DataType.{DataType}
use Rattle.rdb_types.specs.declared.values.DataType.TheVariants as data_type
use Rattle.rdb_types.specs.declared.values.Field.{Field}
use Rattle.rdb_types.specs.declared.values.FieldType.{FieldType}
use Rattle.rdb_meaning.specs.Numbers.{fits_bits}
use Rattle.rdb_meaning.specs.Contents.{Row}
use Rattle.line_view.specs.Knowledge.{Lines}
use Rattle.relation_rows.specs.declared.stored.StoredRelation.{StoredRelation}
use Rattle.relation_rows.specs.Stored.{is_number_of, is_value_of, are_values_of, IsRowOf, AreRowsOf}
use Rattle.relation_rows.specs.Relations.{stored_row}
use Rattle.access_paths.specs.Reached.{IsWide}

from_word : (n : ℤ) → fits_bits 15 n ≡ true → fits_bits 63 n ≡ true
from_word (pos n) fits = grind (arith, nat_tests)
from_word (negsuc n) fits = grind (arith, nat_tests)

from_longword : (n : ℤ) → fits_bits 31 n ≡ true → fits_bits 63 n ≡ true
from_longword (pos n) fits = grind (arith, nat_tests)
from_longword (negsuc n) fits = grind (arith, nat_tests)

number_wide : (kind : DataType) (n : ℤ) → is_number_of kind n ≡ true → fits_bits 63 n ≡ true
number_wide data_type.Word n fits = from_word n fits
number_wide data_type.Longword n fits = from_longword n fits
number_wide data_type.Quadword n fits = fits
number_wide data_type.Text n fits = absurd (cc)

value_wide : (type : FieldType) (v : Value) → is_value_of type v ≡ true → IsWide v
value_wide type Missing fits = tt
value_wide type (Number n) fits = number_wide type.kind n fits
value_wide type (Text t) fits = tt

values_wide : (fields : List Field) (values : List Value) → are_values_of fields values ≡ true → AllByRecursion IsWide values
values_wide fields [] fit = tt
values_wide [] (v ∷ vs) fit = absurd (cc)
values_wide (f ∷ fs) (v ∷ vs) fit =
    let parts = and_parts _ _ fit in
    (value_wide f.kind v parts.0, values_wide fs vs parts.1)

missing_wide : (n : ℕ) → AllByRecursion IsWide (replicate n Missing)
missing_wide zero = tt
missing_wide (suc n) = (tt, missing_wide n)

both_wide : (a b : List Value) → AllByRecursion IsWide a → AllByRecursion IsWide b → AllByRecursion IsWide (a ++ b)
both_wide [] b h k = k
both_wide (v ∷ vs) b h k = (h.0, both_wide vs b h.1 k)

row_wide : (r : StoredRelation) (image : List ℕ) (row : Row) → IsRowOf r image row → AllByRecursion IsWide row
row_wide r image row is =
    subst (AllByRecursion IsWide) (sym is.whole)
    (both_wide is.values (replicate (length r.fields.now - length is.values) Missing) (values_wide r.fields.now is.values is.fit.fit) (missing_wide (length r.fields.now - length is.values)))

pub rows_wide : (r : StoredRelation) (lines : Lines) (rows : List (Dbkey × Row)) → AreRowsOf r lines (map stored_row rows) → AllByRecursion (λ e. AllByRecursion IsWide e.1) rows
rows_wide r [] [] are = tt
rows_wide r [] (e ∷ es) are = absurd are
rows_wide r (l ∷ ls) [] are = absurd are
rows_wide r (l ∷ ls) (e ∷ es) are = (row_wide r l.1 e.1 are.1, rows_wide r ls es are.2)
