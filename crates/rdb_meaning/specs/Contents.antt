-- Tables, as lists of entries in order, and the numbers that definitions give out.
use Rattle.std.specs.Prelude.{ℕ, zero, suc, ◌+◌, Bool, ◌&&◌, not, if◌then◌else◌, nat_eq, nat_lt, nat_le, ◌==◌, List, [], ◌∷◌, map, length, filter, sum_by, Option, Some, None, slice_index_or}
use Rattle.std.specs.List.{list_any}
use Rattle.std.specs.Ordering.{nat_cmp, is_eq}
use Rattle.std.specs.FinMap.Entries.{find, put}
use Rattle.std.specs.Str.{bytes_eq}
use Rattle.ordered_entries.specs.rdb_types.declared.values.Value.{Value}
use Rattle.ordered_entries.specs.rdb_types.declared.values.Value.TheVariants.{Missing, Number, Text}
use Rattle.ordered_entries.specs.rdb_types.declared.keys.Dbkey.{Dbkey}
use Rattle.ordered_entries.specs.rdb_types.declared.values.Field.{Field}
use Rattle.ordered_entries.specs.rdb_types.declared.values.FieldType.{FieldType}
use Rattle.rdo_ast.specs.Tree.{Name}
use Rattle.rdb_meaning.specs.declared.tables.Relation.{Relation}
use Rattle.rdb_meaning.specs.declared.tables.Index.{Index}
use Rattle.rdb_meaning.specs.declared.tables.Tables.{Tables}
use Rattle.rdb_meaning.specs.Numbers.{is_text_type}
use Rattle.ordered_entries.specs.rdb_types.Order.{row_order, dbkey_order, chars_order}

abbrev pub Row : Type 0
Row = List Value

abbrev pub same_name : Name → Name → Bool
same_name = bytes_eq

abbrev pub no_tables : Tables
no_tables = record { globals = []; relations = []; indexes = [] }

-- ---- look-ups

abbrev pub relation_named : Name → Tables → Option Relation
relation_named n t = find chars_order n t.relations

abbrev pub rows_of : Option Relation → List (Dbkey × Row)
rows_of (Some r) = r.rows
rows_of None = []

abbrev pub fields_of : Option Relation → List Field
fields_of (Some r) = r.fields
fields_of None = []

abbrev pub row_at : Dbkey → Option Relation → Option Row
row_at k r = find dbkey_order k (rows_of r)

-- the place of a field among the fields, and the field with it
abbrev pub place_from : ℕ → Name → List Field → Option (ℕ × Field)
place_from n name [] = None
place_from n name (f ∷ fs) = if same_name name f.name then Some (n, f) else place_from (n + 1) name fs

abbrev pub place_of : Name → List Field → Option (ℕ × Field)
place_of = place_from 0

-- ---- changes

abbrev pub with_rows : List (Dbkey × Row) → Relation → Relation
with_rows rows r = record r { rows = rows }

abbrev pub rows_changed : Name → (List (Dbkey × Row) → List (Dbkey × Row)) → Option Relation → Tables → Tables
rows_changed n f (Some r) t = record t { relations = put chars_order n (with_rows (f r.rows) r) t.relations }
rows_changed n f None t = t

abbrev pub change_rows : Name → (List (Dbkey × Row) → List (Dbkey × Row)) → Tables → Tables
change_rows n f t = rows_changed n f (relation_named n t) t

abbrev pub with_row : Name → Dbkey → Row → Tables → Tables
with_row n k row t = change_rows n (put dbkey_order k row) t

abbrev pub without_row : Name → Dbkey → Tables → Tables
without_row n k t = change_rows n (filter (λ e. not (is_eq (dbkey_order k e.0)))) t

-- ---- logical areas

abbrev pub is_used : ℕ → List ℕ → Bool
is_used n used = list_any (nat_eq n) used

-- the first of n, n + 2, n + 4 and so on that is not used: it comes among as many as are used, and one more
abbrev pub first_free : ℕ → ℕ → List ℕ → ℕ
first_free zero n used = n
first_free (suc more) n used = if is_used n used then first_free more (n + 2) used else n

abbrev pub new_relation_area : Tables → ℕ
new_relation_area t = first_free (length t.relations) 16 (map (λ e. e.1.area) t.relations)

abbrev pub new_index_area : Tables → ℕ
new_index_area t = first_free (length t.indexes) 17 (map (λ e. e.1.area) t.indexes)

-- ---- images, classes and keys

abbrev pub longest_value : FieldType → ℕ
longest_value type = if is_text_type type then 3 + type.size else 9

abbrev pub class_of : List Field → ℕ
class_of fields = if nat_le (3 + sum_by (λ f. longest_value f.kind) fields) 104 then 208 else 440

abbrev pub value_length : Value → ℕ
value_length Missing = 1
value_length (Number n) = 9
value_length (Text t) = 3 + length t

abbrev pub image_length : Row → ℕ
image_length row = 3 + sum_by value_length row

abbrev pub is_too_long : List Field → Row → Bool
is_too_long fields row = nat_lt (class_of fields) (image_length row)

abbrev pub key_of : List ℕ → Row → Row
key_of positions row = map (λ p. slice_index_or row p Missing) positions

-- ---- unique indexes

-- a relation's indexes in the order of definition, which is that of their areas
abbrev pub by_area : List (Name × Index) → List (ℕ × (Name × Index))
by_area [] = []
by_area (e ∷ es) = put nat_cmp e.1.area e (by_area es)

abbrev pub indexes_on : ℕ → Tables → List (Name × Index)
indexes_on area t = map (λ e. e.1) (by_area (filter (λ e. e.1.relation == area) t.indexes))

-- another row has the key
abbrev pub is_taken : List ℕ → Row → Dbkey → List (Dbkey × Row) → Bool
is_taken positions row own rows =
    list_any (λ e. not (is_eq (dbkey_order own e.0)) && is_eq (row_order (key_of positions row) (key_of positions e.1))) rows

abbrev pub has_key : List ℕ → Row → List (Dbkey × Row) → Bool
has_key positions row rows = list_any (λ e. is_eq (row_order (key_of positions row) (key_of positions e.1))) rows

-- the first unique index in which the test finds the key taken
abbrev pub first_taken : (List ℕ → Bool) → List (Name × Index) → Option Name
first_taken taken [] = None
first_taken taken (e ∷ es) = if e.1.unique && taken e.1.fields then Some e.0 else first_taken taken es
