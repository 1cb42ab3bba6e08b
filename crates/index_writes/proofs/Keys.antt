-- The keys of a relation's rows are short enough for an index of which the longest possible key is.
use Rattle.std.proofs.Common.{◌≡◌, ℕ, zero, suc, ◌+◌, ◌-◌, ◌≤◌, true, false, cond, List, [], ◌∷◌, ◌++◌, map, length, replicate, Option, Some, None, refl, sym, subst, arith, if◌then◌else◌}
use Rattle.std.specs.Prelude.{ℤ, nat_le, slice_get, slice_index_or}
use Rattle.std.specs.List.{AllByRecursion, cons_option}
use Rattle.std.proofs.lemmas.Bool.{and_parts}
use Rattle.std.proofs.lemmas.Bool.Decides.{nat_tests}
use Rattle.std.proofs.lemmas.List.Elements.{All-from_recursion, recursion_from_All}
use Rattle.std.proofs.lemmas.List.Sums.{sum_by-cons}
use Rattle.std.proofs.lemmas.Option.{none-some, same_Some}
use Rattle.slot_fields.specs.Fields.{size}
use Rattle.slot_fields.proofs.Laws.{size_append}
use Rattle.rdb_types.specs.declared.keys.Dbkey.{Dbkey}
use Rattle.rdb_types.specs.declared.values.Value.{Value}
use Rattle.rdb_types.specs.declared.values.Value.TheVariants.{Missing, Number, Text}
use Rattle.rdb_types.specs.declared.values.DataType.{DataType}
use Rattle.rdb_types.specs.declared.values.DataType.TheVariants as data_type
use Rattle.rdb_types.specs.declared.values.Field.{Field}
use Rattle.rdb_types.specs.declared.values.FieldType.{FieldType}
use Rattle.rdo_ast.specs.Tree.{Name}
use Rattle.rdb_meaning.specs.declared.tables.Relation.{Relation as Rows}
use Rattle.rdb_meaning.specs.declared.tables.Tables.{Tables}
use Rattle.rdb_meaning.specs.Numbers.{is_text_type, is_text_kind}
use Rattle.rdb_meaning.specs.Contents.{Row, same_name, relation_named, place_from, place_of, longest_value, key_of}
use Rattle.rdb_meaning.specs.Defining.{place_number, positions_of, longest_field, longest_at, longest_key}
use Rattle.record_format.specs.Values.{value_fields, values_fields, IsStorable, IsValue}
use Rattle.line_view.specs.Knowledge.{Lines, lines_in}
use Rattle.catalog.specs.declared.reading.Catalog.{Catalog}
use Rattle.sorted_index_laws.specs.Insertion.{IsKey}
use Rattle.relation_rows.specs.declared.stored.StoredRelation.{StoredRelation}
use Rattle.relation_rows.specs.Stored.{is_number_of, is_value_of, are_values_of, completed, IsRowOf, AreRowsOf}
use Rattle.relation_rows.specs.Relations.{stored_row}
use Rattle.sound_lines.specs.Contents.{versions_in}
use Rattle.sound_changes.specs.Standing.{IsSoundAs}
use Rattle.sound_changes.proofs.Changed.{rows_in}
use Rattle.sound_changes.proofs.RowLaid.{stored_in}

-- ---- one value

number_in : (kind : DataType) (n : ℤ) → is_number_of kind n ≡ true → is_text_kind kind ≡ false
number_in data_type.Word n h = refl
number_in data_type.Longword n h = refl
number_in data_type.Quadword n h = refl
number_in data_type.Text n h = absurd (cc)

-- a value is no longer than the longest of its field's type
value_size : (type : FieldType) (v : Value) → is_value_of type v ≡ true → size (value_fields v) ≤ longest_value type
value_size type Missing h = elim (is_text_type type) as (λ b. 1 ≤ (if b then 3 + type.size else 9)) [
  | true ↦ omega arith
  | false ↦ omega arith
]
value_size type (Number n) h = subst (λ b. 9 ≤ (if b then 3 + type.size else 9)) (sym (number_in type.kind n h)) (omega arith)
value_size type (Text t) h =
    let parts = and_parts (is_text_type type) (nat_le (length t) type.size) h in
    let short : length t ≤ type.size = grind (arith, nat_tests, parts.1) in
    subst (λ b. size (value_fields (Text t)) ≤ (if b then 3 + type.size else 9)) (sym parts.0) (omega (arith, short))

storable : (v : Value) → IsValue v → IsStorable v
storable Missing is = tt
storable (Number n) is = tt
storable (Text t) is = is

-- ---- the values of a row

missing_at : (pad j : ℕ) → slice_index_or (replicate pad Missing) j Missing ≡ Missing
missing_at zero j = refl
missing_at (suc pad) zero = refl
missing_at (suc pad) (suc j) = missing_at pad j

element_size : (fields : List Field) (values : List Value) (pad j : ℕ) (f : Field) → are_values_of fields values ≡ true → slice_get fields j ≡ Some f → size (value_fields (slice_index_or (values ++ replicate pad Missing) j Missing)) ≤ longest_value f.kind
element_size fields [] pad j f fit at = subst (λ (v : Value). size (value_fields v) ≤ longest_value f.kind) (sym (missing_at pad j)) (value_size f.kind Missing refl)
element_size [] (v ∷ vs) pad j f fit at = absurd (none-some f at)
element_size (g ∷ gs) (v ∷ vs) pad zero f fit at =
    let parts = and_parts (is_value_of g.kind v) (are_values_of gs vs) fit in
    subst (λ (h : Field). size (value_fields v) ≤ longest_value h.kind) (same_Some g f at) (value_size g.kind v parts.0)
element_size (g ∷ gs) (v ∷ vs) pad (suc j) f fit at =
    let parts = and_parts (is_value_of g.kind v) (are_values_of gs vs) fit in
    element_size gs vs pad j f parts.1 at

value_at : (P : Value → Type 0) → P Missing → (row : Row) → AllByRecursion P row → (p : ℕ) → P (slice_index_or row p Missing)
value_at P none [] each p = none
value_at P none (v ∷ vs) each zero = each.0
value_at P none (v ∷ vs) each (suc p) = value_at P none vs each.1 p

key_storable : (row : Row) (ps : List ℕ) → AllByRecursion IsStorable row → AllByRecursion IsStorable (key_of ps row)
key_storable row [] each = tt
key_storable row (p ∷ ps) each = (value_at IsStorable tt row each p, key_storable row ps each)

missing_storable : (pad : ℕ) → AllByRecursion IsStorable (replicate pad Missing)
missing_storable zero = tt
missing_storable (suc pad) = (tt, missing_storable pad)

row_storable : (values : List Value) (pad : ℕ) → AllByRecursion IsValue values → AllByRecursion IsStorable (values ++ replicate pad Missing)
row_storable [] pad each = missing_storable pad
row_storable (v ∷ vs) pad each = (storable v each.0, row_storable vs pad each.1)

-- ---- the values at the places of named fields

abbrev IsWithin : (ℕ → Value) → Option (ℕ × Field) → Type 0
IsWithin at (Some p) = size (value_fields (at p.0)) ≤ longest_value p.1.kind
IsWithin at None = Unit {0}

place_within : (name : Name) (fields : List Field) (k : ℕ) (at : ℕ → Value) → ((j : ℕ) (f : Field) → slice_get fields j ≡ Some f → size (value_fields (at (k + j))) ≤ longest_value f.kind) → IsWithin at (place_from k name fields)
place_within name [] k at each = tt
place_within name (f ∷ fs) k at each =
    let here : k + 0 ≡ k = omega arith in
    elim (same_name name f.name) as (λ b. IsWithin at (cond b (Some (k, f)) (place_from (k + 1) name fs))) [
      | true ↦ subst (λ (m : ℕ). size (value_fields (at m)) ≤ longest_value f.kind) here (each 0 f refl)
      | false ↦ place_within name fs (k + 1) at (λ j g is.
          let next : k + suc j ≡ (k + 1) + j = omega arith in
          subst (λ (m : ℕ). size (value_fields (at m)) ≤ longest_value g.kind) next (each (suc j) g is))
    ]

module _ (row : Row) where
  one_more : (o : Option (ℕ × Field)) (rest : List ℕ) → IsWithin (λ p. slice_index_or row p Missing) o → size (values_fields (key_of (cons_option (place_number o) rest) row)) ≤ longest_field o + size (values_fields (key_of rest row))
  one_more None rest within = omega arith
  one_more (Some p) rest within = omega (arith, within, size_append (value_fields (slice_index_or row p.0 Missing)) (values_fields (key_of rest row)))

  key_size : (fields : List Field) (ns : List Name) → ((n : Name) → IsWithin (λ p. slice_index_or row p Missing) (place_of n fields)) → size (values_fields (key_of (positions_of ns fields) row)) ≤ longest_key ns fields
  key_size fields [] within = omega arith
  key_size fields (n ∷ ns) within =
      omega (arith, one_more (place_of n fields) (positions_of ns fields) (within n), key_size fields ns within, sum_by-cons (longest_at fields) n ns)

-- ---- the keys of rows

row_fits : (r : StoredRelation) (image : List ℕ) (row : Row) (ns : List Name) → IsRowOf r image row → longest_key ns r.fields.now ≤ 120 → IsKey (key_of (positions_of ns r.fields.now) row)
row_fits r image row ns is short =
    let fields = r.fields.now in
    let pad = length fields - length is.values in
    let whole = completed fields is.values in
    let within = λ (n : Name). place_within n fields 0 (λ p. slice_index_or whole p Missing) (λ j f at.
    let here : j ≡ 0 + j = omega arith in
    subst (λ (m : ℕ). size (value_fields (slice_index_or whole m Missing)) ≤ longest_value f.kind) here (element_size fields is.values pad j f is.fit.fit at)) in
    let fits = key_size whole fields ns within in
    subst (λ (w : Row). IsKey (key_of (positions_of ns fields) w)) (sym is.whole)
    (record {
      storable = All-from_recursion IsStorable (key_of (positions_of ns fields) whole) (key_storable whole (positions_of ns fields) (row_storable is.values pad (recursion_from_All IsValue is.values is.stands.values)));
      short = omega (arith, fits, short);
    })

rows_fit : (r : StoredRelation) (ns : List Name) (lines : Lines) (rows : List (Dbkey × Row)) → longest_key ns r.fields.now ≤ 120 → AreRowsOf r lines (map stored_row rows) → AllByRecursion (λ (e : Dbkey × Row). IsKey (key_of (positions_of ns r.fields.now) e.1)) rows
rows_fit r ns [] [] short are = tt
rows_fit r ns [] (e ∷ es) short are = absurd are
rows_fit r ns (l ∷ ls) [] short are = absurd are
rows_fit r ns (l ∷ ls) (e ∷ es) short are = (row_fits r l.1 e.1 ns are.1 short, rows_fit r ns ls es short are.2)

pub keys_fit : (all : Lines) (c : Catalog) (t : Tables) (n : Name) (rel : Rows) (ns : List Name) → IsSoundAs all c t → relation_named n t ≡ Some rel → longest_key ns rel.fields ≤ 120 → AllByRecursion (λ (e : Dbkey × Row). IsKey (key_of (positions_of ns rel.fields) e.1)) rel.rows
keys_fit all c t n rel ns sound named short =
    rows_fit (stored_in c n rel) ns (lines_in rel.area all) rel.rows short (rows_in all (versions_in c.lines) n rel c.tables.relations t.relations sound.are.relations named)
