-- How long the images of rows are, by the types of their fields.
use Rattle.std.proofs.Common.{◌≡◌, ◌≤◌, ℕ, ◌+◌, Bool, true, false, ◌&&◌, List, [], ◌∷◌, length, if◌then◌else◌, refl, sym, ap, subst, arith, length-append}
use Rattle.std.specs.Prelude.{ℤ, nat_le, sum_by}
use Rattle.std.specs.List.{flat_map}
use Rattle.std.proofs.lemmas.Bool.{and_parts}
use Rattle.std.proofs.lemmas.Bool.Decides.{nat_tests}
use Rattle.std.proofs.lemmas.List.Sums.{sum_by-cons}
use Rattle.slot_fields.specs.Fields.{size}
use Rattle.slot_fields.proofs.Laws.{size_append, whole_ends}
use Rattle.rdb_types.specs.declared.values.Value.{Value}
use Rattle.rdb_types.specs.declared.values.Value.TheVariants.{Missing, Number, Text}
use Rattle.rdb_types.specs.declared.values.DataType.{DataType}
use Rattle.rdb_types.specs.declared.values.DataType.TheVariants as data_type
use Rattle.rdb_types.specs.declared.values.Field.{Field}
use Rattle.rdb_types.specs.declared.values.FieldType.{FieldType}
use Rattle.rdb_meaning.specs.Numbers.{is_text_type, is_text_kind}
use Rattle.rdb_meaning.specs.Contents.{longest_value, class_of}
use Rattle.sorted_index_laws.specs.record_format.Values.{value_fields, values_fields}
use Rattle.sorted_index_laws.specs.record_format.Rows.{row_fields}
use Rattle.relation_rows.specs.declared.stored.StoredRelation.{StoredRelation}
use Rattle.relation_rows.specs.Stored.{is_number_of, is_value_of, are_values_of, IsRowOf}

number_in : (kind : DataType) (n : ℤ) → is_number_of kind n ≡ true → is_text_kind kind ≡ false
number_in data_type.Word n h = refl
number_in data_type.Longword n h = refl
number_in data_type.Quadword n h = refl
number_in data_type.Text n h = absurd (cc)

-- a value is no longer than the longest of its field's type
value_length : (type : FieldType) (v : Value) → is_value_of type v ≡ true → size (value_fields v) ≤ longest_value type
value_length type Missing h = elim (is_text_type type) as (λ b. 1 ≤ (if b then 3 + type.size else 9)) [
  | true ↦ omega arith
  | false ↦ omega arith
]
value_length type (Number n) h = subst (λ b. 9 ≤ (if b then 3 + type.size else 9)) (sym (number_in type.kind n h)) (omega arith)
value_length type (Text t) h =
    let parts = and_parts (is_text_type type) (nat_le (length t) type.size) h in
    let short : length t ≤ type.size = grind (arith, nat_tests, parts.1) in
    subst (λ b. size (value_fields (Text t)) ≤ (if b then 3 + type.size else 9)) (sym parts.0) (omega (arith, short))

values_length : (fields : List Field) (vs : List Value) → are_values_of fields vs ≡ true → size (values_fields vs) ≤ sum_by (λ f. longest_value f.kind) fields
values_length fields [] h = omega arith
values_length [] (v ∷ vs) h = absurd (cc)
values_length (f ∷ fs) (v ∷ vs) h =
    let parts = and_parts (is_value_of f.kind v) (are_values_of fs vs) h in
    omega (arith, value_length f.kind v parts.0, values_length fs vs parts.1, size_append (value_fields v) (values_fields vs), sum_by-cons (λ (f : Field). longest_value f.kind) f fs)

abbrev class_if : Bool → ℕ
class_if is_short = if is_short then 208 else 440

lesser_class : (fields : List Field) → class_of fields ≡ 208 → 3 + sum_by (λ f. longest_value f.kind) fields ≤ 104
lesser_class fields h =
    let bytes = 3 + sum_by (λ (f : Field). longest_value f.kind) fields in
    elim (nat_le bytes 104) as (λ b. nat_le bytes 104 ≡ b → class_if b ≡ 208 → bytes ≤ 104) [
      | true ↦ λ is h. grind (arith, nat_tests, is)
      | false ↦ λ is h. absurd (omega (arith, h))
    ] refl h

pub short_row : (relation : StoredRelation) (image : List ℕ) (row : List Value) → class_of relation.fields.now ≡ 208 → IsRowOf relation image row → length image ≤ 104
short_row relation image row lesser is =
    let whole = whole_ends (row_fields is.version is.values) 0 image is.stands.fields in
    omega (arith, whole, values_length relation.fields.now is.values is.fit.fit, lesser_class relation.fields.now lesser)
