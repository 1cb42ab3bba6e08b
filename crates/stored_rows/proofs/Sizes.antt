-- How long the image of a row is.
use Rattle.std.proofs.Common.{◌≡◌, ℕ, ◌+◌, ◌≤◌, ◌<◌, Bool, true, false, cond, List, [], ◌∷◌, sum_by, refl, sym, ap, ◌∙◌, arith}
use Rattle.std.specs.Prelude.{nat_le}
use Rattle.std.proofs.lemmas.Bool.Decides.{nat_tests}
use Rattle.std.proofs.lemmas.List.Sums.{sum_by-cons}
use Rattle.std.specs.Prelude.{Option, Some, None, is_none, IfSome, IfNone}
use Rattle.slot_fields.specs.Fields.{size}
use Rattle.slot_fields.proofs.Laws.{size_append}
use Rattle.rdb_types.specs.declared.values.Value.{Value}
use Rattle.rdb_types.specs.declared.values.Value.TheVariants.{Missing, Number, Text}
use Rattle.rdb_types.specs.declared.values.Field.{Field}
use Rattle.rdb_meaning.specs.Contents.{longest_value, class_of, value_length, image_length, is_too_long}
use Rattle.record_format.specs.Values.{value_fields, values_fields}

one_size : (v : Value) → size (value_fields v) ≡ value_length v
one_size Missing = refl
one_size (Number n) = refl
one_size (Text t) = omega arith

all_sizes : (row : List Value) → size (values_fields row) ≡ sum_by value_length row
all_sizes [] = refl
all_sizes (v ∷ vs) = size_append (value_fields v) (values_fields vs) ∙ (λ i. one_size v i + all_sizes vs i) ∙ sym (sum_by-cons value_length v vs)

pub image_size : (row : List Value) → image_length row ≡ 3 + size (values_fields row)
image_size row = ap (λ (n : ℕ). 3 + n) (sym (all_sizes row))

pub long_row : (fields : List Field) (row : List Value) → class_of fields < image_length row → is_too_long fields row ≡ true
long_row fields row less = grind (arith, nat_tests)

pub short_row : (fields : List Field) (row : List Value) → image_length row ≤ class_of fields → is_too_long fields row ≡ false
short_row fields row short = grind (arith, nat_tests)

pub two_classes : (fields : List Field) (class : ℕ) → class ≡ class_of fields → (class ≡ 208 → ⊥) → class ≡ 440
two_classes fields class is not = by_test (nat_le (3 + sum_by (λ (f : Field). longest_value f.kind) fields) 104) is where
  by_test : (b : Bool) → class ≡ cond b 208 440 → class ≡ 440
  by_test true is = absurd (not is)
  by_test false is = is

pub is_within : (r : Option ℕ) (n limit : ℕ) → IfSome r (λ b. b ≡ n) → IfSome r (λ b. b ≤ limit) → is_none r ≡ false → n ≤ limit
is_within (Some b) n limit is within some = omega (arith, is, within)
is_within None n limit is within some = let bad : ⊥ = cc in absurd bad

pub is_past : (r : Option ℕ) (n limit : ℕ) → IfNone r (limit < n) → is_none r ≡ true → limit < n
is_past (Some b) n limit less none = let bad : ⊥ = cc in absurd bad
is_past None n limit less none = less
