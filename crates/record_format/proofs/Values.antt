-- Where values stand.
use Rattle.std.proofs.Common.{ℕ, ◌+◌, ◌≤◌, ◌≡◌, ℤ, List, length, Option, Some, None, w64, arith, sym, ap, refl, ◌∙◌}
use Rattle.std.specs.Prelude.{IfNone}
use Rattle.std.specs.Int.{cast_signed}
use Rattle.std.proofs.lemmas.Int.{to_z-of_z}
use Rattle.slot_fields.specs.Fields.{number_at, size, HasPart}
use Rattle.rdb_types.specs.declared.values.Value.{Value}
use Rattle.rdb_types.specs.declared.values.Value.TheVariants.{Missing, Number, Text}
use Rattle.record_format.specs.Lists.{StandsAt}
use Rattle.record_format.specs.Values.{value_fields, IsValue}
use Rattle.record_format.proofs.Lists.{IsCode}

none_weaker : {A : Type 0} (P Q : Type 0) (r : Option A) → (P → Q) → IfNone r P → IfNone r Q
none_weaker P Q (Some a) then none = none
none_weaker P Q None then none = then none

-- where the first byte is that of a number, no value stands there if no number does
only_number : (bytes : List ℕ) (at : ℕ) → number_at 1 at bytes ≡ 1 → ((n : ℤ) → at + size (value_fields (Number n)) ≤ length bytes → ⊥) → (value : Value) (end : ℕ) → StandsAt value_fields IsValue bytes at value end → ⊥
only_number bytes at kind none Missing end is = absurd (omega (arith, kind, is.fields.0))
only_number bytes at kind none (Number n) end is = let ends = is.ends in let within = is.within in none n (omega (arith, ends, within))
only_number bytes at kind none (Text t) end is = absurd (omega (arith, kind, is.fields.0))

pub no_number : {A : Type 0} (bytes : List ℕ) (at : ℕ) (r : Option A) → number_at 1 at bytes ≡ 1 → IfNone r ((n : ℤ) → at + size (value_fields (Number n)) ≤ length bytes → ⊥) → IfNone r ((value : Value) (end : ℕ) → StandsAt value_fields IsValue bytes at value end → ⊥)
no_number bytes at r kind none = none_weaker _ _ r (only_number bytes at kind) none

-- one value at most stands at a place
one_value : (bytes : List ℕ) (at : ℕ) (a b : Value) → HasPart at (value_fields a) bytes → IsValue a → HasPart at (value_fields b) bytes → IsValue b → a ≡ b
one_value bytes at Missing Missing p is q also = refl
one_value bytes at Missing (Number n) p is q also = absurd (omega (arith, p.0, q.0))
one_value bytes at Missing (Text t) p is q also = absurd (omega (arith, p.0, q.0))
one_value bytes at (Number m) Missing p is q also = absurd (omega (arith, p.0, q.0))
one_value bytes at (Number m) (Number n) p is q also = ap Number (sym (to_z-of_z w64 m is) ∙ ap (cast_signed w64) (sym p.1.0 ∙ q.1.0) ∙ to_z-of_z w64 n also)
one_value bytes at (Number m) (Text t) p is q also = absurd (omega (arith, p.0, q.0))
one_value bytes at (Text s) Missing p is q also = absurd (omega (arith, p.0, q.0))
one_value bytes at (Text s) (Number n) p is q also = absurd (omega (arith, p.0, q.0))
one_value bytes at (Text s) (Text t) p is q also =
    let same : length s ≡ length t = sym p.1.0 ∙ q.1.0 in
    let text : s ≡ t = cc in
    ap Text text

a_byte : (v : Value) → 1 ≤ size (value_fields v)
a_byte Missing = omega arith
a_byte (Number n) = omega arith
a_byte (Text t) = omega arith

pub values_code : (bytes : List ℕ) → IsCode value_fields IsValue bytes
values_code bytes = record { one = one_value bytes; long = a_byte }
