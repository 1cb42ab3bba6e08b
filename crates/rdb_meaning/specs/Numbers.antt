-- Numbers with digits after the point. A number n of scale s is n / 10^s. All sums and products here are of unbounded integers.
use Rattle.std.specs.Prelude.{ℕ, ◌+◌, ◌-◌, ◌^◌, max, Bool, true, false, ◌&&◌, if◌then◌else◌, nat_lt, nat_le, ℤ, pos, negsuc, ◌+ℤ◌, ◌-ℤ◌, ◌*ℤ◌, neg_ℤ, List, length}
use Rattle.std.specs.Int.RustNames.{int_div}
use Rattle.ordered_entries.specs.rdb_types.declared.values.Value.{Value}
use Rattle.ordered_entries.specs.rdb_types.declared.values.Value.TheVariants.{Missing, Number, Text}
use Rattle.ordered_entries.specs.rdb_types.declared.values.Scaled.{Scaled}
use Rattle.ordered_entries.specs.rdb_types.declared.values.FieldType.{FieldType}
use Rattle.ordered_entries.specs.rdb_types.declared.values.DataType.{DataType}
use Rattle.ordered_entries.specs.rdb_types.declared.values.DataType.TheVariants as data_type
use Rattle.rdo_ast.specs.declared.syntax.Arithmetic.{Arithmetic}
use Rattle.rdo_ast.specs.declared.syntax.Arithmetic.TheVariants.{Plus, Minus, Times}

-- what computing an expression gives
pub data Computed : Type 0 where
  is : Scaled → Computed
  overflow : Computed

-- the scale of a missing value and of a text is 0
abbrev pub absent : Scaled
absent = record { value = Missing; scale = 0 }

abbrev pub letters : List ℕ → Scaled
letters t = record { value = Text t; scale = 0 }

abbrev pub numeral : ℤ → ℕ → Scaled
numeral n scale = record { value = Number n; scale = scale }

-- from -(2^bits) to 2^bits - 1
abbrev pub fits_bits : ℕ → ℤ → Bool
fits_bits bits (pos n) = nat_lt n (2 ^ bits)
fits_bits bits (negsuc n) = nat_lt n (2 ^ bits)

-- a result must fit 64 bits and have at most 18 digits after the point
abbrev pub result : ℤ → ℕ → Computed
result n scale = if fits_bits 63 n && nat_le scale 18 then is (numeral n scale) else overflow

-- the same number with more digits after the point
abbrev pub brought : ℤ → ℕ → ℕ → ℤ
brought n from to = n *ℤ pos (10 ^ (to - from))

-- + and - at the greater scale, * at the sum of the scales
abbrev pub combined : Arithmetic → ℤ → ℕ → ℤ → ℕ → Computed
combined Plus m s n t = result (brought m s (max s t) +ℤ brought n t (max s t)) (max s t)
combined Minus m s n t = result (brought m s (max s t) -ℤ brought n t (max s t)) (max s t)
combined Times m s n t = result (m *ℤ n) (s + t)

-- missing where an operand is missing; a text was refused before
abbrev pub of_values : Arithmetic → Value → ℕ → Value → ℕ → Computed
of_values op (Number m) s (Number n) t = combined op m s n t
of_values op _ s _ t = is absent

abbrev pub arithmetic : Arithmetic → Computed → Computed → Computed
arithmetic op (is a) (is b) = of_values op a.value a.scale b.value b.scale
arithmetic op _ _ = overflow

abbrev pub negated_value : Value → ℕ → Computed
negated_value (Number n) s = result (neg_ℤ n) s
negated_value _ s = is absent

abbrev pub negation : Computed → Computed
negation (is a) = negated_value a.value a.scale
negation overflow = overflow

-- ---- storing in a field

abbrev pub is_text_kind : DataType → Bool
is_text_kind data_type.Text = true
is_text_kind _ = false

abbrev pub is_text_type : FieldType → Bool
is_text_type type = is_text_kind type.kind

-- WORD has 16 bits, LONGWORD 32 and QUADWORD 64
abbrev pub bits_of : DataType → ℕ
bits_of data_type.Word = 15
bits_of data_type.Longword = 31
bits_of _ = 63

abbrev pub magnitude_bits : FieldType → ℕ
magnitude_bits type = bits_of type.kind

-- the number at the field's scale, where digits past it are dropped towards zero
abbrev pub rescaled : ℤ → ℕ → ℕ → ℤ
rescaled n from to = if nat_le from to then brought n from to else int_div n (pos (10 ^ (from - to)))

pub data Fitted : Type 0 where
  fitting : Value → Fitted
  too_large : Fitted
  too_long : Fitted

abbrev pub fitted_value : FieldType → Value → ℕ → Fitted
fitted_value type Missing scale = fitting Missing
fitted_value type (Number n) scale =
    if fits_bits (magnitude_bits type) (rescaled n scale type.scale) then fitting (Number (rescaled n scale type.scale)) else too_large
fitted_value type (Text t) scale = if nat_le (length t) type.size then fitting (Text t) else too_long

-- what a field of this type keeps of a value
abbrev pub fitted : FieldType → Scaled → Fitted
fitted type v = fitted_value type v.value v.scale
