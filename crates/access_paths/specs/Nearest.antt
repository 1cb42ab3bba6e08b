-- The value of a field that stands for a value that the field is compared with.
use Rattle.std.specs.Prelude.{ℕ, Bool, true, false, ℤ, pos, negsuc, Option, Some, None}
use Rattle.rdb_types.specs.declared.values.Value.{Value}
use Rattle.rdb_types.specs.declared.values.Value.TheVariants.{Missing, Number, Text}
use Rattle.rdb_types.specs.declared.values.Scaled.{Scaled}
use Rattle.rdb_types.specs.declared.values.FieldType.{FieldType}
use Rattle.rdb_types.specs.declared.values.DataType.TheVariants.{Quadword}
use Rattle.rdo_ast.specs.declared.syntax.Comparison.{Comparison}
use Rattle.rdb_meaning.specs.Numbers.{is, Fitted, fitting, too_large, too_long, fitted_value}
use Rattle.rdb_meaning.specs.Comparison.{Weighed, holds, fails, unknown, overflows, compared}
use Rattle.rdb_meaning.specs.Evaluation.{scaled_by}

abbrev pub quadword : ℕ → FieldType
quadword scale = record { kind = Quadword; scale = scale; size = 0 }

-- where it doesn't fit 64 bits, the least or the greatest that does
abbrev pub nearest_number : ℤ → Fitted → Value
nearest_number n (fitting v) = v
nearest_number (pos n) too_large = Number (pos 9223372036854775807)
nearest_number (pos n) too_long = Number (pos 9223372036854775807)
nearest_number (negsuc n) too_large = Number (negsuc 9223372036854775807)
nearest_number (negsuc n) too_long = Number (negsuc 9223372036854775807)

abbrev pub nearest_value : FieldType → Value → ℕ → Option Value
nearest_value kind Missing scale = None
nearest_value kind (Number n) scale = Some (nearest_number n (fitted_value (quadword kind.scale) (Number n) scale))
nearest_value kind (Text t) scale = Some (Text t)

-- of the values that a field of this scale may have, the one nearest to a value, from the side of zero
abbrev pub nearest : FieldType → Scaled → Option Value
nearest kind v = nearest_value kind v.value v.scale

abbrev pub is_holding : Weighed → Bool
is_holding holds = true
is_holding fails = false
is_holding unknown = false
is_holding overflows = false

-- a field's value compares so with a value
abbrev pub meets : Comparison → FieldType → Value → Scaled → Bool
meets op kind own other = is_holding (compared op (is (scaled_by kind own)) (is other))
