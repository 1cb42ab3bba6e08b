-- Which keys are in question.
use Rattle.std.specs.Prelude.{Bool, false, not, ◌&&◌, List, length, take, Option, Some, None, if◌then◌else◌}
use Rattle.std.specs.declared.cmp.Ordering.{Ordering}
use Rattle.std.specs.Ordering.{is_lt, is_le, is_gt, is_ge}
use Rattle.rdb_types.specs.declared.values.Value.{Value}
use Rattle.rdb_types.specs.Order.{row_order}
use Rattle.sorted_index_laws.specs.declared.bounds.Bounds.{Bounds}

-- Keys that follow one another in the order of keys: those that are neither below nor above.
pub record Interval : Type 0 where
  pub is_below : List Value → Bool
  pub is_above : List Value → Bool

abbrev pub is_within : Interval → List Value → Bool
is_within interval key = not (interval.is_below key) && not (interval.is_above key)

-- one key
abbrev pub only : List Value → Interval
only wanted = record { is_below = λ key. is_lt (row_order key wanted); is_above = λ key. is_gt (row_order key wanted) }

-- a key is compared with a bound by as many of its first values as the bound has
abbrev pub first_values_order : List Value → List Value → Ordering
first_values_order key bound = row_order (take (length bound) key) bound

abbrev pub is_below_low : Option (List Value) → Bool → List Value → Bool
is_below_low None low_in key = false
is_below_low (Some low) low_in key = if low_in then is_lt (first_values_order key low) else is_le (first_values_order key low)

abbrev pub is_above_high : Option (List Value) → Bool → List Value → Bool
is_above_high None high_in key = false
is_above_high (Some high) high_in key = if high_in then is_gt (first_values_order key high) else is_ge (first_values_order key high)

-- the keys within bounds
abbrev pub between : Bounds → Interval
between bounds = record { is_below = is_below_low bounds.low bounds.low_in; is_above = is_above_high bounds.high bounds.high_in }
