-- Between which values a condition wants a field.
use Rattle.std.specs.Prelude.{ℕ, false, if◌then◌else◌, List, [], ◌∷◌, length, Option, Some, None}
use Rattle.std.specs.declared.cmp.Ordering.{Ordering}
use Rattle.std.specs.declared.cmp.Ordering.TheVariants.{Less, Equal, Greater}
use Rattle.rdb_types.specs.declared.values.Value.{Value}
use Rattle.rdb_types.specs.declared.values.Value.TheVariants.{Missing as MissingValue}
use Rattle.rdb_types.specs.declared.values.Scaled.{Scaled}
use Rattle.rdb_types.specs.declared.values.FieldType.{FieldType}
use Rattle.rdo_ast.specs.declared.syntax.Comparison.{Comparison}
use Rattle.rdo_ast.specs.declared.syntax.Comparison.TheVariants as by
use Rattle.rdb_meaning.specs.Numbers.{Computed, is, overflow}
use Rattle.rdb_types.specs.Order.{value_order}
use Rattle.rdb_meaning.specs.Contents.{Row}
use Rattle.rdo_values.specs.Tree.{Conjunction}
use Rattle.rdo_values.specs.Filled.{value_at}
use Rattle.sorted_index_laws.specs.declared.bounds.Bounds.{Bounds}
use Rattle.access_paths.specs.declared.limits.End.{End}
use Rattle.access_paths.specs.declared.limits.Limits.{Limits}
use Rattle.access_paths.specs.declared.limits.Limited.{Limited}
use Rattle.access_paths.specs.declared.limits.Limited.TheVariants.{Nothing, Within, Lost}
use Rattle.access_paths.specs.Serving.{Asked, asked_in}
use Rattle.access_paths.specs.Nearest.{nearest, meets}

-- ---- one comparison

-- all values but missing ones are above
abbrev pub open_end : End
open_end = record { value = MissingValue; included = false }

abbrev pub nothing : Limits
nothing = record { low = open_end; high = Some open_end }

abbrev pub limits_by : Comparison → End → Limits
limits_by by.Equal e = record { low = e; high = Some e }
limits_by by.NotEqual e = record { low = open_end; high = None }
limits_by by.Greater e = record { low = e; high = None }
limits_by by.GreaterEqual e = record { low = e; high = None }
limits_by by.Less e = record { low = open_end; high = Some e }
limits_by by.LessEqual e = record { low = open_end; high = Some e }

-- the nearest value is within where it meets the comparison itself
abbrev pub limits_to : Comparison → FieldType → Scaled → Option Value → Limits
limits_to op kind other None = nothing
limits_to op kind other (Some v) = limits_by op (record { value = v; included = meets op kind v other })

-- the values of a field that compare so with a value
abbrev pub limits_of : Comparison → FieldType → Scaled → Limits
limits_of op kind other = limits_to op kind other (nearest kind other)

-- ---- several comparisons

abbrev pub highest_by : Ordering → End → End → End
highest_by Less a b = b
highest_by Equal a b = if a.included then b else a
highest_by Greater a b = a

abbrev pub highest : End → End → End
highest a b = highest_by (value_order a.value b.value) a b

abbrev pub lowest_by : Ordering → End → End → End
lowest_by Less a b = a
lowest_by Equal a b = if a.included then b else a
lowest_by Greater a b = b

abbrev pub lowest : End → End → End
lowest a b = lowest_by (value_order a.value b.value) a b

abbrev pub lowest_high : Option End → Option End → Option End
lowest_high None b = b
lowest_high (Some a) None = Some a
lowest_high (Some a) (Some b) = Some (lowest a b)

-- what is within both
abbrev pub meet : Limits → Limits → Limits
meet a b = record { low = highest a.low b.low; high = lowest_high a.high b.high }

abbrev pub narrowed : Limited → Limits → Limited
narrowed Nothing limits = Within limits
narrowed (Within before) limits = Within (meet before limits)
narrowed Lost limits = Lost

-- by a comparison with what an expression gives
abbrev pub narrowed_by : Comparison → FieldType → Computed → Limited → Limited
narrowed_by op kind (is other) limited = narrowed limited (limits_of op kind other)
narrowed_by op kind overflow limited = Lost

abbrev pub narrowed_from : Row → Limited → List Asked → Limited
narrowed_from rows limited [] = limited
narrowed_from rows limited (a ∷ more) = narrowed_from rows (narrowed_by a.op a.kind (value_at rows a.other) limited) more

-- what tests ask of the field at a place, where the values before its row are known
abbrev pub limits_at : Row → ℕ → Conjunction → Limited
limits_at rows place tests = narrowed_from rows Nothing (asked_in (length rows) place tests)

-- ---- as bounds of keys

abbrev pub bounds_to : End → Option End → Bounds
bounds_to low (Some high) = record { low = Some (low.value ∷ []); low_in = low.included; high = Some (high.value ∷ []); high_in = high.included }
bounds_to low None = record { low = Some (low.value ∷ []); low_in = low.included; high = None; high_in = false }

-- the keys whose first value is within limits
abbrev pub bounds_of : Limits → Bounds
bounds_of limits = bounds_to limits.low limits.high
