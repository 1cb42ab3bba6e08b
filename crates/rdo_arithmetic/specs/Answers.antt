-- What an answer of the code says of a definition's value. Want of memory says nothing.
use Rattle.std.specs.Prelude.{◌≡◌, Bool, true, false, Result, Ok, Err, Option}
use Rattle.std.specs.declared.cmp.Ordering.{Ordering}
use Rattle.std.specs.Ordering.{is_lt, is_gt}
use Rattle.rdb_types.specs.declared.values.Scaled.{Scaled}
use Rattle.rdb_types.specs.declared.values.Value.{Value}
use Rattle.rdb_meaning.specs.Numbers.{Computed, is, overflow, Fitted, fitting, too_large, too_long}
use Rattle.rdb_meaning.specs.Comparison.{Weighed, holds, fails, unknown, overflows, Verdict, chosen, passed_over, undecided}
use Rattle.rdo_arithmetic.specs.declared.stop.Stop.{Stop}
use Rattle.rdo_arithmetic.specs.declared.stop.Stop.TheVariants as stop
use Rattle.rdo_arithmetic.specs.declared.stop.Misfit.{Misfit}
use Rattle.rdo_arithmetic.specs.declared.stop.Misfit.TheVariants as misfit
use Rattle.rdo_arithmetic.specs.declared.truth.Truth.{Truth}
use Rattle.rdo_arithmetic.specs.declared.truth.Truth.TheVariants as truth

-- the value of an expression
abbrev pub Gives : Result Scaled Stop → Computed → Type 0
Gives (Ok v) c = c ≡ is v
Gives (Err stop.Overflow) c = c ≡ overflow
Gives (Err stop.Memory) c = Unit {0}

-- what a field keeps of a value
abbrev pub Fits : Result Value Misfit → Fitted → Type 0
Fits (Ok v) f = f ≡ fitting v
Fits (Err misfit.Overflow) f = f ≡ too_large
Fits (Err misfit.TooLong) f = f ≡ too_long
Fits (Err misfit.Memory) f = Unit {0}

abbrev pub truth_of : Truth → Weighed
truth_of truth.True = holds
truth_of truth.False = fails
truth_of truth.Missing = unknown

-- what a condition says
abbrev pub Weighs : Result Truth Stop → Weighed → Type 0
Weighs (Ok t) w = w ≡ truth_of t
Weighs (Err stop.Overflow) w = w ≡ overflows
Weighs (Err stop.Memory) w = Unit {0}

-- the order of two values, if they have one
abbrev pub Orders : Result (Option Ordering) Stop → Option Ordering → Type 0
Orders (Ok o) p = p ≡ o
Orders (Err stop.Memory) p = Unit {0}
Orders (Err stop.Overflow) p = ⊥

abbrev pub verdict_for : Bool → Verdict
verdict_for true = chosen
verdict_for false = passed_over

-- whether a selection's condition chooses a tuple
abbrev pub Chooses : Result Bool Stop → Verdict → Type 0
Chooses (Ok b) v = v ≡ verdict_for b
Chooses (Err stop.Overflow) v = v ≡ undecided
Chooses (Err stop.Memory) v = Unit {0}

-- the order in which MAX, or MIN, prefers the first of two values
abbrev pub prefers : Bool → Ordering → Bool
prefers true = is_gt
prefers false = is_lt
