-- Comparison, and conditions that are true, false or missing.
use Rattle.std.specs.Prelude.{ℕ, max, Bool, true, false, ◌&&◌, ◌||◌, nat_eq, List, [], ◌∷◌, Option, Some, None}
use Rattle.std.specs.List.{starts_with}
use Rattle.std.specs.declared.cmp.Ordering.{Ordering}
use Rattle.std.specs.Ordering.{nat_cmp, int_cmp, is_eq, is_ne, is_lt, is_le, is_gt, is_ge}
use Rattle.std.specs.Cmp.Lexicographic.{slice_cmp}
use Rattle.std.specs.Str.{str_to_ascii_uppercase}
use Rattle.ordered_entries.specs.rdb_types.declared.values.Value.{Value}
use Rattle.ordered_entries.specs.rdb_types.declared.values.Value.TheVariants.{Missing, Number, Text}
use Rattle.ordered_entries.specs.rdb_types.declared.values.Scaled.{Scaled}
use Rattle.rdo_ast.specs.declared.syntax.Comparison.{Comparison}
use Rattle.rdo_ast.specs.declared.syntax.Comparison.TheVariants as by
use Rattle.rdb_meaning.specs.Numbers.{Computed, is, overflow, brought}

-- what weighing a condition gives
pub data Weighed : Type 0 where
  holds : Weighed
  fails : Weighed
  unknown : Weighed
  overflows : Weighed

abbrev pub weighed : Bool → Weighed
weighed true = holds
weighed false = fails

-- numbers by value whatever their scales, texts by their bytes, a prefix being less; no answer where one is missing
abbrev pub order_of_values : Value → ℕ → Value → ℕ → Option Ordering
order_of_values (Number m) s (Number n) t = Some (int_cmp (brought m s (max s t)) (brought n t (max s t)))
order_of_values (Text a) s (Text b) t = Some (slice_cmp nat_cmp a b)
order_of_values _ s _ t = None

abbrev pub order_of : Scaled → Scaled → Option Ordering
order_of a b = order_of_values a.value a.scale b.value b.scale

abbrev pub passes : Comparison → Ordering → Bool
passes by.Equal o = is_eq o
passes by.NotEqual o = is_ne o
passes by.Greater o = is_gt o
passes by.GreaterEqual o = is_ge o
passes by.Less o = is_lt o
passes by.LessEqual o = is_le o

abbrev pub judged : Comparison → Option Ordering → Weighed
judged op (Some o) = weighed (passes op o)
judged op None = unknown

abbrev pub compared : Comparison → Computed → Computed → Weighed
compared op (is a) (is b) = judged op (order_of a b)
compared op _ _ = overflows

-- missing where one of the three is
abbrev pub within : Option Ordering → Option Ordering → Weighed
within (Some low) (Some high) = weighed (is_ge low && is_le high)
within _ _ = unknown

abbrev pub lies_between : Computed → Computed → Computed → Weighed
lies_between (is a) (is low) (is high) = within (order_of a low) (order_of a high)
lies_between _ _ _ = overflows

-- the pattern stands somewhere in the text
abbrev pub contains : List ℕ → List ℕ → Bool
contains pattern [] = starts_with nat_eq [] pattern
contains pattern (c ∷ cs) = starts_with nat_eq (c ∷ cs) pattern || contains pattern cs

abbrev pub text_test : (List ℕ → List ℕ → Bool) → Value → Value → Weighed
text_test p (Text a) (Text b) = weighed (p a b)
text_test p _ _ = unknown

abbrev pub on_texts : (List ℕ → List ℕ → Bool) → Computed → Computed → Weighed
on_texts p (is a) (is b) = text_test p a.value b.value
on_texts p _ _ = overflows

-- CONTAINING disregards the case of letters, STARTING WITH does not
abbrev pub contains_any_case : List ℕ → List ℕ → Bool
contains_any_case text pattern = contains (str_to_ascii_uppercase pattern) (str_to_ascii_uppercase text)

abbrev pub begins_with : List ℕ → List ℕ → Bool
begins_with text pattern = starts_with nat_eq text pattern

abbrev pub is_absent : Value → Bool
is_absent Missing = true
is_absent _ = false

abbrev pub missing_test : Computed → Weighed
missing_test (is a) = weighed (is_absent a.value)
missing_test overflow = overflows

-- ---- three values

abbrev pub not_of : Weighed → Weighed
not_of holds = fails
not_of fails = holds
not_of unknown = unknown
not_of overflows = overflows

-- false where a part is false, else missing where a part is missing, else true; all parts are evaluated
abbrev pub and_of : Weighed → Weighed → Weighed
and_of overflows _ = overflows
and_of _ overflows = overflows
and_of fails _ = fails
and_of _ fails = fails
and_of unknown _ = unknown
and_of _ unknown = unknown
and_of holds holds = holds

abbrev pub or_of : Weighed → Weighed → Weighed
or_of overflows _ = overflows
or_of _ overflows = overflows
or_of holds _ = holds
or_of _ holds = holds
or_of unknown _ = unknown
or_of _ unknown = unknown
or_of fails fails = fails

-- ---- the parts of a selection's condition

-- what the parts of a selection's condition say of a tuple
pub data Verdict : Type 0 where
  chosen : Verdict
  passed_over : Verdict
  undecided : Verdict

abbrev pub verdict_of : Weighed → Verdict
verdict_of holds = chosen
verdict_of fails = passed_over
verdict_of unknown = passed_over
verdict_of overflows = undecided

-- one part that is false or missing decides, whatever the others give; else an overflow does
abbrev pub both_parts : Verdict → Verdict → Verdict
both_parts passed_over _ = passed_over
both_parts _ passed_over = passed_over
both_parts undecided _ = undecided
both_parts _ undecided = undecided
both_parts chosen chosen = chosen
