-- What the parts of a condition ask of a field: that it compares so with the value of an expression that is known before the field's row is.
use Rattle.std.specs.Prelude.{ℕ, Bool, true, false, ◌&&◌, if◌then◌else◌, nat_eq, nat_lt, List, [], ◌∷◌, ◌++◌, Option, Some, None}
use Rattle.rdb_types.specs.declared.values.FieldType.{FieldType}
use Rattle.rdo_ast.specs.declared.syntax.Comparison.{Comparison}
use Rattle.rdo_ast.specs.declared.syntax.Comparison.TheVariants as by
use Rattle.rdo_values.specs.Tree.{Expression, number, text, field, negative, chain, count, statistic, known, Operations, no_operation, operation, Testing, compare, between, containing, starting_with, missing, any, negated, group, decided, Conjunction, no_test, test}

-- each place that the expression reads is before this one, and it asks no other selection
abbrev mutual
  pub is_before : ℕ → Expression → Bool
  is_before start (number n scale) = true
  is_before start (text t) = true
  is_before start (field r) = nat_lt r.place start
  is_before start (negative e) = is_before start e
  is_before start (chain e os) = is_before start e && are_before start os
  is_before start (count r) = false
  is_before start (statistic s e r) = false
  is_before start (known e v) = false

  pub are_before : ℕ → Operations → Bool
  are_before start no_operation = true
  are_before start (operation op e os) = is_before start e && are_before start os

-- the type of the field at this place, where the expression is that field
abbrev pub kind_at : ℕ → Expression → Option FieldType
kind_at place (field r) = if nat_eq r.place place then Some r.kind else None
kind_at place _ = None

-- the comparison with its sides changed
abbrev pub turned : Comparison → Comparison
turned by.Equal = by.Equal
turned by.NotEqual = by.NotEqual
turned by.Greater = by.Less
turned by.GreaterEqual = by.LessEqual
turned by.Less = by.Greater
turned by.LessEqual = by.GreaterEqual

-- NE doesn't say where values lie
abbrev pub is_bounding : Comparison → Bool
is_bounding by.NotEqual = false
is_bounding _ = true

abbrev pub is_equating : Comparison → Bool
is_equating by.Equal = true
is_equating _ = false

-- A field of this type is to compare so with the expression.
pub record Asked : Type 0 where
  pub op : Comparison
  pub kind : FieldType
  pub other : Expression

abbrev pub asked_if : Bool → Comparison → Expression → Option FieldType → List Asked
asked_if true op e (Some kind) = record { op = op; kind = kind; other = e } ∷ []
asked_if true op e None = []
asked_if false op e kind = []

-- what a comparison asks of the field at a place, if that stands on its left; the field's row begins at another place
abbrev pub asked_by : ℕ → ℕ → Comparison → Expression → Expression → List Asked
asked_by start place op a b = asked_if (is_bounding op && is_before start b) op b (kind_at place a)

abbrev pub asked_between : Bool → ℕ → ℕ → Expression → Expression → Expression → List Asked
asked_between true start place a low high = asked_by start place by.GreaterEqual a low ++ asked_by start place by.LessEqual a high
asked_between false start place a low high = []

-- The field may stand on either side of a comparison; in BETWEEN it stands first.
abbrev pub asked_of : ℕ → ℕ → Testing → List Asked
asked_of start place (compare op a b) = asked_by start place op a b ++ asked_by start place (turned op) b a
asked_of start place (between a low high) = asked_between (is_before start low && is_before start high) start place a low high
asked_of start place (containing a b) = []
asked_of start place (starting_with a b) = []
asked_of start place (missing e) = []
asked_of start place (any r) = []
asked_of start place (negated c) = []
asked_of start place (group c) = []
asked_of start place (decided c v) = []

abbrev pub asked_in : ℕ → ℕ → Conjunction → List Asked
asked_in start place no_test = []
asked_in start place (test c cs) = asked_of start place c ++ asked_in start place cs
