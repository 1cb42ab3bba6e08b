-- What a bound form says at a row: what the named form says where each value stands in the place of its name. No tables and no variables are left to look in.
use Rattle.std.specs.Prelude.{ℕ, negsuc, [], slice_get}
use Rattle.rdb_types.specs.declared.values.Value.{Value}
use Rattle.rdb_types.specs.declared.values.Value.TheVariants.{Missing, Number, Text}
use Rattle.rdb_types.specs.declared.values.Scaled.{Scaled}
use Rattle.rdo_ast.specs.Tree as tree
use Rattle.rdb_meaning.specs.Numbers.{Computed}
use Rattle.rdb_meaning.specs.Comparison.{Weighed, Verdict}
use Rattle.rdb_meaning.specs.Contents.{Row, no_tables}
use Rattle.rdb_meaning.specs.Evaluation.{scaled_if, computed, computed_after, tested, all_hold, some_holds, parts_verdict, verdict_of_condition}
use Rattle.rdo_values.specs.declared.bound.BoundReference.{BoundReference}
use Rattle.rdo_values.specs.declared.bound.KnownValue.{KnownValue}
use Rattle.rdo_values.specs.declared.bound.KnownValue.TheVariants as known_value
use Rattle.rdo_values.specs.declared.bound.KnownTruth.{KnownTruth}
use Rattle.rdo_values.specs.declared.bound.KnownTruth.TheVariants as known_truth
use Rattle.rdo_values.specs.Tree.{Expression, number, text, field, negative, chain, count, statistic, known, Operations, no_operation, operation, Testing, compare, between, containing, starting_with, missing, any, negated, group, decided, Conjunction, no_test, test, Condition, no_conjunction, conjunction}
use Rattle.rdo_values.specs.Named.{named, named_ranging}

-- the value at a reference's place, with its field's scale
abbrev pub read_at : Row → BoundReference → Scaled
read_at rows r = scaled_if r.kind (slice_get rows r.place)

-- ---- expressions that give a value

-- no variable is bound, so it is missing
abbrev pub nothing : tree.Expression
nothing = tree.field (record { variable = []; field = [] })

-- the negative of the least number of 64 bits
abbrev pub overflowing : tree.Expression
overflowing = tree.negative (tree.number (negsuc 9223372036854775807) 0)

abbrev pub literal : Value → ℕ → tree.Expression
literal Missing scale = nothing
literal (Number n) scale = tree.number n scale
literal (Text s) scale = tree.text s

abbrev pub known_literal : KnownValue → tree.Expression
known_literal known_value.Missing = nothing
known_literal (known_value.Number n scale) = tree.number n scale
known_literal (known_value.Text s) = tree.text s
known_literal known_value.Overflow = overflowing

abbrev pub known_test : KnownTruth → tree.Testing
known_test known_truth.True = tree.missing nothing
known_test known_truth.False = tree.missing (tree.number (negsuc 0) 0)
known_test known_truth.Overflow = tree.missing overflowing

-- ---- values in the place of names

abbrev mutual
  pub filled : Row → Expression → tree.Expression
  filled rows (number n scale) = tree.number n scale
  filled rows (text s) = tree.text s
  filled rows (field r) = let v = read_at rows r in literal v.value v.scale
  filled rows (negative e) = tree.negative (filled rows e)
  filled rows (chain e os) = tree.chain (filled rows e) (filled_operations rows os)
  filled rows (count r) = tree.count (named_ranging r)
  filled rows (statistic s e r) = tree.statistic s (named e) (named_ranging r)
  filled rows (known e v) = known_literal v

  pub filled_operations : Row → Operations → tree.Operations
  filled_operations rows no_operation = tree.no_operation
  filled_operations rows (operation op e os) = tree.operation op (filled rows e) (filled_operations rows os)

  pub filled_testing : Row → Testing → tree.Testing
  filled_testing rows (compare op a b) = tree.compare op (filled rows a) (filled rows b)
  filled_testing rows (between a low high) = tree.between (filled rows a) (filled rows low) (filled rows high)
  filled_testing rows (containing a b) = tree.containing (filled rows a) (filled rows b)
  filled_testing rows (starting_with a b) = tree.starting_with (filled rows a) (filled rows b)
  filled_testing rows (missing e) = tree.missing (filled rows e)
  filled_testing rows (any r) = tree.any (named_ranging r)
  filled_testing rows (negated c) = tree.negated (filled_testing rows c)
  filled_testing rows (group c) = tree.group (filled_condition rows c)
  filled_testing rows (decided c v) = known_test v

  pub filled_conjunction : Row → Conjunction → tree.Conjunction
  filled_conjunction rows no_test = tree.no_test
  filled_conjunction rows (test c cs) = tree.test (filled_testing rows c) (filled_conjunction rows cs)

  pub filled_condition : Row → Condition → tree.Condition
  filled_condition rows no_conjunction = tree.no_conjunction
  filled_condition rows (conjunction c cs) = tree.conjunction (filled_conjunction rows c) (filled_condition rows cs)

-- ---- what a form says at a row

abbrev pub value_at : Row → Expression → Computed
value_at rows e = computed (filled rows e) no_tables []

abbrev pub value_after : Row → Computed → Operations → Computed
value_after rows v os = computed_after v (filled_operations rows os) no_tables []

abbrev pub truth_at : Row → Testing → Weighed
truth_at rows c = tested (filled_testing rows c) no_tables []

abbrev pub all_at : Row → Conjunction → Weighed
all_at rows c = all_hold (filled_conjunction rows c) no_tables []

abbrev pub some_at : Row → Condition → Weighed
some_at rows c = some_holds (filled_condition rows c) no_tables []

abbrev pub parts_at : Row → Conjunction → Verdict
parts_at rows c = parts_verdict (filled_conjunction rows c) no_tables []

abbrev pub verdict_at : Row → Condition → Verdict
verdict_at rows c = verdict_of_condition (filled_condition rows c) no_tables []
