-- The words of expressions and conditions: parentheses stand round a condition's group, and round an operand where the tree could not be read back without.
use Rattle.std.specs.Prelude.{ℕ, ℤ, pos, negsuc, Bool, true, false, ◌||◌, List, [], ◌∷◌, ◌++◌, Option, Some, None}
use Rattle.rdo_ast.specs.declared.syntax.Reference.{Reference}
use Rattle.rdo_ast.specs.declared.syntax.Range.{Range}
use Rattle.rdo_ast.specs.declared.syntax.Comparison.{Comparison}
use Rattle.rdo_ast.specs.declared.syntax.Comparison.TheVariants as op
use Rattle.rdo_ast.specs.declared.syntax.Arithmetic.{Arithmetic}
use Rattle.rdo_ast.specs.declared.syntax.Arithmetic.TheVariants as by
use Rattle.rdo_ast.specs.declared.syntax.Statistic.{Statistic}
use Rattle.rdo_ast.specs.declared.syntax.Statistic.TheVariants as of
use Rattle.rdo_ast.specs.Tree.{Expression, number, text, field, negative, chain, count, statistic, Operations, no_operation, operation, Testing, compare, between, containing, starting_with, missing, any, negated, group, Conjunction, no_test, test, Condition, no_conjunction, conjunction, Ranging, ranging, With, without_condition, with_condition}
use Rattle.rdo_tokens.specs.declared.token.Kind.{Kind}
use Rattle.rdo_tokens.specs.declared.token.Kind.TheVariants as k
use Rattle.rdo_printer.specs.Words.{Spelled, word, name_word, number_word, quoted_word, separated_words}

abbrev pub reference_words : Reference → List Spelled
reference_words r = name_word r.variable ∷ word k.Dot ∷ name_word r.field ∷ []

abbrev pub range_words : Range → List Spelled
range_words r = name_word r.variable ∷ word k.In ∷ name_word r.relation ∷ []

abbrev pub first_words : Option ℕ → List Spelled
first_words None = []
first_words (Some n) = word k.First ∷ number_word n 0 ∷ []

abbrev pub operator_kind : Arithmetic → Kind
operator_kind by.Plus = k.Plus
operator_kind by.Minus = k.Minus
operator_kind by.Times = k.Star

abbrev pub comparison_kind : Comparison → Kind
comparison_kind op.Equal = k.Equal
comparison_kind op.NotEqual = k.Unequal
comparison_kind op.Greater = k.Greater
comparison_kind op.GreaterEqual = k.GreaterEqual
comparison_kind op.Less = k.Less
comparison_kind op.LessEqual = k.LessEqual

abbrev pub statistic_kind : Statistic → Kind
statistic_kind of.Total = k.Total
statistic_kind of.Minimum = k.Min
statistic_kind of.Maximum = k.Max

-- ---- where parentheses stand

abbrev pub in_parentheses : List Spelled → List Spelled
in_parentheses ws = word k.Open ∷ ws ++ word k.Close ∷ []

abbrev pub guarded : Bool → List Spelled → List Spelled
guarded true ws = in_parentheses ws
guarded false ws = ws

abbrev pub is_condition : With → Bool
is_condition without_condition = false
is_condition (with_condition c) = true

abbrev pub has_condition : Ranging → Bool
has_condition (ranging n ranges w) = is_condition w

-- it ends with a condition, which would go on with an operator or an AND behind it
abbrev pub is_open : Expression → Bool
is_open (count r) = has_condition r
is_open (statistic s x r) = has_condition r
is_open x = false

abbrev pub is_times : Arithmetic → Bool
is_times by.Times = true
is_times o = false

abbrev pub is_chain : Expression → Bool
is_chain (chain x os) = true
is_chain x = false

abbrev pub are_sums : Operations → Bool
are_sums no_operation = false
are_sums (operation by.Times x os) = false
are_sums (operation o x os) = true

abbrev pub is_sum : Expression → Bool
is_sum (chain x os) = are_sums os
is_sum x = false

-- Whether this operand of an operator stands in parentheses. One that ends with a condition does even where nothing behind it would go on with it, which costs a level.
abbrev pub is_guarded : Arithmetic → Expression → Bool
is_guarded by.Times x = is_chain x || is_open x
is_guarded o x = is_sum x || is_open x

-- whether the first operand before these operations does
abbrev pub is_first_guarded : Operations → Expression → Bool
is_first_guarded no_operation x = false
is_first_guarded (operation o y os) x = is_guarded o x

-- ---- the words

abbrev pub number_words : ℤ → ℕ → List Spelled
number_words (pos n) scale = number_word n scale ∷ []
number_words (negsuc n) scale = []

abbrev mutual
  pub expression_words : Expression → List Spelled
  expression_words (number n scale) = number_words n scale
  expression_words (text z) = quoted_word z ∷ []
  expression_words (field r) = reference_words r
  expression_words (negative x) = word k.Minus ∷ guarded (is_guarded by.Times x) (expression_words x)
  expression_words (chain x os) = guarded (is_first_guarded os x) (expression_words x) ++ operations_words os
  expression_words (count r) = word k.Count ∷ word k.Of ∷ ranging_words r
  expression_words (statistic s x r) = word (statistic_kind s) ∷ expression_words x ++ (word k.Of ∷ ranging_words r)

  pub operations_words : Operations → List Spelled
  operations_words no_operation = []
  operations_words (operation o x os) = word (operator_kind o) ∷ guarded (is_guarded o x) (expression_words x) ++ operations_words os

  pub test_words : Testing → List Spelled
  test_words (compare o a b) = expression_words a ++ word (comparison_kind o) ∷ guarded (is_open b) (expression_words b)
  test_words (between a low high) =
      expression_words a ++ (word k.Between ∷ guarded (is_open low) (expression_words low) ++ (word k.And ∷ guarded (is_open high) (expression_words high)))
  test_words (containing a b) = expression_words a ++ word k.Containing ∷ guarded (is_open b) (expression_words b)
  test_words (starting_with a b) = expression_words a ++ word k.Starting ∷ word k.With ∷ guarded (is_open b) (expression_words b)
  test_words (missing a) = expression_words a ++ word k.Missing ∷ []
  test_words (any r) = word k.Any ∷ ranging_words r
  test_words (negated t) = word k.Not ∷ test_words t
  test_words (group c) = in_parentheses (condition_words c)

  pub conjunction_words : Conjunction → List Spelled
  conjunction_words no_test = []
  conjunction_words (test t ts) = test_words t ++ tests_words ts

  -- the tests behind the first
  pub tests_words : Conjunction → List Spelled
  tests_words no_test = []
  tests_words (test t ts) = word k.And ∷ test_words t ++ tests_words ts

  pub condition_words : Condition → List Spelled
  condition_words no_conjunction = []
  condition_words (conjunction c cs) = conjunction_words c ++ conjunctions_words cs

  -- the conjunctions behind the first
  pub conjunctions_words : Condition → List Spelled
  conjunctions_words no_conjunction = []
  conjunctions_words (conjunction c cs) = word k.Or ∷ conjunction_words c ++ conjunctions_words cs

  pub ranging_words : Ranging → List Spelled
  ranging_words (ranging n ranges w) = first_words n ++ (separated_words k.Cross range_words ranges ++ with_words w)

  pub with_words : With → List Spelled
  with_words without_condition = []
  with_words (with_condition c) = word k.With ∷ condition_words c
