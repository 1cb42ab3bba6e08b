-- What is printed of each expression and each condition is read as it.
use Rattle.rdo_ast.specs.Tree.{Expression, number, text, field, negative, chain, count, statistic, Operations, no_operation, operation, Testing, compare, between, containing, starting_with, missing, any, negated, group, Conjunction, no_test, test, Condition, no_conjunction, conjunction, Ranging, ranging, With, without_condition, with_condition}
use Rattle.rdo_printer.proofs.ExpressionLaws.{ReadsWell, ProductsRead, SumsRead, chain_read, more_products, more_sums, no_more_products, no_more_sums}
use Rattle.rdo_printer.proofs.ConditionLaws.{ConditionRead, WithRead, RangingRead, TestRead, TestsRead, ConjunctionRead, ConjunctionsRead, without_read, with_read, ranging_read, number_reads, text_reads, field_reads, negative_reads, count_reads, statistic_reads, compare_read, containing_read, starting_read, missing_read, between_read, any_read, negated_read, group_read, no_more_tests, more_tests, conjunction_read, no_more_conjunctions, more_conjunctions, condition_read}

mutual
  pub expression_law : (x : Expression) → ReadsWell x
  expression_law (number n scale) = number_reads n scale
  expression_law (text z) = text_reads z
  expression_law (field r) = field_reads r
  expression_law (negative x) = negative_reads x (expression_law x)
  expression_law (chain x os) = chain_read x os (expression_law x) (products_law os) (sums_law os)
  expression_law (count r) = count_reads r (ranging_law r)
  expression_law (statistic s x r) = statistic_reads s x r (expression_law x) (ranging_law r)

  products_law : (os : Operations) → ProductsRead os
  products_law no_operation = no_more_products
  products_law (operation o x os) = more_products o x os (expression_law x) (products_law os)

  sums_law : (os : Operations) → SumsRead os
  sums_law no_operation = no_more_sums
  sums_law (operation o x os) = more_sums o x os (expression_law x) (sums_law os)

  test_law : (t : Testing) → TestRead t
  test_law (compare o a b) = compare_read o a b (expression_law a) (expression_law b)
  test_law (between a low high) = between_read a low high (expression_law a) (expression_law low) (expression_law high)
  test_law (containing a b) = containing_read a b (expression_law a) (expression_law b)
  test_law (starting_with a b) = starting_read a b (expression_law a) (expression_law b)
  test_law (missing a) = missing_read a (expression_law a)
  test_law (any r) = any_read r (ranging_law r)
  test_law (negated t) = negated_read t (test_law t)
  test_law (group c) = group_read c (condition_law c)

  tests_law : (ts : Conjunction) → TestsRead ts
  tests_law no_test = no_more_tests
  tests_law (test t ts) = more_tests t ts (test_law t) (tests_law ts)

  conjunction_law : (c : Conjunction) → ConjunctionRead c
  conjunction_law no_test = λ levels last fits. absurd fits
  conjunction_law (test t ts) = conjunction_read t ts (test_law t) (tests_law ts)

  conjunctions_law : (cs : Condition) → ConjunctionsRead cs
  conjunctions_law no_conjunction = no_more_conjunctions
  conjunctions_law (conjunction c cs) = more_conjunctions c cs (conjunction_law c) (conjunctions_law cs)

  pub condition_law : (c : Condition) → ConditionRead c
  condition_law no_conjunction = λ levels fits. absurd fits
  condition_law (conjunction c cs) = condition_read c cs (conjunction_law c) (conjunctions_law cs)

  pub ranging_law : (r : Ranging) → RangingRead r
  ranging_law (ranging n ranges w) = ranging_read n ranges w (with_law w)

  pub with_law : (w : With) → WithRead w
  with_law without_condition = without_read
  with_law (with_condition c) = with_read c (condition_law c)
