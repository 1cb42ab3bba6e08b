-- Whether a bound form asks another selection: a statistic or an ANY is in it, or what was once known of one.
use Rattle.std.specs.Prelude.{Bool, true, false, ◌||◌}
use Rattle.rdo_values.specs.Tree.{Expression, number, text, field, negative, chain, count, statistic, known, Operations, no_operation, operation, Testing, compare, between, containing, starting_with, missing, any, negated, group, decided, Conjunction, no_test, test, Condition, no_conjunction, conjunction, With, without_condition, with_condition}

abbrev mutual
  pub asks : Expression → Bool
  asks (number n scale) = false
  asks (text s) = false
  asks (field r) = false
  asks (negative e) = asks e
  asks (chain e os) = asks e || operations_ask os
  asks (count r) = true
  asks (statistic s e r) = true
  asks (known e v) = true

  pub operations_ask : Operations → Bool
  operations_ask no_operation = false
  operations_ask (operation op e os) = asks e || operations_ask os

abbrev mutual
  pub test_asks : Testing → Bool
  test_asks (compare op a b) = asks a || asks b
  test_asks (between a low high) = asks a || asks low || asks high
  test_asks (containing a b) = asks a || asks b
  test_asks (starting_with a b) = asks a || asks b
  test_asks (missing e) = asks e
  test_asks (any r) = true
  test_asks (negated c) = test_asks c
  test_asks (group c) = condition_asks c
  test_asks (decided c v) = true

  pub tests_ask : Conjunction → Bool
  tests_ask no_test = false
  tests_ask (test c cs) = test_asks c || tests_ask cs

  pub condition_asks : Condition → Bool
  condition_asks no_conjunction = false
  condition_asks (conjunction c cs) = tests_ask c || condition_asks cs

-- the tests that ask nothing
abbrev pub plain_if : Bool → Testing → Conjunction → Conjunction
plain_if true c cs = cs
plain_if false c cs = test c cs

abbrev pub plain : Conjunction → Conjunction
plain no_test = no_test
plain (test c cs) = plain_if (test_asks c) c (plain cs)

abbrev pub asks_with : With → Bool
asks_with without_condition = false
asks_with (with_condition c) = condition_asks c
