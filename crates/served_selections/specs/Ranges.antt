-- The relations of all selections in a form, each with the variables before it and the tests that may choose among its rows.
use Rattle.std.specs.Prelude.{List, [], ◌∷◌, ◌++◌, map}
use Rattle.rdo_ast.specs.declared.syntax.Range.{Range}
use Rattle.rdo_values.specs.declared.bound.BoundRange.{BoundRange}
use Rattle.rdo_values.specs.Tree.{Expression, number, text, field, negative, chain, count, statistic, known, Operations, no_operation, operation, Testing, compare, between, containing, starting_with, missing, any, negated, group, decided, Conjunction, no_test, test, Condition, no_conjunction, conjunction, Ranging, ranging, without_condition, with_condition}
use Rattle.rdo_values.specs.Places.{ranges_in}
use Rattle.rdo_select.specs.Chosen.{tests_alone}

-- A relation of a selection: the variables outside and those of the ranges before it, and the tests that the selection's condition joins by AND.
pub record Chosen : Type 0 where
  pub range : BoundRange
  pub before : List Range
  pub tests : Conjunction

abbrev pub chosen_from : List BoundRange → List Range → Conjunction → List Chosen
chosen_from [] vs tests = []
chosen_from (s ∷ ss) vs tests = record { range = s; before = vs; tests = tests } ∷ chosen_from ss (vs ++ s.range ∷ []) tests

-- those of a form, where the variables outside are vs
abbrev mutual
  pub chosen_in : Expression → List Range → List Chosen
  chosen_in (number n scale) vs = []
  chosen_in (text s) vs = []
  chosen_in (field r) vs = []
  chosen_in (negative e) vs = chosen_in e vs
  chosen_in (chain e os) vs = chosen_in e vs ++ chosen_in_operations os vs
  chosen_in (count r) vs = chosen_in_ranging r vs
  chosen_in (statistic s e r) vs = chosen_in e (vs ++ ranges_in r) ++ chosen_in_ranging r vs
  chosen_in (known e v) vs = chosen_in e vs

  pub chosen_in_operations : Operations → List Range → List Chosen
  chosen_in_operations no_operation vs = []
  chosen_in_operations (operation op e os) vs = chosen_in e vs ++ chosen_in_operations os vs

  pub chosen_in_test : Testing → List Range → List Chosen
  chosen_in_test (compare op a b) vs = chosen_in a vs ++ chosen_in b vs
  chosen_in_test (between a low high) vs = chosen_in a vs ++ (chosen_in low vs ++ chosen_in high vs)
  chosen_in_test (containing a b) vs = chosen_in a vs ++ chosen_in b vs
  chosen_in_test (starting_with a b) vs = chosen_in a vs ++ chosen_in b vs
  chosen_in_test (missing e) vs = chosen_in e vs
  chosen_in_test (any r) vs = chosen_in_ranging r vs
  chosen_in_test (negated c) vs = chosen_in_test c vs
  chosen_in_test (group c) vs = chosen_in_condition c vs
  chosen_in_test (decided c v) vs = chosen_in_test c vs

  pub chosen_in_tests : Conjunction → List Range → List Chosen
  chosen_in_tests no_test vs = []
  chosen_in_tests (test c cs) vs = chosen_in_test c vs ++ chosen_in_tests cs vs

  pub chosen_in_condition : Condition → List Range → List Chosen
  chosen_in_condition no_conjunction vs = []
  chosen_in_condition (conjunction c cs) vs = chosen_in_tests c vs ++ chosen_in_condition cs vs

  pub chosen_in_ranging : Ranging → List Range → List Chosen
  chosen_in_ranging (ranging first ss without_condition) vs = chosen_from ss vs no_test
  chosen_in_ranging (ranging first ss (with_condition c)) vs = chosen_from ss vs (tests_alone c) ++ chosen_in_condition c (vs ++ map (λ s. s.range) ss)
