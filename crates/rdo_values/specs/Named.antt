-- The tree as it was written: a bound form without its places, and a statistic or an ANY in the place of what is known of it.
use Rattle.std.specs.Prelude.{map}
use Rattle.rdo_ast.specs.Tree as tree
use Rattle.rdo_values.specs.Tree.{Expression, number, text, field, negative, chain, count, statistic, known, Operations, no_operation, operation, Testing, compare, between, containing, starting_with, missing, any, negated, group, decided, Conjunction, no_test, test, Condition, no_conjunction, conjunction, Ranging, ranging, With, without_condition, with_condition}

abbrev mutual
  pub named : Expression → tree.Expression
  named (number n scale) = tree.number n scale
  named (text s) = tree.text s
  named (field r) = tree.field r.reference
  named (negative e) = tree.negative (named e)
  named (chain e os) = tree.chain (named e) (named_operations os)
  named (count r) = tree.count (named_ranging r)
  named (statistic s e r) = tree.statistic s (named e) (named_ranging r)
  named (known e v) = named e

  pub named_operations : Operations → tree.Operations
  named_operations no_operation = tree.no_operation
  named_operations (operation op e os) = tree.operation op (named e) (named_operations os)

  pub named_testing : Testing → tree.Testing
  named_testing (compare op a b) = tree.compare op (named a) (named b)
  named_testing (between a low high) = tree.between (named a) (named low) (named high)
  named_testing (containing a b) = tree.containing (named a) (named b)
  named_testing (starting_with a b) = tree.starting_with (named a) (named b)
  named_testing (missing e) = tree.missing (named e)
  named_testing (any r) = tree.any (named_ranging r)
  named_testing (negated c) = tree.negated (named_testing c)
  named_testing (group c) = tree.group (named_condition c)
  named_testing (decided c v) = named_testing c

  pub named_conjunction : Conjunction → tree.Conjunction
  named_conjunction no_test = tree.no_test
  named_conjunction (test c cs) = tree.test (named_testing c) (named_conjunction cs)

  pub named_condition : Condition → tree.Condition
  named_condition no_conjunction = tree.no_conjunction
  named_condition (conjunction c cs) = tree.conjunction (named_conjunction c) (named_condition cs)

  pub named_with : With → tree.With
  named_with without_condition = tree.without_condition
  named_with (with_condition c) = tree.with_condition (named_condition c)

  pub named_ranging : Ranging → tree.Ranging
  named_ranging (ranging first ss c) = tree.ranging first (map (λ s. s.range) ss) (named_with c)
