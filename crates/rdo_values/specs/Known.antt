-- What is put in the place of statistics and of ANY.
use Rattle.std.specs.Prelude.{◌≡◌}
use Rattle.rdb_meaning.specs.declared.tables.Tables.{Tables}
use Rattle.rdb_meaning.specs.Numbers.{Computed, is, overflow, absent, numeral, letters}
use Rattle.rdb_meaning.specs.Comparison.{Weighed, holds, fails, overflows}
use Rattle.rdb_meaning.specs.Evaluation.{Scope, computed, tested}
use Rattle.rdo_values.specs.declared.bound.KnownValue.{KnownValue}
use Rattle.rdo_values.specs.declared.bound.KnownValue.TheVariants as known_value
use Rattle.rdo_values.specs.declared.bound.KnownTruth.{KnownTruth}
use Rattle.rdo_values.specs.declared.bound.KnownTruth.TheVariants as known_truth
use Rattle.rdo_values.specs.Tree.{Expression, number, text, field, negative, chain, count, statistic, known, Operations, no_operation, operation, Testing, compare, between, containing, starting_with, missing, any, negated, group, decided, Conjunction, no_test, test, Condition, no_conjunction, conjunction}
use Rattle.rdo_values.specs.Named.{named, named_testing}

abbrev pub value_known : KnownValue → Computed
value_known known_value.Missing = is absent
value_known (known_value.Number n scale) = is (numeral n scale)
value_known (known_value.Text s) = is (letters s)
value_known known_value.Overflow = overflow

abbrev pub truth_known : KnownTruth → Weighed
truth_known known_truth.True = holds
truth_known known_truth.False = fails
truth_known known_truth.Overflow = overflows

-- what is put in the place of a statistic or of an ANY is what it gives in this scope
abbrev mutual
  pub IsKnown : Expression → Tables → Scope → Type 0
  IsKnown (negative e) t scope = IsKnown e t scope
  IsKnown (chain e os) t scope = IsKnown e t scope × AreKnown os t scope
  IsKnown (known e v) t scope = computed (named e) t scope ≡ value_known v
  IsKnown _ t scope = Unit {0}

  pub AreKnown : Operations → Tables → Scope → Type 0
  AreKnown no_operation t scope = Unit {0}
  AreKnown (operation op e os) t scope = IsKnown e t scope × AreKnown os t scope

  pub IsKnownTesting : Testing → Tables → Scope → Type 0
  IsKnownTesting (compare op a b) t scope = IsKnown a t scope × IsKnown b t scope
  IsKnownTesting (between a low high) t scope = IsKnown a t scope × IsKnown low t scope × IsKnown high t scope
  IsKnownTesting (containing a b) t scope = IsKnown a t scope × IsKnown b t scope
  IsKnownTesting (starting_with a b) t scope = IsKnown a t scope × IsKnown b t scope
  IsKnownTesting (missing e) t scope = IsKnown e t scope
  IsKnownTesting (any r) t scope = Unit {0}
  IsKnownTesting (negated c) t scope = IsKnownTesting c t scope
  IsKnownTesting (group c) t scope = IsKnownCondition c t scope
  IsKnownTesting (decided c v) t scope = tested (named_testing c) t scope ≡ truth_known v

  pub IsKnownConjunction : Conjunction → Tables → Scope → Type 0
  IsKnownConjunction no_test t scope = Unit {0}
  IsKnownConjunction (test c cs) t scope = IsKnownTesting c t scope × IsKnownConjunction cs t scope

  pub IsKnownCondition : Condition → Tables → Scope → Type 0
  IsKnownCondition no_conjunction t scope = Unit {0}
  IsKnownCondition (conjunction c cs) t scope = IsKnownConjunction c t scope × IsKnownCondition cs t scope

-- no statistic and no ANY is left, other than known ones
abbrev mutual
  pub IsSettled : Expression → Type 0
  IsSettled (number n scale) = Unit {0}
  IsSettled (text s) = Unit {0}
  IsSettled (field r) = Unit {0}
  IsSettled (negative e) = IsSettled e
  IsSettled (chain e os) = IsSettled e × AreSettled os
  IsSettled (count r) = ⊥
  IsSettled (statistic s e r) = ⊥
  IsSettled (known e v) = Unit {0}

  pub AreSettled : Operations → Type 0
  AreSettled no_operation = Unit {0}
  AreSettled (operation op e os) = IsSettled e × AreSettled os

  pub IsSettledTesting : Testing → Type 0
  IsSettledTesting (compare op a b) = IsSettled a × IsSettled b
  IsSettledTesting (between a low high) = IsSettled a × IsSettled low × IsSettled high
  IsSettledTesting (containing a b) = IsSettled a × IsSettled b
  IsSettledTesting (starting_with a b) = IsSettled a × IsSettled b
  IsSettledTesting (missing e) = IsSettled e
  IsSettledTesting (any r) = ⊥
  IsSettledTesting (negated c) = IsSettledTesting c
  IsSettledTesting (group c) = IsSettledCondition c
  IsSettledTesting (decided c v) = Unit {0}

  pub IsSettledConjunction : Conjunction → Type 0
  IsSettledConjunction no_test = Unit {0}
  IsSettledConjunction (test c cs) = IsSettledTesting c × IsSettledConjunction cs

  pub IsSettledCondition : Condition → Type 0
  IsSettledCondition no_conjunction = Unit {0}
  IsSettledCondition (conjunction c cs) = IsSettledConjunction c × IsSettledCondition cs
