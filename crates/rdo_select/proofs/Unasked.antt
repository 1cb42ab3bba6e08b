-- A form that asks no other selection is settled, and nothing in it is to be known.
use Rattle.std.proofs.Common.{◌≡◌, Bool, true, false, ◌||◌}
use Rattle.rdb_meaning.specs.declared.tables.Tables.{Tables}
use Rattle.rdb_meaning.specs.Evaluation.{Scope}
use Rattle.rdo_values.specs.Tree.{Expression, number, text, field, negative, chain, count, statistic, known, Operations, no_operation, operation, Testing, compare, between, containing, starting_with, missing, any, negated, group, decided, Conjunction, no_test, test, Condition, no_conjunction, conjunction}
use Rattle.rdo_values.specs.Known.{IsKnown, AreKnown, IsKnownTesting, IsKnownConjunction, IsKnownCondition, IsSettled, AreSettled, IsSettledTesting, IsSettledConjunction, IsSettledCondition}
use Rattle.rdo_select.specs.Asking.{asks, operations_ask, test_asks, tests_ask, condition_asks}

neither : (a b : Bool) → (a || b) ≡ false → (a ≡ false) × (b ≡ false)
neither true b h = absurd (cc)
neither false b h = (cc, h)

none_of : (a b c : Bool) → (a || b || c) ≡ false → (a ≡ false) × (b ≡ false) × (c ≡ false)
none_of true b c h = absurd (cc)
none_of false b c h = let p = neither b c h in (cc, p.0, p.1)

-- ---- settled

mutual
  value_settled : (e : Expression) → asks e ≡ false → IsSettled e
  value_settled (number n scale) h = tt
  value_settled (text s) h = tt
  value_settled (field r) h = tt
  value_settled (negative e) h = value_settled e h
  value_settled (chain e os) h = let p = neither (asks e) (operations_ask os) h in (value_settled e p.0, values_settled os p.1)
  value_settled (count r) h = absurd (cc)
  value_settled (statistic s e r) h = absurd (cc)
  value_settled (known e v) h = tt

  values_settled : (os : Operations) → operations_ask os ≡ false → AreSettled os
  values_settled no_operation h = tt
  values_settled (operation op e os) h = let p = neither (asks e) (operations_ask os) h in (value_settled e p.0, values_settled os p.1)

mutual
  pub test_settled : (c : Testing) → test_asks c ≡ false → IsSettledTesting c
  test_settled (compare op a b) h = let p = neither (asks a) (asks b) h in (value_settled a p.0, value_settled b p.1)
  test_settled (between a low high) h = let p = none_of (asks a) (asks low) (asks high) h in (value_settled a p.0, value_settled low p.1, value_settled high p.2)
  test_settled (containing a b) h = let p = neither (asks a) (asks b) h in (value_settled a p.0, value_settled b p.1)
  test_settled (starting_with a b) h = let p = neither (asks a) (asks b) h in (value_settled a p.0, value_settled b p.1)
  test_settled (missing e) h = value_settled e h
  test_settled (any r) h = absurd (cc)
  test_settled (negated c) h = test_settled c h
  test_settled (group c) h = unasked_settled c h
  test_settled (decided c v) h = tt

  tests_settled : (c : Conjunction) → tests_ask c ≡ false → IsSettledConjunction c
  tests_settled no_test h = tt
  tests_settled (test c cs) h = let p = neither (test_asks c) (tests_ask cs) h in (test_settled c p.0, tests_settled cs p.1)

  pub unasked_settled : (c : Condition) → condition_asks c ≡ false → IsSettledCondition c
  unasked_settled no_conjunction h = tt
  unasked_settled (conjunction c cs) h = let p = neither (tests_ask c) (condition_asks cs) h in (tests_settled c p.0, unasked_settled cs p.1)

-- ---- nothing to be known

module _ (t : Tables) (scope : Scope) where
  mutual
    value_known : (e : Expression) → asks e ≡ false → IsKnown e t scope
    value_known (number n scale) h = tt
    value_known (text s) h = tt
    value_known (field r) h = tt
    value_known (negative e) h = value_known e h
    value_known (chain e os) h = let p = neither (asks e) (operations_ask os) h in (value_known e p.0, values_known os p.1)
    value_known (count r) h = tt
    value_known (statistic s e r) h = tt
    value_known (known e v) h = absurd (cc)

    values_known : (os : Operations) → operations_ask os ≡ false → AreKnown os t scope
    values_known no_operation h = tt
    values_known (operation op e os) h = let p = neither (asks e) (operations_ask os) h in (value_known e p.0, values_known os p.1)

  mutual
    pub test_known : (c : Testing) → test_asks c ≡ false → IsKnownTesting c t scope
    test_known (compare op a b) h = let p = neither (asks a) (asks b) h in (value_known a p.0, value_known b p.1)
    test_known (between a low high) h = let p = none_of (asks a) (asks low) (asks high) h in (value_known a p.0, value_known low p.1, value_known high p.2)
    test_known (containing a b) h = let p = neither (asks a) (asks b) h in (value_known a p.0, value_known b p.1)
    test_known (starting_with a b) h = let p = neither (asks a) (asks b) h in (value_known a p.0, value_known b p.1)
    test_known (missing e) h = value_known e h
    test_known (any r) h = tt
    test_known (negated c) h = test_known c h
    test_known (group c) h = unasked_known c h
    test_known (decided c v) h = absurd (cc)

    tests_known : (c : Conjunction) → tests_ask c ≡ false → IsKnownConjunction c t scope
    tests_known no_test h = tt
    tests_known (test c cs) h = let p = neither (test_asks c) (tests_ask cs) h in (test_known c p.0, tests_known cs p.1)

    pub unasked_known : (c : Condition) → condition_asks c ≡ false → IsKnownCondition c t scope
    unasked_known no_conjunction h = tt
    unasked_known (conjunction c cs) h = let p = neither (tests_ask c) (condition_asks cs) h in (tests_known c p.0, unasked_known cs p.1)
