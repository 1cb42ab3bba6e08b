use Rattle.std.proofs.Common.{◌≡◌, drop}
use Rattle.rdo_select.proofs.Asks.{tests_asked, conjunctions_asked}
use Rattle.rdo_select.proofs.asking.+conditions.Given as goal

abbrev pub invariant-tests_ask-loop-test : goal.invariant-tests_ask-loop-test
invariant-tests_ask-loop-test l = tests_asked l.tests ≡ tests_asked (drop l.test-index l.tests)

abbrev pub invariant-conjunctions_ask-loop-conjunction : goal.invariant-conjunctions_ask-loop-conjunction
invariant-conjunctions_ask-loop-conjunction l = conjunctions_asked l.conjunctions ≡ conjunctions_asked (drop l.conjunction-index l.conjunctions)
