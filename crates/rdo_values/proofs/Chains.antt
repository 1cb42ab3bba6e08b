-- One step of the loops over chains of operations, over tests and over conjunctions.
use Rattle.std.proofs.Common.{◌≡◌, ℕ, ◌+◌, ◌<◌, ◌≤◌, Bool, true, false, List, [], ◌∷◌, map, length, get_or, drop, refl, ap, sym, ◌∙◌, subst, rules, arith, zero, suc}
use Rattle.rdb_types.specs.declared.values.Scaled.{Scaled}
use Rattle.rdb_meaning.specs.Numbers.{Computed, is, overflow, arithmetic}
use Rattle.rdb_meaning.specs.Comparison.{Weighed, holds, overflows, and_of, or_of, Verdict, chosen, passed_over, undecided, both_parts, verdict_of}
use Rattle.rdb_meaning.specs.Contents.{Row}
use Rattle.rdo_arithmetic.proofs.Connectives.{and_of_assoc, or_of_assoc, or_of-overflows, both_parts_assoc, so_far, both_parts-chosen_right, so_far-undecided}
use Rattle.rdo_arithmetic.proofs.Items.{at_item}
use Rattle.rdo_values.specs.declared.bound.BoundExpression as tree
use Rattle.rdo_values.specs.declared.bound.BoundOperation.{BoundOperation}
use Rattle.rdo_values.specs.declared.bound.BoundConjunction.{BoundConjunction}
use Rattle.rdo_values.specs.declared.bound.BoundTest.{BoundTest}
use Rattle.rdo_values.specs.Tree.{Operations, no_operation, operation}
use Rattle.rdo_values.specs.Views.{operations_of, applied_of, expression_of, testing_of, conjunction_of, conjunction_with, condition_with}
use Rattle.rdo_values.specs.Known.{IsSettled, AreSettled, IsSettledTesting, IsSettledConjunction, IsSettledCondition}
use Rattle.rdo_values.specs.Filled.{value_at, value_after, truth_at, all_at, some_at, parts_at, verdict_at}

-- ---- chains of operations

pub overflow_stays : (rows : Row) (os : Operations) → value_after rows overflow os ≡ overflow
overflow_stays rows no_operation = refl
overflow_stays rows (operation op e os) = overflow_stays rows os

abbrev pub chained : Row → Computed → List BoundOperation → Computed
chained rows v os = value_after rows v (operations_of (map applied_of os))

chained_first : (rows : Row) (v : Computed) (o : BoundOperation) (os : List BoundOperation) → chained rows v (o ∷ os) ≡ chained rows (arithmetic o.operator v (value_at rows (expression_of o.operand))) os
chained_first rows v o os = search (rules, tree.the_lemmas)

chained_step : (rows : Row) (os : List BoundOperation) (i : ℕ) (o : BoundOperation) (total v w z : Computed) → i < length os → o ≡ get_or os i o → total ≡ chained rows v (drop i os) → value_at rows (expression_of o.operand) ≡ w → arithmetic o.operator v w ≡ z → total ≡ chained rows z (drop (i + 1) os)
chained_step rows os i o total v w z h e inv c d =
    inv ∙ at_item (chained rows v) os i o h e ∙ chained_first rows v o (drop (i + 1) os)
    ∙ ap (λ w. chained rows (arithmetic o.operator v w) (drop (i + 1) os)) c ∙ ap (λ z. chained rows z (drop (i + 1) os)) d

pub chained_more : (rows : Row) (os : List BoundOperation) (i : ℕ) (o : BoundOperation) (total v : Computed) (a b : Scaled) → i < length os → o ≡ get_or os i o → total ≡ chained rows v (drop i os) → value_at rows (expression_of o.operand) ≡ is a → arithmetic o.operator v (is a) ≡ is b → total ≡ chained rows (is b) (drop (i + 1) os)
chained_more rows os i o total v a b = chained_step rows os i o total v (is a) (is b)

-- an operand overflows
pub chained_operand : (rows : Row) (os : List BoundOperation) (i : ℕ) (o : BoundOperation) (total : Computed) (v : Scaled) → i < length os → o ≡ get_or os i o → total ≡ chained rows (is v) (drop i os) → value_at rows (expression_of o.operand) ≡ overflow → total ≡ overflow
chained_operand rows os i o total v h e inv c = chained_step rows os i o total (is v) overflow overflow h e inv c refl ∙ overflow_stays rows (operations_of (map applied_of (drop (i + 1) os)))

-- an operation overflows
pub chained_overflow : (rows : Row) (os : List BoundOperation) (i : ℕ) (o : BoundOperation) (total v : Computed) (a : Scaled) → i < length os → o ≡ get_or os i o → total ≡ chained rows v (drop i os) → value_at rows (expression_of o.operand) ≡ is a → arithmetic o.operator v (is a) ≡ overflow → total ≡ overflow
chained_overflow rows os i o total v a h e inv c d = chained_step rows os i o total v (is a) overflow h e inv c d ∙ overflow_stays rows (operations_of (map applied_of (drop (i + 1) os)))

first_settled : (o : BoundOperation) (os : List BoundOperation) → AreSettled (operations_of (map applied_of (o ∷ os))) → IsSettled (expression_of o.operand) × AreSettled (operations_of (map applied_of os))
first_settled o os h = search (rules, tree.the_lemmas)

pub operand_settled : (os : List BoundOperation) (i : ℕ) (o : BoundOperation) → AreSettled (operations_of (map applied_of os)) → i < length os → o ≡ get_or os i o → IsSettled (expression_of o.operand)
operand_settled [] i o h k e = absurd (omega arith)
operand_settled (x ∷ os) zero o h k e = subst (λ x. IsSettled (expression_of x.operand)) (sym e) (first_settled x os h).0
operand_settled (x ∷ os) (suc i) o h k e = operand_settled os i o (first_settled x os h).1 (omega arith) e

-- ---- AND

abbrev pub together : Row → List BoundTest → Weighed
together rows tests = all_at rows (conjunction_with (map testing_of tests))

pub together_more : (rows : Row) (tests : List BoundTest) (i : ℕ) (x : BoundTest) (total a w b : Weighed) → i < length tests → x ≡ get_or tests i x → total ≡ and_of a (together rows (drop i tests)) → truth_at rows (testing_of x) ≡ w → b ≡ and_of a w → total ≡ and_of b (together rows (drop (i + 1) tests))
together_more rows tests i x total a w b h e inv c d =
    inv ∙ at_item (λ ts. and_of a (together rows ts)) tests i x h e ∙ ap (λ w. and_of a (and_of w (together rows (drop (i + 1) tests)))) c ∙ sym (and_of_assoc a w (together rows (drop (i + 1) tests)))
    ∙ ap (λ b. and_of b (together rows (drop (i + 1) tests))) (sym d)

pub test_settled : (tests : List BoundTest) (i : ℕ) (x : BoundTest) → IsSettledConjunction (conjunction_with (map testing_of tests)) → i < length tests → x ≡ get_or tests i x → IsSettledTesting (testing_of x)
test_settled [] i x h k e = absurd (omega arith)
test_settled (y ∷ tests) zero x h k e = subst (λ y. IsSettledTesting (testing_of y)) (sym e) h.0
test_settled (y ∷ tests) (suc i) x h k e = test_settled tests i x h.1 (omega arith) e

-- ---- OR

abbrev pub alternatives : Row → List BoundConjunction → Weighed
alternatives rows cs = some_at rows (condition_with (map conjunction_of cs))

alternatives_first : (rows : Row) (c : BoundConjunction) (cs : List BoundConjunction) → alternatives rows (c ∷ cs) ≡ or_of (together rows c.tests) (alternatives rows cs)
alternatives_first rows c cs = search (rules, tree.the_lemmas)

pub alternatives_more : (rows : Row) (cs : List BoundConjunction) (i : ℕ) (x : BoundConjunction) (total a w b : Weighed) → i < length cs → x ≡ get_or cs i x → total ≡ or_of a (alternatives rows (drop i cs)) → together rows x.tests ≡ w → b ≡ or_of a w → total ≡ or_of b (alternatives rows (drop (i + 1) cs))
alternatives_more rows cs i x total a w b h e inv c d =
    inv ∙ at_item (λ ds. or_of a (alternatives rows ds)) cs i x h e ∙ ap (or_of a) (alternatives_first rows x (drop (i + 1) cs)) ∙ ap (λ w. or_of a (or_of w (alternatives rows (drop (i + 1) cs)))) c ∙ sym (or_of_assoc a w (alternatives rows (drop (i + 1) cs)))
    ∙ ap (λ b. or_of b (alternatives rows (drop (i + 1) cs))) (sym d)

pub alternatives_overflow : (rows : Row) (cs : List BoundConjunction) (i : ℕ) (x : BoundConjunction) (total a : Weighed) → i < length cs → x ≡ get_or cs i x → total ≡ or_of a (alternatives rows (drop i cs)) → together rows x.tests ≡ overflows → total ≡ overflows
alternatives_overflow rows cs i x total a h e inv c = alternatives_more rows cs i x total a overflows overflows h e inv c (sym (or_of-overflows a))

first_conjunction_settled : (c : BoundConjunction) (cs : List BoundConjunction) → IsSettledCondition (condition_with (map conjunction_of (c ∷ cs))) → IsSettledConjunction (conjunction_with (map testing_of c.tests)) × IsSettledCondition (condition_with (map conjunction_of cs))
first_conjunction_settled c cs h = search (rules, tree.the_lemmas)

pub conjunction_settled : (cs : List BoundConjunction) (i : ℕ) (x : BoundConjunction) → IsSettledCondition (condition_with (map conjunction_of cs)) → i < length cs → x ≡ get_or cs i x → IsSettledConjunction (conjunction_with (map testing_of x.tests))
conjunction_settled [] i x h k e = absurd (omega arith)
conjunction_settled (c ∷ cs) zero x h k e = subst (λ c. IsSettledConjunction (conjunction_with (map testing_of c.tests))) (sym e) (first_conjunction_settled c cs h).0
conjunction_settled (c ∷ cs) (suc i) x h k e = conjunction_settled cs i x (first_conjunction_settled c cs h).1 (omega arith) e

-- ---- the parts of a selection's condition

abbrev pub parts : Row → List BoundTest → Verdict
parts rows tests = parts_at rows (conjunction_with (map testing_of tests))

parts_more : (rows : Row) (tests : List BoundTest) (i : ℕ) (x : BoundTest) (total a : Verdict) (w : Weighed) → i < length tests → x ≡ get_or tests i x → total ≡ both_parts a (parts rows (drop i tests)) → truth_at rows (testing_of x) ≡ w → total ≡ both_parts (both_parts a (verdict_of w)) (parts rows (drop (i + 1) tests))
parts_more rows tests i x total a w h e inv c =
    inv ∙ at_item (λ ts. both_parts a (parts rows ts)) tests i x h e ∙ ap (λ w. both_parts a (both_parts (verdict_of w) (parts rows (drop (i + 1) tests)))) c ∙ sym (both_parts_assoc a (verdict_of w) (parts rows (drop (i + 1) tests)))

pub parts_true : (rows : Row) (tests : List BoundTest) (i : ℕ) (x : BoundTest) (total : Verdict) (b d : Bool) → i < length tests → x ≡ get_or tests i x → total ≡ both_parts (so_far b) (parts rows (drop i tests)) → truth_at rows (testing_of x) ≡ holds → d ≡ b → total ≡ both_parts (so_far d) (parts rows (drop (i + 1) tests))
parts_true rows tests i x total b d h e inv c q =
    parts_more rows tests i x total (so_far b) holds h e inv c
    ∙ ap (λ v. both_parts v (parts rows (drop (i + 1) tests))) (both_parts-chosen_right (so_far b) ∙ ap so_far (sym q))

pub parts_overflow : (rows : Row) (tests : List BoundTest) (i : ℕ) (x : BoundTest) (total : Verdict) (b d : Bool) → i < length tests → x ≡ get_or tests i x → total ≡ both_parts (so_far b) (parts rows (drop i tests)) → truth_at rows (testing_of x) ≡ overflows → d ≡ true → total ≡ both_parts (so_far d) (parts rows (drop (i + 1) tests))
parts_overflow rows tests i x total b d h e inv c q =
    parts_more rows tests i x total (so_far b) overflows h e inv c
    ∙ ap (λ v. both_parts v (parts rows (drop (i + 1) tests))) (so_far-undecided b ∙ ap so_far (sym q))

-- ---- a whole condition

alone : (rows : Row) (c : BoundConjunction) → verdict_at rows (condition_with (conjunction_of c ∷ [])) ≡ parts rows c.tests
alone rows c = search (rules, tree.the_lemmas)

pub one_conjunction : (rows : Row) (cs : List BoundConjunction) (c : BoundConjunction) → 1 ≤ length cs → length cs < 2 → c ≡ get_or cs 0 c → verdict_at rows (condition_with (map conjunction_of cs)) ≡ parts rows c.tests
one_conjunction rows [] c h k e = absurd (omega arith)
one_conjunction rows (d ∷ []) c h k e = ap (λ d. verdict_at rows (condition_with (conjunction_of d ∷ []))) (sym e) ∙ alone rows c
one_conjunction rows (d ∷ f ∷ fs) c h k e = absurd (omega arith)

pub several_conjunctions : (rows : Row) (cs : List BoundConjunction) → 2 ≤ length cs → verdict_at rows (condition_with (map conjunction_of cs)) ≡ verdict_of (alternatives rows cs)
several_conjunctions rows [] h = absurd (omega arith)
several_conjunctions rows (c ∷ []) h = absurd (omega arith)
several_conjunctions rows (c ∷ d ∷ ds) h = refl
