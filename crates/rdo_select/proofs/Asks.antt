-- One step of the loops that look for what asks another selection.
use Rattle.std.proofs.Common.{◌≡◌, ℕ, ◌+◌, ◌<◌, Bool, ◌||◌, List, ◌∷◌, map, length, get_or, drop, refl, ap, sym, ◌∙◌, rules}
use Rattle.std.proofs.lemmas.List.{at_drop_more}
use Rattle.rdo_values.specs.declared.bound.BoundExpression as tree
use Rattle.rdo_values.specs.declared.bound.BoundOperation.{BoundOperation}
use Rattle.rdo_values.specs.declared.bound.BoundTest.{BoundTest}
use Rattle.rdo_values.specs.declared.bound.BoundConjunction.{BoundConjunction}
use Rattle.rdo_values.specs.Views.{expression_of, operations_of, applied_of, testing_of, conjunction_of, conjunction_with, condition_with}
use Rattle.rdo_select.specs.Asking.{asks, operations_ask, test_asks, tests_ask, condition_asks}

abbrev pub operations_asked : List BoundOperation → Bool
operations_asked os = operations_ask (operations_of (map applied_of os))

abbrev pub tests_asked : List BoundTest → Bool
tests_asked ts = tests_ask (conjunction_with (map testing_of ts))

abbrev pub conjunctions_asked : List BoundConjunction → Bool
conjunctions_asked cs = condition_asks (condition_with (map conjunction_of cs))

operation_first : (o : BoundOperation) (os : List BoundOperation) → operations_asked (o ∷ os) ≡ (asks (expression_of o.operand) || operations_asked os)
operation_first o os = search (rules, tree.the_lemmas)

conjunction_first : (c : BoundConjunction) (cs : List BoundConjunction) → conjunctions_asked (c ∷ cs) ≡ (tests_asked c.tests || conjunctions_asked cs)
conjunction_first c cs = search (rules, tree.the_lemmas)

-- what the first of those that are left says, and the others
pub step : {X : Type 0} (F : List X → Bool) (first : X → Bool) → ((x : X) (xs : List X) → F (x ∷ xs) ≡ (first x || F xs)) → (xs : List X) (i : ℕ) (x : X) (b : Bool) → i < length xs → x ≡ get_or xs i x → F xs ≡ F (drop i xs) → b ≡ first x → F xs ≡ (b || F (drop (i + 1) xs))
step F first law xs i x b h e inv is =
    inv ∙ at_drop_more F xs i x h ∙ ap (λ y. F (y ∷ drop (i + 1) xs)) (sym e) ∙ law x (drop (i + 1) xs) ∙ ap (λ b. b || F (drop (i + 1) xs)) (sym is)

pub operations_step : (os : List BoundOperation) (i : ℕ) (o : BoundOperation) (b : Bool) → i < length os → o ≡ get_or os i o → operations_asked os ≡ operations_asked (drop i os) → b ≡ asks (expression_of o.operand) → operations_asked os ≡ (b || operations_asked (drop (i + 1) os))
operations_step = step operations_asked (λ o. asks (expression_of o.operand)) operation_first

pub tests_step : (ts : List BoundTest) (i : ℕ) (x : BoundTest) (b : Bool) → i < length ts → x ≡ get_or ts i x → tests_asked ts ≡ tests_asked (drop i ts) → b ≡ test_asks (testing_of x) → tests_asked ts ≡ (b || tests_asked (drop (i + 1) ts))
tests_step = step tests_asked (λ x. test_asks (testing_of x)) (λ x xs. refl)

pub conjunctions_step : (cs : List BoundConjunction) (i : ℕ) (c : BoundConjunction) (b : Bool) → i < length cs → c ≡ get_or cs i c → conjunctions_asked cs ≡ conjunctions_asked (drop i cs) → b ≡ tests_asked c.tests → conjunctions_asked cs ≡ (b || conjunctions_asked (drop (i + 1) cs))
conjunctions_step = step conjunctions_asked (λ c. tests_asked c.tests) conjunction_first
