-- The trees of the values that are built for trees are those trees.
use Rattle.std.proofs.Common.{◌≡◌, ℕ, ℤ, List, [], ◌∷◌, map, Option, refl, ap, ◌∙◌, rules}
use Rattle.rdo_ast.specs.declared.syntax.Expression as declared
use Rattle.rdo_ast.specs.declared.syntax.Action as declared_action
use Rattle.rdo_ast.specs.declared.syntax.Reference.{Reference}
use Rattle.rdo_ast.specs.declared.syntax.Range.{Range}
use Rattle.rdo_ast.specs.declared.syntax.Comparison.{Comparison}
use Rattle.rdo_ast.specs.declared.syntax.Arithmetic.{Arithmetic}
use Rattle.rdo_ast.specs.declared.syntax.Statistic.{Statistic}
use Rattle.rdo_ast.specs.declared.syntax.Clause.{Clause}
use Rattle.rdo_ast.specs.Tree.{Expression, number, text, field, negative, chain, count, statistic, Operations, no_operation, operation, Testing, compare, between, containing, starting_with, missing, any, negated, group, Conjunction, no_test, test, Condition, no_conjunction, conjunction, Ranging, ranging, With, without_condition, with_condition, Assignment, Shown, value, all_fields, Act, store, for_each, print, modify, erase, Acts, no_act, act, Command, invoke, start_read_only, start_read_write, commit, rollback, finish, back_up, perform, define_field, define_relation, define_index, delete_relation, delete_index}
use Rattle.rdo_ast.specs.Views.{expression_of, operations_of, applied_of, testing_of, conjunction_of, condition_of, conjunction_with, condition_with, ranging_of, assignment_of, shown_of, act_of, acts_of, command_of}
use Rattle.rdo_printer.proofs.Built.{built, built_operations, built_test, built_tests, built_condition, built_conjunctions, built_inner, built_assign, built_shown, built_action, built_actions, built_command}

-- ---- one level

number_step : (n : ℤ) (scale : ℕ) → expression_of (built (number n scale)) ≡ number n scale
number_step n scale = search (rules, declared.the_lemmas)

text_step : (z : List ℕ) → expression_of (built (text z)) ≡ text z
text_step z = search (rules, declared.the_lemmas)

field_step : (r : Reference) → expression_of (built (field r)) ≡ field r
field_step r = search (rules, declared.the_lemmas)

negative_step : (x : Expression) → expression_of (built (negative x)) ≡ negative (expression_of (built x))
negative_step x = search (rules, declared.the_lemmas)

chain_step : (x : Expression) (os : Operations) → expression_of (built (chain x os)) ≡ chain (expression_of (built x)) (operations_of (map applied_of (built_operations os)))
chain_step x os = search (rules, declared.the_lemmas)

count_step : (r : Ranging) → expression_of (built (count r)) ≡ count (ranging_of (built_inner r))
count_step r = search (rules, declared.the_lemmas)

statistic_step : (s : Statistic) (x : Expression) (r : Ranging) → expression_of (built (statistic s x r)) ≡ statistic s (expression_of (built x)) (ranging_of (built_inner r))
statistic_step s x r = search (rules, declared.the_lemmas)

operation_step : (o : Arithmetic) (x : Expression) (os : Operations) →
    operations_of (map applied_of (built_operations (operation o x os))) ≡ operation o (expression_of (built x)) (operations_of (map applied_of (built_operations os)))
operation_step o x os = search (rules, declared.the_lemmas)

compare_step : (o : Comparison) (a b : Expression) → testing_of (built_test (compare o a b)) ≡ compare o (expression_of (built a)) (expression_of (built b))
compare_step o a b = search (rules, declared.the_lemmas)

between_step : (a b c : Expression) → testing_of (built_test (between a b c)) ≡ between (expression_of (built a)) (expression_of (built b)) (expression_of (built c))
between_step a b c = search (rules, declared.the_lemmas)

containing_step : (a b : Expression) → testing_of (built_test (containing a b)) ≡ containing (expression_of (built a)) (expression_of (built b))
containing_step a b = search (rules, declared.the_lemmas)

starting_step : (a b : Expression) → testing_of (built_test (starting_with a b)) ≡ starting_with (expression_of (built a)) (expression_of (built b))
starting_step a b = search (rules, declared.the_lemmas)

missing_step : (a : Expression) → testing_of (built_test (missing a)) ≡ missing (expression_of (built a))
missing_step a = search (rules, declared.the_lemmas)

any_step : (r : Ranging) → testing_of (built_test (any r)) ≡ any (ranging_of (built_inner r))
any_step r = search (rules, declared.the_lemmas)

negated_step : (t : Testing) → testing_of (built_test (negated t)) ≡ negated (testing_of (built_test t))
negated_step t = search (rules, declared.the_lemmas)

group_step : (c : Condition) → testing_of (built_test (group c)) ≡ group (condition_of (built_condition c))
group_step c = search (rules, declared.the_lemmas)

tests_step : (t : Testing) (ts : Conjunction) → conjunction_with (map testing_of (built_tests (test t ts))) ≡ test (testing_of (built_test t)) (conjunction_with (map testing_of (built_tests ts)))
tests_step t ts = refl

conjunctions_step : (c : Conjunction) (cs : Condition) →
    condition_with (map conjunction_of (built_conjunctions (conjunction c cs))) ≡ conjunction (conjunction_with (map testing_of (built_tests c))) (condition_with (map conjunction_of (built_conjunctions cs)))
conjunctions_step c cs = search (rules, declared.the_lemmas)

no_condition_step : condition_of (built_condition no_conjunction) ≡ no_conjunction
no_condition_step = search (rules, declared.the_lemmas)

condition_step : (c : Conjunction) (cs : Condition) →
    condition_of (built_condition (conjunction c cs)) ≡ conjunction (conjunction_with (map testing_of (built_tests c))) (condition_with (map conjunction_of (built_conjunctions cs)))
condition_step c cs = search (rules, declared.the_lemmas)

without_step : (n : Option ℕ) (rs : List Range) → ranging_of (built_inner (ranging n rs without_condition)) ≡ ranging n rs without_condition
without_step n rs = search (rules, declared.the_lemmas)

with_step : (n : Option ℕ) (rs : List Range) (c : Condition) → ranging_of (built_inner (ranging n rs (with_condition c))) ≡ ranging n rs (with_condition (condition_of (built_condition c)))
with_step n rs c = search (rules, declared.the_lemmas)

-- ---- whole trees

mutual
  pub viewed : (x : Expression) → expression_of (built x) ≡ x
  viewed (number n scale) = number_step n scale
  viewed (text z) = text_step z
  viewed (field r) = field_step r
  viewed (negative x) = negative_step x ∙ ap negative (viewed x)
  viewed (chain x os) = chain_step x os ∙ rw (viewed x) (rw (viewed_operations os) refl)
  viewed (count r) = count_step r ∙ ap count (viewed_ranging r)
  viewed (statistic s x r) = statistic_step s x r ∙ rw (viewed x) (rw (viewed_ranging r) refl)

  viewed_operations : (os : Operations) → operations_of (map applied_of (built_operations os)) ≡ os
  viewed_operations no_operation = refl
  viewed_operations (operation o x os) = operation_step o x os ∙ rw (viewed x) (rw (viewed_operations os) refl)

  viewed_test : (t : Testing) → testing_of (built_test t) ≡ t
  viewed_test (compare o a b) = compare_step o a b ∙ rw (viewed a) (rw (viewed b) refl)
  viewed_test (between a b c) = between_step a b c ∙ rw (viewed a) (rw (viewed b) (rw (viewed c) refl))
  viewed_test (containing a b) = containing_step a b ∙ rw (viewed a) (rw (viewed b) refl)
  viewed_test (starting_with a b) = starting_step a b ∙ rw (viewed a) (rw (viewed b) refl)
  viewed_test (missing a) = missing_step a ∙ ap missing (viewed a)
  viewed_test (any r) = any_step r ∙ ap any (viewed_ranging r)
  viewed_test (negated t) = negated_step t ∙ ap negated (viewed_test t)
  viewed_test (group c) = group_step c ∙ ap group (viewed_condition c)

  viewed_tests : (ts : Conjunction) → conjunction_with (map testing_of (built_tests ts)) ≡ ts
  viewed_tests no_test = refl
  viewed_tests (test t ts) = rw (viewed_test t) (rw (viewed_tests ts) refl)

  viewed_conjunctions : (cs : Condition) → condition_with (map conjunction_of (built_conjunctions cs)) ≡ cs
  viewed_conjunctions no_conjunction = refl
  viewed_conjunctions (conjunction c cs) = conjunctions_step c cs ∙ rw (viewed_tests c) (rw (viewed_conjunctions cs) refl)

  viewed_condition : (c : Condition) → condition_of (built_condition c) ≡ c
  viewed_condition no_conjunction = no_condition_step
  viewed_condition (conjunction c cs) = condition_step c cs ∙ rw (viewed_tests c) (rw (viewed_conjunctions cs) refl)

  pub viewed_ranging : (r : Ranging) → ranging_of (built_inner r) ≡ r
  viewed_ranging (ranging n rs w) = viewed_with w n rs

  viewed_with : (w : With) (n : Option ℕ) (rs : List Range) → ranging_of (built_inner (ranging n rs w)) ≡ ranging n rs w
  viewed_with without_condition n rs = without_step n rs
  viewed_with (with_condition c) n rs = with_step n rs c ∙ ap (λ d. ranging n rs (with_condition d)) (viewed_condition c)

-- ---- actions

viewed_assigns : (xs : List Assignment) → map assignment_of (map built_assign xs) ≡ xs
viewed_assigns [] = refl
viewed_assigns (x ∷ xs) = rw (viewed x.right) (rw (viewed_assigns xs) refl)

viewed_shown : (x : Shown) → shown_of (built_shown x) ≡ x
viewed_shown (value x) = ap value (viewed x)
viewed_shown (all_fields n) = refl

viewed_list : (xs : List Shown) → map shown_of (map built_shown xs) ≡ xs
viewed_list [] = refl
viewed_list (x ∷ xs) = rw (viewed_shown x) (rw (viewed_list xs) refl)

store_step : (into : Range) (xs : List Assignment) → act_of (built_action (store into xs)) ≡ store into (map assignment_of (map built_assign xs))
store_step into xs = search (rules, declared_action.the_lemmas)

for_step : (over : Ranging) (cs : List Clause) (body : Acts) → act_of (built_action (for_each over cs body)) ≡ for_each (ranging_of (built_inner over)) cs (acts_of (map act_of (built_actions body)))
for_step over cs body = search (rules, declared_action.the_lemmas)

print_step : (items : List Shown) → act_of (built_action (print items)) ≡ print (map shown_of (map built_shown items))
print_step items = search (rules, declared_action.the_lemmas)

modify_step : (n : List ℕ) (xs : List Assignment) → act_of (built_action (modify n xs)) ≡ modify n (map assignment_of (map built_assign xs))
modify_step n xs = search (rules, declared_action.the_lemmas)

erase_step : (n : List ℕ) → act_of (built_action (erase n)) ≡ erase n
erase_step n = search (rules, declared_action.the_lemmas)

mutual
  pub viewed_action : (x : Act) → act_of (built_action x) ≡ x
  viewed_action (store into xs) = store_step into xs ∙ ap (store into) (viewed_assigns xs)
  viewed_action (for_each over cs body) = for_step over cs body ∙ rw (viewed_ranging over) (rw (viewed_actions body) refl)
  viewed_action (print items) = print_step items ∙ ap print (viewed_list items)
  viewed_action (modify n xs) = modify_step n xs ∙ ap (modify n) (viewed_assigns xs)
  viewed_action (erase n) = erase_step n

  viewed_actions : (xs : Acts) → acts_of (map act_of (built_actions xs)) ≡ xs
  viewed_actions no_act = refl
  viewed_actions (act x xs) = rw (viewed_action x) (rw (viewed_actions xs) refl)

-- ---- statements

pub viewed_command : (c : Command) → command_of (built_command c) ≡ c
viewed_command (invoke file) = refl
viewed_command start_read_only = refl
viewed_command (start_read_write waits reserved) = refl
viewed_command commit = refl
viewed_command rollback = refl
viewed_command finish = refl
viewed_command (back_up n) = refl
viewed_command (perform x) = ap perform (viewed_action x)
viewed_command (define_field n t) = refl
viewed_command (define_relation n fields) = refl
viewed_command (define_index d) = refl
viewed_command (delete_relation n) = refl
viewed_command (delete_index n) = refl
