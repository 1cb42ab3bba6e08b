-- The first use that isn't reserved, found on the way, is the first refusal in the list of the uses.
use Rattle.std.proofs.Common.{◌≡◌, nat_eq, length, List, [], ◌∷◌, ◌++◌, Option, Some, None, true, false, refl, ap, sym, ◌∙◌}
use Rattle.rdo_ast.specs.declared.syntax.Reservation.{Reservation}
use Rattle.rdo_ast.specs.Tree.{Expression, number, text, field, negative, chain, count, statistic, Operations, no_operation, operation, Testing, compare, between, containing, starting_with, missing, any, negated, group, Conjunction, no_test, test, Condition, no_conjunction, conjunction, Ranging, ranging, With, without_condition, with_condition, Assignment, Shown, value, all_fields, Act, store, for_each, print, modify, erase, Acts, no_act, act}
use Rattle.rdb_meaning.specs.declared.scope.Binding.{Binding}
use Rattle.rdb_meaning.specs.Evaluation.{Scope, bound_as, bind_sources}
use Rattle.rdb_meaning.specs.Checks.{Refusal, or_else, first_refusal, Use, use_of, source_uses, expression_uses, operations_uses, testing_uses, conjunction_uses, condition_uses, with_uses, ranging_uses, assignments_uses, shown_uses, change_of, act_uses, acts_uses, reservation_refusal}
use Rattle.rdb_checks.specs.Unreserved.{use_unreserved, ranges_unreserved, expression_unreserved, operations_unreserved, testing_unreserved, conjunction_unreserved, condition_unreserved, with_unreserved, ranging_unreserved, assignments_unreserved, shown_unreserved, change_unreserved, act_unreserved, acts_unreserved}

or_else_assoc : (a b c : Refusal) → or_else (or_else a b) c ≡ or_else a (or_else b c)
or_else_assoc (Some r) b c = refl
or_else_assoc None b c = refl

or_else-none : (a : Refusal) → or_else a None ≡ a
or_else-none (Some r) = refl
or_else-none None = refl

-- the first refusal among uses
abbrev among : List Reservation → List Use → Refusal
among rs us = first_refusal (use_unreserved rs) us

among-append : (rs : List Reservation) (us vs : List Use) → or_else (among rs us) (among rs vs) ≡ among rs (us ++ vs)
among-append rs [] vs = refl
among-append rs (u ∷ us) vs =
    or_else_assoc (use_unreserved rs u) (among rs us) (among rs vs) ∙ ap (or_else (use_unreserved rs u)) (among-append rs us vs)

joined : (rs : List Reservation) (us vs : List Use) (a b : Refusal) → a ≡ among rs us → b ≡ among rs vs → or_else a b ≡ among rs (us ++ vs)
joined rs us vs a b p q =
    ap (λ (x : Refusal). or_else x b) p ∙ ap (or_else (among rs us)) q ∙ among-append rs us vs

mutual
  expression_unreserved_is : (rs : List Reservation) (e : Expression) → expression_unreserved rs e ≡ among rs (expression_uses e)
  expression_unreserved_is rs (number n scale) = refl
  expression_unreserved_is rs (text s) = refl
  expression_unreserved_is rs (field r) = refl
  expression_unreserved_is rs (negative e) = expression_unreserved_is rs e
  expression_unreserved_is rs (chain e os) = joined rs _ _ _ _ (expression_unreserved_is rs e) (operations_unreserved_is rs os)
  expression_unreserved_is rs (count r) = ranging_unreserved_is rs r
  expression_unreserved_is rs (statistic s e r) = joined rs _ _ _ _ (expression_unreserved_is rs e) (ranging_unreserved_is rs r)

  operations_unreserved_is : (rs : List Reservation) (os : Operations) → operations_unreserved rs os ≡ among rs (operations_uses os)
  operations_unreserved_is rs no_operation = refl
  operations_unreserved_is rs (operation op e os) = joined rs _ _ _ _ (expression_unreserved_is rs e) (operations_unreserved_is rs os)

  testing_unreserved_is : (rs : List Reservation) (c : Testing) → testing_unreserved rs c ≡ among rs (testing_uses c)
  testing_unreserved_is rs (compare op a b) = joined rs _ _ _ _ (expression_unreserved_is rs a) (expression_unreserved_is rs b)
  testing_unreserved_is rs (between a low high) =
      joined rs _ _ _ _ (expression_unreserved_is rs a)
      (joined rs _ _ _ _ (expression_unreserved_is rs low) (expression_unreserved_is rs high))
  testing_unreserved_is rs (containing a b) = joined rs _ _ _ _ (expression_unreserved_is rs a) (expression_unreserved_is rs b)
  testing_unreserved_is rs (starting_with a b) = joined rs _ _ _ _ (expression_unreserved_is rs a) (expression_unreserved_is rs b)
  testing_unreserved_is rs (missing e) = expression_unreserved_is rs e
  testing_unreserved_is rs (any r) = ranging_unreserved_is rs r
  testing_unreserved_is rs (negated c) = testing_unreserved_is rs c
  testing_unreserved_is rs (group c) = condition_unreserved_is rs c

  conjunction_unreserved_is : (rs : List Reservation) (cs : Conjunction) → conjunction_unreserved rs cs ≡ among rs (conjunction_uses cs)
  conjunction_unreserved_is rs no_test = refl
  conjunction_unreserved_is rs (test c cs) = joined rs _ _ _ _ (testing_unreserved_is rs c) (conjunction_unreserved_is rs cs)

  condition_unreserved_is : (rs : List Reservation) (cs : Condition) → condition_unreserved rs cs ≡ among rs (condition_uses cs)
  condition_unreserved_is rs no_conjunction = refl
  condition_unreserved_is rs (conjunction c cs) = joined rs _ _ _ _ (conjunction_unreserved_is rs c) (condition_unreserved_is rs cs)

  with_unreserved_is : (rs : List Reservation) (c : With) → with_unreserved rs c ≡ among rs (with_uses c)
  with_unreserved_is rs without_condition = refl
  with_unreserved_is rs (with_condition c) = condition_unreserved_is rs c

  ranging_unreserved_is : (rs : List Reservation) (r : Ranging) → ranging_unreserved rs r ≡ among rs (ranging_uses r)
  ranging_unreserved_is rs (ranging first ss c) = joined rs _ _ _ _ refl (with_unreserved_is rs c)

assignments_unreserved_is : (rs : List Reservation) (as' : List Assignment) → assignments_unreserved rs as' ≡ among rs (assignments_uses as')
assignments_unreserved_is rs [] = refl
assignments_unreserved_is rs (a ∷ as') = joined rs _ _ _ _ (expression_unreserved_is rs a.right) (assignments_unreserved_is rs as')

shown_unreserved_is : (rs : List Reservation) (items : List Shown) → shown_unreserved rs items ≡ among rs (shown_uses items)
shown_unreserved_is rs [] = refl
shown_unreserved_is rs (value e ∷ items) = joined rs _ _ _ _ (expression_unreserved_is rs e) (shown_unreserved_is rs items)
shown_unreserved_is rs (all_fields n ∷ items) = shown_unreserved_is rs items

change_unreserved_is : (rs : List Reservation) (b : Option Binding) → change_unreserved rs b ≡ among rs (change_of b)
change_unreserved_is rs (Some b) = sym (or_else-none (use_unreserved rs (use_of true b.relation)))
change_unreserved_is rs None = refl

mutual
  act_unreserved_is : (rs : List Reservation) (a : Act) (scope : Scope) → act_unreserved rs a scope ≡ among rs (act_uses a scope)
  act_unreserved_is rs (store s as') scope = ap (or_else (use_unreserved rs (use_of true s.relation))) (assignments_unreserved_is rs as')
  act_unreserved_is rs (for_each r cs body) scope = joined rs _ _ _ _ (ranging_unreserved_is rs r) (acts_unreserved_is rs body _)
  act_unreserved_is rs (print items) scope = shown_unreserved_is rs items
  act_unreserved_is rs (modify n as') scope =
      joined rs _ _ _ _ (change_unreserved_is rs (bound_as n scope)) (assignments_unreserved_is rs as')
  act_unreserved_is rs (erase n) scope = change_unreserved_is rs (bound_as n scope)

  acts_unreserved_is : (rs : List Reservation) (actions : Acts) (scope : Scope) → acts_unreserved rs actions scope ≡ among rs (acts_uses actions scope)
  acts_unreserved_is rs no_act scope = refl
  acts_unreserved_is rs (act a rest) scope = joined rs _ _ _ _ (act_unreserved_is rs a scope) (acts_unreserved_is rs rest scope)

-- where something is reserved
pub act_unreserved-some : (rs : List Reservation) (a : Act) (scope : Scope) → nat_eq (length rs) 0 ≡ false → act_unreserved rs a scope ≡ reservation_refusal rs (act_uses a scope)
act_unreserved-some [] a scope none = cc
act_unreserved-some (r ∷ rs) a scope none = act_unreserved_is (r ∷ rs) a scope
