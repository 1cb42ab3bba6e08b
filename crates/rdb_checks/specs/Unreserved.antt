-- The first use that isn't reserved, as it is found on the way through a statement. That it is the first refusal in the list of the statement's uses is shown in proofs/Unreserved.
use Rattle.std.specs.Prelude.{Bool, true, false, if◌then◌else◌, List, [], ◌∷◌, map, Option, Some, None}
use Rattle.rdo_ast.specs.declared.syntax.Range.{Range}
use Rattle.rdo_ast.specs.declared.syntax.Reservation.{Reservation}
use Rattle.rdo_ast.specs.declared.reply.Reply.TheVariants.{NotReserved}
use Rattle.rdo_ast.specs.Tree.{Expression, number, text, field, negative, chain, count, statistic, Operations, no_operation, operation, Testing, compare, between, containing, starting_with, missing, any, negated, group, Conjunction, no_test, test, Condition, no_conjunction, conjunction, Ranging, ranging, With, without_condition, with_condition, Assignment, Shown, value, all_fields, Act, store, for_each, print, modify, erase, Acts, no_act, act}
use Rattle.rdb_meaning.specs.declared.scope.Binding.{Binding}
use Rattle.rdb_meaning.specs.Evaluation.{Scope, bound_as, bind_sources, sources_of}
use Rattle.rdb_meaning.specs.Checks.{Refusal, or_else, first_refusal, Use, use_of, reserved_for, source_uses}

abbrev pub use_unreserved : List Reservation → Use → Refusal
use_unreserved rs u = if reserved_for rs u then None else Some (NotReserved u.relation)

abbrev pub ranges_unreserved : List Reservation → List Range → Refusal
ranges_unreserved rs ss = first_refusal (use_unreserved rs) (source_uses ss)

abbrev mutual
  pub expression_unreserved : List Reservation → Expression → Refusal
  expression_unreserved rs (number n scale) = None
  expression_unreserved rs (text s) = None
  expression_unreserved rs (field r) = None
  expression_unreserved rs (negative e) = expression_unreserved rs e
  expression_unreserved rs (chain e os) = or_else (expression_unreserved rs e) (operations_unreserved rs os)
  expression_unreserved rs (count r) = ranging_unreserved rs r
  expression_unreserved rs (statistic s e r) = or_else (expression_unreserved rs e) (ranging_unreserved rs r)

  pub operations_unreserved : List Reservation → Operations → Refusal
  operations_unreserved rs no_operation = None
  operations_unreserved rs (operation op e os) = or_else (expression_unreserved rs e) (operations_unreserved rs os)

  pub testing_unreserved : List Reservation → Testing → Refusal
  testing_unreserved rs (compare op a b) = or_else (expression_unreserved rs a) (expression_unreserved rs b)
  testing_unreserved rs (between a low high) =
      or_else (expression_unreserved rs a) (or_else (expression_unreserved rs low) (expression_unreserved rs high))
  testing_unreserved rs (containing a b) = or_else (expression_unreserved rs a) (expression_unreserved rs b)
  testing_unreserved rs (starting_with a b) = or_else (expression_unreserved rs a) (expression_unreserved rs b)
  testing_unreserved rs (missing e) = expression_unreserved rs e
  testing_unreserved rs (any r) = ranging_unreserved rs r
  testing_unreserved rs (negated c) = testing_unreserved rs c
  testing_unreserved rs (group c) = condition_unreserved rs c

  pub conjunction_unreserved : List Reservation → Conjunction → Refusal
  conjunction_unreserved rs no_test = None
  conjunction_unreserved rs (test c cs) = or_else (testing_unreserved rs c) (conjunction_unreserved rs cs)

  pub condition_unreserved : List Reservation → Condition → Refusal
  condition_unreserved rs no_conjunction = None
  condition_unreserved rs (conjunction c cs) = or_else (conjunction_unreserved rs c) (condition_unreserved rs cs)

  pub with_unreserved : List Reservation → With → Refusal
  with_unreserved rs without_condition = None
  with_unreserved rs (with_condition c) = condition_unreserved rs c

  pub ranging_unreserved : List Reservation → Ranging → Refusal
  ranging_unreserved rs (ranging first ss c) = or_else (ranges_unreserved rs ss) (with_unreserved rs c)

abbrev pub assignments_unreserved : List Reservation → List Assignment → Refusal
assignments_unreserved rs [] = None
assignments_unreserved rs (a ∷ as') = or_else (expression_unreserved rs a.right) (assignments_unreserved rs as')

abbrev pub shown_unreserved : List Reservation → List Shown → Refusal
shown_unreserved rs [] = None
shown_unreserved rs (value e ∷ items) = or_else (expression_unreserved rs e) (shown_unreserved rs items)
shown_unreserved rs (all_fields n ∷ items) = shown_unreserved rs items

abbrev pub change_unreserved : List Reservation → Option Binding → Refusal
change_unreserved rs (Some b) = use_unreserved rs (use_of true b.relation)
change_unreserved rs None = None

abbrev mutual
  pub act_unreserved : List Reservation → Act → Scope → Refusal
  act_unreserved rs (store s as') scope = or_else (use_unreserved rs (use_of true s.relation)) (assignments_unreserved rs as')
  act_unreserved rs (for_each r cs body) scope =
      or_else (ranging_unreserved rs r) (acts_unreserved rs body (bind_sources (sources_of r) scope))
  act_unreserved rs (print items) scope = shown_unreserved rs items
  act_unreserved rs (modify n as') scope = or_else (change_unreserved rs (bound_as n scope)) (assignments_unreserved rs as')
  act_unreserved rs (erase n) scope = change_unreserved rs (bound_as n scope)

  pub acts_unreserved : List Reservation → Acts → Scope → Refusal
  acts_unreserved rs no_act scope = None
  acts_unreserved rs (act a rest) scope = or_else (act_unreserved rs a scope) (acts_unreserved rs rest scope)
