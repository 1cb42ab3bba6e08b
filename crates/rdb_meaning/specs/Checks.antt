-- What is checked before a statement is done: names in the order of the text, then reservations, then types.
use Rattle.std.specs.Prelude.{ℕ, Bool, true, false, not, ◌&&◌, ◌||◌, if◌then◌else◌, List, [], ◌∷◌, ◌++◌, map, Option, Some, None}
use Rattle.std.specs.List.{list_any}
use Rattle.ordered_entries.specs.rdb_types.declared.values.Field.{Field}
use Rattle.rdo_ast.specs.declared.syntax.Reference.{Reference}
use Rattle.rdo_ast.specs.declared.syntax.Range.{Range}
use Rattle.rdo_ast.specs.declared.syntax.Clause.{Clause}
use Rattle.rdo_ast.specs.declared.syntax.Clause.TheVariants.{Sorted, Reduced}
use Rattle.rdo_ast.specs.declared.syntax.Statistic.{Statistic}
use Rattle.rdo_ast.specs.declared.syntax.Statistic.TheVariants.{Total, Minimum, Maximum}
use Rattle.rdo_ast.specs.declared.syntax.Reservation.{Reservation}
use Rattle.rdo_ast.specs.declared.reply.Reply.{Reply}
use Rattle.rdo_ast.specs.declared.reply.Reply.TheVariants.{NoSuch, Exists, NotReserved}
use Rattle.rdo_ast.specs.Tree.{Name, Expression, number, text, field, negative, chain, count, statistic, Operations, no_operation, operation, Testing, compare, between, containing, starting_with, missing, any, negated, group, Conjunction, no_test, test, Condition, no_conjunction, conjunction, Ranging, ranging, With, without_condition, with_condition, Assignment, Shown, value, all_fields, Act, store, for_each, print, modify, erase, Acts, no_act, act}
use Rattle.rdb_meaning.specs.declared.tables.Tables.{Tables}
use Rattle.rdb_meaning.specs.declared.scope.Binding.{Binding}
use Rattle.rdb_meaning.specs.Numbers.{is_text_type}
use Rattle.rdb_meaning.specs.Contents.{same_name, relation_named}
use Rattle.rdb_meaning.specs.Evaluation.{Scope, bound_as, referred, bind_source, bind_sources, sources_of}

-- a refusal, or none
abbrev pub Refusal : Type 0
Refusal = Option Reply

-- the first refusal
abbrev pub or_else : Refusal → Refusal → Refusal
or_else (Some r) b = Some r
or_else None b = b

abbrev pub first_refusal : {A : Type 0} → (A → Refusal) → List A → Refusal
first_refusal f [] = None
first_refusal f (x ∷ xs) = or_else (f x) (first_refusal f xs)

-- ---- names, in the order of the text

abbrev pub needs_some : {A : Type 0} → Name → Option A → Refusal
needs_some n (Some x) = None
needs_some n None = Some (NoSuch n)

abbrev pub needs_none : {A : Type 0} → Name → Option A → Refusal
needs_none n (Some x) = Some (Exists n)
needs_none n None = None

abbrev pub reference_names : Reference → Tables → Scope → Refusal
reference_names r t scope = or_else (needs_some r.variable (bound_as r.variable scope)) (needs_some r.field (referred r t scope))

-- a variable that is bound is not bound again, and the relation is there
abbrev pub source_names : Range → Tables → Scope → Refusal
source_names s t scope = or_else (needs_none s.variable (bound_as s.variable scope)) (needs_some s.relation (relation_named s.relation t))

abbrev pub sources_names : List Range → Tables → Scope → Refusal
sources_names [] t scope = None
sources_names (s ∷ ss) t scope = or_else (source_names s t scope) (sources_names ss t (scope ++ bind_source s None ∷ []))

-- The sources of a statistic stand behind its expression, which is read with their variables: they are checked first.
abbrev mutual
  pub expression_names : Expression → Tables → Scope → Refusal
  expression_names (number n scale) t scope = None
  expression_names (text s) t scope = None
  expression_names (field r) t scope = reference_names r t scope
  expression_names (negative e) t scope = expression_names e t scope
  expression_names (chain e os) t scope = or_else (expression_names e t scope) (operations_names os t scope)
  expression_names (count r) t scope = ranging_names r t scope
  expression_names (statistic s e r) t scope =
      or_else (sources_names (sources_of r) t scope)
      (or_else (expression_names e t (bind_sources (sources_of r) scope)) (ranging_names r t scope))

  pub operations_names : Operations → Tables → Scope → Refusal
  operations_names no_operation t scope = None
  operations_names (operation op e os) t scope = or_else (expression_names e t scope) (operations_names os t scope)

  pub testing_names : Testing → Tables → Scope → Refusal
  testing_names (compare op a b) t scope = or_else (expression_names a t scope) (expression_names b t scope)
  testing_names (between a low high) t scope =
      or_else (expression_names a t scope) (or_else (expression_names low t scope) (expression_names high t scope))
  testing_names (containing a b) t scope = or_else (expression_names a t scope) (expression_names b t scope)
  testing_names (starting_with a b) t scope = or_else (expression_names a t scope) (expression_names b t scope)
  testing_names (missing e) t scope = expression_names e t scope
  testing_names (any r) t scope = ranging_names r t scope
  testing_names (negated c) t scope = testing_names c t scope
  testing_names (group c) t scope = condition_names c t scope

  pub conjunction_names : Conjunction → Tables → Scope → Refusal
  conjunction_names no_test t scope = None
  conjunction_names (test c cs) t scope = or_else (testing_names c t scope) (conjunction_names cs t scope)

  pub condition_names : Condition → Tables → Scope → Refusal
  condition_names no_conjunction t scope = None
  condition_names (conjunction c cs) t scope = or_else (conjunction_names c t scope) (condition_names cs t scope)

  pub with_names : With → Tables → Scope → Refusal
  with_names without_condition t scope = None
  with_names (with_condition c) t scope = condition_names c t scope

  pub ranging_names : Ranging → Tables → Scope → Refusal
  ranging_names (ranging first ss c) t scope =
      or_else (sources_names ss t scope) (with_names c t (bind_sources ss scope))

abbrev pub clause_names : Clause → Tables → Scope → Refusal
clause_names (Sorted keys) t scope = first_refusal (λ k. reference_names k.reference t scope) keys
clause_names (Reduced refs) t scope = first_refusal (λ r. reference_names r t scope) refs

-- the left side names the variable that is stored or modified
abbrev pub assignment_names : Name → Tables → Scope → Assignment → Refusal
assignment_names n t scope a =
    or_else (if same_name n a.left.variable then reference_names a.left t scope else Some (NoSuch a.left.variable))
    (expression_names a.right t scope)

abbrev pub shown_names : Tables → Scope → Shown → Refusal
shown_names t scope (value e) = expression_names e t scope
shown_names t scope (all_fields n) = needs_some n (bound_as n scope)

-- Only a FOR binds variables around an action.
abbrev mutual
  pub act_names : Act → Tables → Scope → Refusal
  act_names (store s as') t scope =
      or_else (source_names s t scope) (first_refusal (assignment_names s.variable t (scope ++ bind_source s None ∷ [])) as')
  act_names (for_each r cs body) t scope =
      or_else (ranging_names r t scope)
      (or_else (first_refusal (λ c. clause_names c t (bind_sources (sources_of r) scope)) cs)
      (acts_names body t (bind_sources (sources_of r) scope)))
  act_names (print items) t scope = first_refusal (shown_names t scope) items
  act_names (modify n as') t scope = or_else (needs_some n (bound_as n scope)) (first_refusal (assignment_names n t scope) as')
  act_names (erase n) t scope = needs_some n (bound_as n scope)

  pub acts_names : Acts → Tables → Scope → Refusal
  acts_names no_act t scope = None
  acts_names (act a rest) t scope = or_else (act_names a t scope) (acts_names rest t scope)

-- ---- reservations, in the order of the text

-- a relation that is named, and whether it is to be changed or indexed
pub record Use : Type 0 where
  pub relation : Name
  pub changes : Bool

abbrev pub use_of : Bool → Name → Use
use_of changes n = record { relation = n; changes = changes }

abbrev pub reserved_for : List Reservation → Use → Bool
reserved_for rs u = list_any (λ r. same_name r.relation u.relation && (r.writes || not u.changes)) rs

abbrev pub reservation_refusal : List Reservation → List Use → Refusal
reservation_refusal [] us = None
reservation_refusal (r ∷ rs) us = first_refusal (λ u. if reserved_for (r ∷ rs) u then None else Some (NotReserved u.relation)) us

abbrev pub source_uses : List Range → List Use
source_uses ss = map (λ s. use_of false s.relation) ss

abbrev mutual
  pub expression_uses : Expression → List Use
  expression_uses (number n scale) = []
  expression_uses (text s) = []
  expression_uses (field r) = []
  expression_uses (negative e) = expression_uses e
  expression_uses (chain e os) = expression_uses e ++ operations_uses os
  expression_uses (count r) = ranging_uses r
  expression_uses (statistic s e r) = expression_uses e ++ ranging_uses r

  pub operations_uses : Operations → List Use
  operations_uses no_operation = []
  operations_uses (operation op e os) = expression_uses e ++ operations_uses os

  pub testing_uses : Testing → List Use
  testing_uses (compare op a b) = expression_uses a ++ expression_uses b
  testing_uses (between a low high) = expression_uses a ++ (expression_uses low ++ expression_uses high)
  testing_uses (containing a b) = expression_uses a ++ expression_uses b
  testing_uses (starting_with a b) = expression_uses a ++ expression_uses b
  testing_uses (missing e) = expression_uses e
  testing_uses (any r) = ranging_uses r
  testing_uses (negated c) = testing_uses c
  testing_uses (group c) = condition_uses c

  pub conjunction_uses : Conjunction → List Use
  conjunction_uses no_test = []
  conjunction_uses (test c cs) = testing_uses c ++ conjunction_uses cs

  pub condition_uses : Condition → List Use
  condition_uses no_conjunction = []
  condition_uses (conjunction c cs) = conjunction_uses c ++ condition_uses cs

  pub with_uses : With → List Use
  with_uses without_condition = []
  with_uses (with_condition c) = condition_uses c

  pub ranging_uses : Ranging → List Use
  ranging_uses (ranging first ss c) = source_uses ss ++ with_uses c

abbrev pub assignments_uses : List Assignment → List Use
assignments_uses [] = []
assignments_uses (a ∷ as') = expression_uses a.right ++ assignments_uses as'

abbrev pub shown_uses : List Shown → List Use
shown_uses [] = []
shown_uses (value e ∷ items) = expression_uses e ++ shown_uses items
shown_uses (all_fields n ∷ items) = shown_uses items

abbrev pub change_of : Option Binding → List Use
change_of (Some b) = use_of true b.relation ∷ []
change_of None = []

abbrev mutual
  pub act_uses : Act → Scope → List Use
  act_uses (store s as') scope = use_of true s.relation ∷ assignments_uses as'
  act_uses (for_each r cs body) scope = ranging_uses r ++ acts_uses body (bind_sources (sources_of r) scope)
  act_uses (print items) scope = shown_uses items
  act_uses (modify n as') scope = change_of (bound_as n scope) ++ assignments_uses as'
  act_uses (erase n) scope = change_of (bound_as n scope)

  pub acts_uses : Acts → Scope → List Use
  acts_uses no_act scope = []
  acts_uses (act a rest) scope = act_uses a scope ++ acts_uses rest scope

-- ---- types

abbrev pub is_text_place : Option (ℕ × Field) → Bool
is_text_place (Some p) = is_text_type p.1.kind
is_text_place None = false

-- whether an expression's values are texts
abbrev pub is_textual : Expression → Tables → Scope → Bool
is_textual (number n scale) t scope = false
is_textual (text s) t scope = true
is_textual (field r) t scope = is_text_place (referred r t scope)
is_textual (negative e) t scope = false
is_textual (chain e os) t scope = false
is_textual (count r) t scope = false
is_textual (statistic Total e r) t scope = false
is_textual (statistic Minimum e r) t scope = is_textual e t (bind_sources (sources_of r) scope)
is_textual (statistic Maximum e r) t scope = is_textual e t (bind_sources (sources_of r) scope)

abbrev pub differ : Bool → Bool → Bool
differ true b = not b
differ false b = b

abbrev pub totals_texts : Statistic → Bool → Bool
totals_texts Total b = b
totals_texts Minimum b = false
totals_texts Maximum b = false

-- a text against a number, and arithmetic, TOTAL or unary minus on texts, CONTAINING or STARTING WITH on numbers
abbrev mutual
  pub expression_clashes : Expression → Tables → Scope → Bool
  expression_clashes (number n scale) t scope = false
  expression_clashes (text s) t scope = false
  expression_clashes (field r) t scope = false
  expression_clashes (negative e) t scope = expression_clashes e t scope || is_textual e t scope
  expression_clashes (chain e os) t scope =
      expression_clashes e t scope || is_textual e t scope || operations_clash os t scope
  expression_clashes (count r) t scope = ranging_clashes r t scope
  expression_clashes (statistic s e r) t scope =
      expression_clashes e t (bind_sources (sources_of r) scope)
      || totals_texts s (is_textual e t (bind_sources (sources_of r) scope)) || ranging_clashes r t scope

  pub operations_clash : Operations → Tables → Scope → Bool
  operations_clash no_operation t scope = false
  operations_clash (operation op e os) t scope =
      expression_clashes e t scope || is_textual e t scope || operations_clash os t scope

  pub testing_clashes : Testing → Tables → Scope → Bool
  testing_clashes (compare op a b) t scope =
      expression_clashes a t scope || expression_clashes b t scope || differ (is_textual a t scope) (is_textual b t scope)
  testing_clashes (between a low high) t scope =
      expression_clashes a t scope || expression_clashes low t scope || expression_clashes high t scope
      || differ (is_textual a t scope) (is_textual low t scope) || differ (is_textual a t scope) (is_textual high t scope)
  testing_clashes (containing a b) t scope =
      expression_clashes a t scope || expression_clashes b t scope || not (is_textual a t scope && is_textual b t scope)
  testing_clashes (starting_with a b) t scope =
      expression_clashes a t scope || expression_clashes b t scope || not (is_textual a t scope && is_textual b t scope)
  testing_clashes (missing e) t scope = expression_clashes e t scope
  testing_clashes (any r) t scope = ranging_clashes r t scope
  testing_clashes (negated c) t scope = testing_clashes c t scope
  testing_clashes (group c) t scope = condition_clashes c t scope

  pub conjunction_clashes : Conjunction → Tables → Scope → Bool
  conjunction_clashes no_test t scope = false
  conjunction_clashes (test c cs) t scope = testing_clashes c t scope || conjunction_clashes cs t scope

  pub condition_clashes : Condition → Tables → Scope → Bool
  condition_clashes no_conjunction t scope = false
  condition_clashes (conjunction c cs) t scope = conjunction_clashes c t scope || condition_clashes cs t scope

  pub with_clashes : With → Tables → Scope → Bool
  with_clashes without_condition t scope = false
  with_clashes (with_condition c) t scope = condition_clashes c t scope

  pub ranging_clashes : Ranging → Tables → Scope → Bool
  ranging_clashes (ranging first ss c) t scope = with_clashes c t (bind_sources ss scope)

abbrev pub assignment_clashes : Tables → Scope → Assignment → Bool
assignment_clashes t scope a =
    expression_clashes a.right t scope || differ (is_text_place (referred a.left t scope)) (is_textual a.right t scope)

abbrev pub shown_clashes : Tables → Scope → Shown → Bool
shown_clashes t scope (value e) = expression_clashes e t scope
shown_clashes t scope (all_fields n) = false

abbrev mutual
  pub act_clashes : Act → Tables → Scope → Bool
  act_clashes (store s as') t scope = list_any (assignment_clashes t (scope ++ bind_source s None ∷ [])) as'
  act_clashes (for_each r cs body) t scope =
      ranging_clashes r t scope || acts_clash body t (bind_sources (sources_of r) scope)
  act_clashes (print items) t scope = list_any (shown_clashes t scope) items
  act_clashes (modify n as') t scope = list_any (assignment_clashes t scope) as'
  act_clashes (erase n) t scope = false

  pub acts_clash : Acts → Tables → Scope → Bool
  acts_clash no_act t scope = false
  acts_clash (act a rest) t scope = act_clashes a t scope || acts_clash rest t scope

-- ---- retrievals

-- a FOR with no STORE, MODIFY or ERASE in it, or a PRINT
abbrev mutual
  pub is_retrieval : Act → Bool
  is_retrieval (store s as') = false
  is_retrieval (for_each r cs body) = are_retrievals body
  is_retrieval (print items) = true
  is_retrieval (modify n as') = false
  is_retrieval (erase n) = false

  pub are_retrievals : Acts → Bool
  are_retrievals no_act = true
  are_retrievals (act a rest) = is_retrieval a && are_retrievals rest
