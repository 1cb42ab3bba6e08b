-- What is checked of an action is the same in tables of one schema.
use Rattle.std.proofs.Common.{◌≡◌, Bool, not, ◌&&◌, List, [], ◌∷◌, ◌++◌, Option, Some, None, refl, sym, ap, ◌∙◌, if◌then◌else◌}
use Rattle.std.specs.Prelude.{◌||◌, option_map, option_and_then}
use Rattle.std.specs.List.{list_any}
use Rattle.rdo_ast.specs.declared.syntax.Reference.{Reference}
use Rattle.rdo_ast.specs.declared.syntax.Range.{Range}
use Rattle.rdo_ast.specs.declared.syntax.Clause.{Clause}
use Rattle.rdo_ast.specs.declared.syntax.Clause.TheVariants.{Sorted, Reduced}
use Rattle.rdo_ast.specs.declared.syntax.Statistic.TheVariants.{Total, Minimum, Maximum}
use Rattle.rdo_ast.specs.declared.reply.Reply.TheVariants.{NoSuch}
use Rattle.rdo_ast.specs.declared.reply.Standing.{Standing}
use Rattle.rdo_ast.specs.Tree.{Name, Expression, number, text, field, negative, chain, count, statistic, Operations, no_operation, operation, Testing, compare, between, containing, starting_with, missing, any, negated, group, Conjunction, no_test, test, Condition, no_conjunction, conjunction, Ranging, ranging, With, without_condition, with_condition, Assignment, Shown, value, all_fields, Act, store, for_each, print, modify, erase, Acts, no_act, act}
use Rattle.rdb_meaning.specs.declared.tables.Relation.{Relation}
use Rattle.rdb_meaning.specs.declared.tables.Tables.{Tables}
use Rattle.rdb_meaning.specs.Contents.{same_name, relation_named, fields_of, place_of}
use Rattle.rdb_meaning.specs.Evaluation.{Scope, bound_as, referred, bind_source, bind_sources, sources_of}
use Rattle.rdb_meaning.specs.Checks as checks
use Rattle.rdb_meaning.specs.Meaning.{act_refusal, act_standing_refusal, reservations_of, clash}
use Rattle.schema_alone.specs.Schema.{bare, OneSchema}

fields_bare : (o : Option Relation) → fields_of o ≡ fields_of (option_map bare o)
fields_bare None = refl
fields_bare (Some r) = refl

some_bare : (n : Name) (o : Option Relation) → checks.needs_some n o ≡ checks.needs_some n (option_map bare o)
some_bare n None = refl
some_bare n (Some r) = refl

first_same : {A : Type 0} (f g : A → checks.Refusal) → ((x : A) → f x ≡ g x) → (xs : List A) → checks.first_refusal f xs ≡ checks.first_refusal g xs
first_same f g same [] = refl
first_same f g same (x ∷ xs) = λ i. checks.or_else (same x i) (first_same f g same xs i)

any_same : {A : Type 0} (f g : A → Bool) → ((x : A) → f x ≡ g x) → (xs : List A) → list_any f xs ≡ list_any g xs
any_same f g same [] = refl
any_same f g same (x ∷ xs) = λ i. same x i || any_same f g same xs i

module _ (t u : Tables) (one : OneSchema t u) where
  pub fields_same : (n : Name) → fields_of (relation_named n t) ≡ fields_of (relation_named n u)
  fields_same n = fields_bare (relation_named n t) ∙ ap fields_of (one n) ∙ sym (fields_bare (relation_named n u))

  some_same : (n : Name) → checks.needs_some n (relation_named n t) ≡ checks.needs_some n (relation_named n u)
  some_same n = some_bare n (relation_named n t) ∙ ap (checks.needs_some n) (one n) ∙ sym (some_bare n (relation_named n u))

  pub referred_same : (r : Reference) (scope : Scope) → referred r t scope ≡ referred r u scope
  referred_same r scope = λ i. option_and_then (λ b. place_of r.field (fields_same b.relation i)) (bound_as r.variable scope)

  -- ---- names

  reference_names : (r : Reference) (scope : Scope) → checks.reference_names r t scope ≡ checks.reference_names r u scope
  reference_names r scope = λ i. checks.or_else (checks.needs_some r.variable (bound_as r.variable scope)) (checks.needs_some r.field (referred_same r scope i))

  source_names : (s : Range) (scope : Scope) → checks.source_names s t scope ≡ checks.source_names s u scope
  source_names s scope = λ i. checks.or_else (checks.needs_none s.variable (bound_as s.variable scope)) (some_same s.relation i)

  sources_names : (ss : List Range) (scope : Scope) → checks.sources_names ss t scope ≡ checks.sources_names ss u scope
  sources_names [] scope = refl
  sources_names (s ∷ ss) scope = λ i. checks.or_else (source_names s scope i) (sources_names ss (scope ++ bind_source s None ∷ []) i)

  mutual
    expression_names : (e : Expression) (scope : Scope) → checks.expression_names e t scope ≡ checks.expression_names e u scope
    expression_names (number n scale) scope = refl
    expression_names (text s) scope = refl
    expression_names (field r) scope = reference_names r scope
    expression_names (negative e) scope = expression_names e scope
    expression_names (chain e os) scope = λ i. checks.or_else (expression_names e scope i) (operations_names os scope i)
    expression_names (count r) scope = ranging_names r scope
    expression_names (statistic s e r) scope = λ i. checks.or_else (sources_names (sources_of r) scope i) (checks.or_else (expression_names e (bind_sources (sources_of r) scope) i) (ranging_names r scope i))

    operations_names : (os : Operations) (scope : Scope) → checks.operations_names os t scope ≡ checks.operations_names os u scope
    operations_names no_operation scope = refl
    operations_names (operation op e os) scope = λ i. checks.or_else (expression_names e scope i) (operations_names os scope i)

    testing_names : (c : Testing) (scope : Scope) → checks.testing_names c t scope ≡ checks.testing_names c u scope
    testing_names (compare op a b) scope = λ i. checks.or_else (expression_names a scope i) (expression_names b scope i)
    testing_names (between a low high) scope = λ i. checks.or_else (expression_names a scope i) (checks.or_else (expression_names low scope i) (expression_names high scope i))
    testing_names (containing a b) scope = λ i. checks.or_else (expression_names a scope i) (expression_names b scope i)
    testing_names (starting_with a b) scope = λ i. checks.or_else (expression_names a scope i) (expression_names b scope i)
    testing_names (missing e) scope = expression_names e scope
    testing_names (any r) scope = ranging_names r scope
    testing_names (negated c) scope = testing_names c scope
    testing_names (group c) scope = condition_names c scope

    conjunction_names : (c : Conjunction) (scope : Scope) → checks.conjunction_names c t scope ≡ checks.conjunction_names c u scope
    conjunction_names no_test scope = refl
    conjunction_names (test c cs) scope = λ i. checks.or_else (testing_names c scope i) (conjunction_names cs scope i)

    condition_names : (c : Condition) (scope : Scope) → checks.condition_names c t scope ≡ checks.condition_names c u scope
    condition_names no_conjunction scope = refl
    condition_names (conjunction c cs) scope = λ i. checks.or_else (conjunction_names c scope i) (condition_names cs scope i)

    with_names : (c : With) (scope : Scope) → checks.with_names c t scope ≡ checks.with_names c u scope
    with_names without_condition scope = refl
    with_names (with_condition c) scope = condition_names c scope

    ranging_names : (r : Ranging) (scope : Scope) → checks.ranging_names r t scope ≡ checks.ranging_names r u scope
    ranging_names (ranging first ss c) scope = λ i. checks.or_else (sources_names ss scope i) (with_names c (bind_sources ss scope) i)

  clause_names : (c : Clause) (scope : Scope) → checks.clause_names c t scope ≡ checks.clause_names c u scope
  clause_names (Sorted keys) scope = first_same (λ k. checks.reference_names k.reference t scope) (λ k. checks.reference_names k.reference u scope) (λ k. reference_names k.reference scope) keys
  clause_names (Reduced refs) scope = first_same (λ r. checks.reference_names r t scope) (λ r. checks.reference_names r u scope) (λ r. reference_names r scope) refs

  assignment_names : (n : Name) (scope : Scope) (a : Assignment) → checks.assignment_names n t scope a ≡ checks.assignment_names n u scope a
  assignment_names n scope a = λ i. checks.or_else (if same_name n a.left.variable then reference_names a.left scope i else Some (NoSuch a.left.variable)) (expression_names a.right scope i)

  shown_names : (scope : Scope) (s : Shown) → checks.shown_names t scope s ≡ checks.shown_names u scope s
  shown_names scope (value e) = expression_names e scope
  shown_names scope (all_fields n) = refl

  mutual
    act_names : (a : Act) (scope : Scope) → checks.act_names a t scope ≡ checks.act_names a u scope
    act_names (store s as') scope =
        let inner = scope ++ bind_source s None ∷ [] in
        λ i. checks.or_else (source_names s scope i) (first_same (checks.assignment_names s.variable t inner) (checks.assignment_names s.variable u inner) (assignment_names s.variable inner) as' i)
    act_names (for_each r cs body) scope =
        let inner = bind_sources (sources_of r) scope in
        λ i. checks.or_else (ranging_names r scope i) (checks.or_else (first_same (λ c. checks.clause_names c t inner) (λ c. checks.clause_names c u inner) (λ c. clause_names c inner) cs i) (acts_names body inner i))
    act_names (print items) scope = first_same (checks.shown_names t scope) (checks.shown_names u scope) (shown_names scope) items
    act_names (modify n as') scope = λ i. checks.or_else (checks.needs_some n (bound_as n scope)) (first_same (checks.assignment_names n t scope) (checks.assignment_names n u scope) (assignment_names n scope) as' i)
    act_names (erase n) scope = refl

    acts_names : (as' : Acts) (scope : Scope) → checks.acts_names as' t scope ≡ checks.acts_names as' u scope
    acts_names no_act scope = refl
    acts_names (act a rest) scope = λ i. checks.or_else (act_names a scope i) (acts_names rest scope i)

  -- ---- types

  textual : (e : Expression) (scope : Scope) → checks.is_textual e t scope ≡ checks.is_textual e u scope
  textual (number n scale) scope = refl
  textual (text s) scope = refl
  textual (field r) scope = ap checks.is_text_place (referred_same r scope)
  textual (negative e) scope = refl
  textual (chain e os) scope = refl
  textual (count r) scope = refl
  textual (statistic Total e r) scope = refl
  textual (statistic Minimum e r) scope = textual e (bind_sources (sources_of r) scope)
  textual (statistic Maximum e r) scope = textual e (bind_sources (sources_of r) scope)

  mutual
    expression_clashes : (e : Expression) (scope : Scope) → checks.expression_clashes e t scope ≡ checks.expression_clashes e u scope
    expression_clashes (number n scale) scope = refl
    expression_clashes (text s) scope = refl
    expression_clashes (field r) scope = refl
    expression_clashes (negative e) scope = λ i. expression_clashes e scope i || textual e scope i
    expression_clashes (chain e os) scope = λ i. expression_clashes e scope i || textual e scope i || operations_clash os scope i
    expression_clashes (count r) scope = ranging_clashes r scope
    expression_clashes (statistic s e r) scope =
        let inner = bind_sources (sources_of r) scope in
        λ i. expression_clashes e inner i || checks.totals_texts s (textual e inner i) || ranging_clashes r scope i

    operations_clash : (os : Operations) (scope : Scope) → checks.operations_clash os t scope ≡ checks.operations_clash os u scope
    operations_clash no_operation scope = refl
    operations_clash (operation op e os) scope = λ i. expression_clashes e scope i || textual e scope i || operations_clash os scope i

    testing_clashes : (c : Testing) (scope : Scope) → checks.testing_clashes c t scope ≡ checks.testing_clashes c u scope
    testing_clashes (compare op a b) scope = λ i. expression_clashes a scope i || expression_clashes b scope i || checks.differ (textual a scope i) (textual b scope i)
    testing_clashes (between a low high) scope =
        λ i. expression_clashes a scope i || expression_clashes low scope i || expression_clashes high scope i || checks.differ (textual a scope i) (textual low scope i) || checks.differ (textual a scope i) (textual high scope i)
    testing_clashes (containing a b) scope = λ i. expression_clashes a scope i || expression_clashes b scope i || not (textual a scope i && textual b scope i)
    testing_clashes (starting_with a b) scope = λ i. expression_clashes a scope i || expression_clashes b scope i || not (textual a scope i && textual b scope i)
    testing_clashes (missing e) scope = expression_clashes e scope
    testing_clashes (any r) scope = ranging_clashes r scope
    testing_clashes (negated c) scope = testing_clashes c scope
    testing_clashes (group c) scope = condition_clashes c scope

    conjunction_clashes : (c : Conjunction) (scope : Scope) → checks.conjunction_clashes c t scope ≡ checks.conjunction_clashes c u scope
    conjunction_clashes no_test scope = refl
    conjunction_clashes (test c cs) scope = λ i. testing_clashes c scope i || conjunction_clashes cs scope i

    condition_clashes : (c : Condition) (scope : Scope) → checks.condition_clashes c t scope ≡ checks.condition_clashes c u scope
    condition_clashes no_conjunction scope = refl
    condition_clashes (conjunction c cs) scope = λ i. conjunction_clashes c scope i || condition_clashes cs scope i

    with_clashes : (c : With) (scope : Scope) → checks.with_clashes c t scope ≡ checks.with_clashes c u scope
    with_clashes without_condition scope = refl
    with_clashes (with_condition c) scope = condition_clashes c scope

    ranging_clashes : (r : Ranging) (scope : Scope) → checks.ranging_clashes r t scope ≡ checks.ranging_clashes r u scope
    ranging_clashes (ranging first ss c) scope = with_clashes c (bind_sources ss scope)

  assignment_clashes : (scope : Scope) (a : Assignment) → checks.assignment_clashes t scope a ≡ checks.assignment_clashes u scope a
  assignment_clashes scope a = λ i. expression_clashes a.right scope i || checks.differ (checks.is_text_place (referred_same a.left scope i)) (textual a.right scope i)

  shown_clashes : (scope : Scope) (s : Shown) → checks.shown_clashes t scope s ≡ checks.shown_clashes u scope s
  shown_clashes scope (value e) = expression_clashes e scope
  shown_clashes scope (all_fields n) = refl

  mutual
    act_clashes : (a : Act) (scope : Scope) → checks.act_clashes a t scope ≡ checks.act_clashes a u scope
    act_clashes (store s as') scope =
        let inner = scope ++ bind_source s None ∷ [] in
        any_same (checks.assignment_clashes t inner) (checks.assignment_clashes u inner) (assignment_clashes inner) as'
    act_clashes (for_each r cs body) scope = λ i. ranging_clashes r scope i || acts_clash body (bind_sources (sources_of r) scope) i
    act_clashes (print items) scope = any_same (checks.shown_clashes t scope) (checks.shown_clashes u scope) (shown_clashes scope) items
    act_clashes (modify n as') scope = any_same (checks.assignment_clashes t scope) (checks.assignment_clashes u scope) (assignment_clashes scope) as'
    act_clashes (erase n) scope = refl

    acts_clash : (as' : Acts) (scope : Scope) → checks.acts_clash as' t scope ≡ checks.acts_clash as' u scope
    acts_clash no_act scope = refl
    acts_clash (act a rest) scope = λ i. act_clashes a scope i || acts_clash rest scope i

  -- ---- the refusal of an action

  pub refusal_same : (a : Act) (standing : Standing) → act_refusal a standing t ≡ act_refusal a standing u
  refusal_same a standing =
      λ i. checks.or_else (act_standing_refusal a standing) (checks.or_else (act_names a [] i) (checks.or_else (checks.reservation_refusal (reservations_of standing) (checks.act_uses a [])) (clash (act_clashes a [] i))))
