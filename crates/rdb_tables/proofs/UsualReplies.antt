-- No check answers for locks, limits or memory.
use Rattle.std.proofs.Common.{◌≡◌, Bool, true, false, cond, List, [], ◌∷◌, ◌++◌, Option, Some, None, refl, subst}
use Rattle.rdo_ast.specs.declared.reply.Reply.{Reply}
use Rattle.rdo_ast.specs.declared.reply.Standing.{Standing}
use Rattle.rdo_ast.specs.declared.reply.Standing.TheVariants.{Closed, ReadOnly, ReadWrite}
use Rattle.rdo_ast.specs.declared.syntax.Reference.{Reference}
use Rattle.rdo_ast.specs.declared.syntax.Range.{Range}
use Rattle.rdo_ast.specs.declared.syntax.Clause.{Clause}
use Rattle.rdo_ast.specs.declared.syntax.Clause.TheVariants.{Sorted, Reduced}
use Rattle.rdo_ast.specs.declared.syntax.Reservation.{Reservation}
use Rattle.rdo_ast.specs.Tree.{Name, Expression, number, text, field, negative, chain, count, statistic, Operations, no_operation, operation, Testing, compare, between, containing, starting_with, missing, any, negated, group, Conjunction, no_test, test, Condition, no_conjunction, conjunction, Ranging, ranging, With, without_condition, with_condition, Assignment, Shown, value, all_fields, Act, store, for_each, print, modify, erase, Acts, no_act, act, Command, invoke, start_read_only, start_read_write, commit, rollback, finish, back_up, perform, define_field, define_relation, define_index, delete_relation, delete_index}
use Rattle.rdb_meaning.specs.declared.tables.Tables.{Tables}
use Rattle.std.specs.Prelude.{◌&&◌, if◌then◌else◌, nat_lt}
use Rattle.std.specs.FinMap.Entries.{find}
use Rattle.rdo_ast.specs.declared.reply.Reply.TheVariants as r
use Rattle.rdb_types.specs.declared.values.Field.{Field}
use Rattle.rdo_ast.specs.declared.syntax.FieldDefinition.{FieldDefinition}
use Rattle.rdo_ast.specs.declared.syntax.IndexDefinition.{IndexDefinition}
use Rattle.rdo_ast.specs.declared.syntax.DefinedType.{DefinedType}
use Rattle.rdo_ast.specs.declared.syntax.DefinedType.TheVariants.{Own, BasedOn}
use Rattle.rdb_meaning.specs.Contents.{same_name, relation_named, rows_of, fields_of, place_of}
use Rattle.rdb_types.specs.Order.{chars_order}
use Rattle.rdb_meaning.specs.Evaluation.{Scope, bound_as, referred, bind_source, bind_sources, sources_of}
use Rattle.rdb_meaning.specs.Checks.{Refusal, or_else, first_refusal, needs_some, needs_none, reference_names, source_names, sources_names, expression_names, operations_names, testing_names, conjunction_names, condition_names, with_names, ranging_names, clause_names, assignment_names, shown_names, act_names, acts_names, Use, reserved_for, use_of, reservation_refusal, act_uses, act_clashes, is_retrieval}
use Rattle.rdb_meaning.specs.Defining.{is_among, type_names, fields_names, index_fields_names, index_names, index_refusal, longest_key, keys_repeat, positions_of}
use Rattle.rdb_meaning.specs.Meaning.{needs_read_write, reservations_of, clash, act_refusal, reserved_names, index_uses}
use Rattle.rdb_tables.specs.Redefining.{refusal_of}
use Rattle.rdb_meaning.specs.Usual.{is_refusal_of_means}

abbrev pub Usually : Refusal → Type 0
Usually None = Unit {0}
Usually (Some reply) = is_refusal_of_means reply ≡ false

usual_or : (a b : Refusal) → Usually a → Usually b → Usually (or_else a b)
usual_or (Some reply) b p q = p
usual_or None b p q = q

usual_first : {A : Type 0} (f : A → Refusal) (xs : List A) → ((x : A) → Usually (f x)) → Usually (first_refusal f xs)
usual_first f [] h = tt
usual_first f (x ∷ xs) h = usual_or (f x) (first_refusal f xs) (h x) (usual_first f xs h)

usual_if : (b : Bool) (x y : Refusal) → Usually x → Usually y → Usually (cond b x y)
usual_if true x y p q = p
usual_if false x y p q = q

usual_some : {A : Type 0} (n : Name) (o : Option A) → Usually (needs_some n o)
usual_some n (Some x) = tt
usual_some n None = refl

usual_none : {A : Type 0} (n : Name) (o : Option A) → Usually (needs_none n o)
usual_none n (Some x) = refl
usual_none n None = tt

usual_reference : (x : Reference) (t : Tables) (scope : Scope) → Usually (reference_names x t scope)
usual_reference x t scope = usual_or _ _ (usual_some x.variable (bound_as x.variable scope)) (usual_some x.field (referred x t scope))

usual_source : (s : Range) (t : Tables) (scope : Scope) → Usually (source_names s t scope)
usual_source s t scope = usual_or _ _ (usual_none s.variable (bound_as s.variable scope)) (usual_some s.relation (relation_named s.relation t))

usual_sources : (ss : List Range) (t : Tables) (scope : Scope) → Usually (sources_names ss t scope)
usual_sources [] t scope = tt
usual_sources (s ∷ ss) t scope = usual_or _ _ (usual_source s t scope) (usual_sources ss t (scope ++ bind_source s None ∷ []))

mutual
  usual_expression : (e : Expression) (t : Tables) (scope : Scope) → Usually (expression_names e t scope)
  usual_expression (number n scale) t scope = tt
  usual_expression (text s) t scope = tt
  usual_expression (field x) t scope = usual_reference x t scope
  usual_expression (negative e) t scope = usual_expression e t scope
  usual_expression (chain e os) t scope = usual_or _ _ (usual_expression e t scope) (usual_operations os t scope)
  usual_expression (count r) t scope = usual_ranging r t scope
  usual_expression (statistic s e r) t scope =
      usual_or _ _ (usual_sources (sources_of r) t scope)
      (usual_or _ _ (usual_expression e t (bind_sources (sources_of r) scope)) (usual_ranging r t scope))

  usual_operations : (os : Operations) (t : Tables) (scope : Scope) → Usually (operations_names os t scope)
  usual_operations no_operation t scope = tt
  usual_operations (operation op e os) t scope = usual_or _ _ (usual_expression e t scope) (usual_operations os t scope)

  usual_testing : (c : Testing) (t : Tables) (scope : Scope) → Usually (testing_names c t scope)
  usual_testing (compare op a b) t scope = usual_or _ _ (usual_expression a t scope) (usual_expression b t scope)
  usual_testing (between a low high) t scope =
      usual_or _ _ (usual_expression a t scope) (usual_or _ _ (usual_expression low t scope) (usual_expression high t scope))
  usual_testing (containing a b) t scope = usual_or _ _ (usual_expression a t scope) (usual_expression b t scope)
  usual_testing (starting_with a b) t scope = usual_or _ _ (usual_expression a t scope) (usual_expression b t scope)
  usual_testing (missing e) t scope = usual_expression e t scope
  usual_testing (any r) t scope = usual_ranging r t scope
  usual_testing (negated c) t scope = usual_testing c t scope
  usual_testing (group c) t scope = usual_condition c t scope

  usual_conjunction : (c : Conjunction) (t : Tables) (scope : Scope) → Usually (conjunction_names c t scope)
  usual_conjunction no_test t scope = tt
  usual_conjunction (test c cs) t scope = usual_or _ _ (usual_testing c t scope) (usual_conjunction cs t scope)

  usual_condition : (c : Condition) (t : Tables) (scope : Scope) → Usually (condition_names c t scope)
  usual_condition no_conjunction t scope = tt
  usual_condition (conjunction c cs) t scope = usual_or _ _ (usual_conjunction c t scope) (usual_condition cs t scope)

  usual_with : (c : With) (t : Tables) (scope : Scope) → Usually (with_names c t scope)
  usual_with without_condition t scope = tt
  usual_with (with_condition c) t scope = usual_condition c t scope

  usual_ranging : (r : Ranging) (t : Tables) (scope : Scope) → Usually (ranging_names r t scope)
  usual_ranging (ranging first ss c) t scope = usual_or _ _ (usual_sources ss t scope) (usual_with c t (bind_sources ss scope))

usual_clause : (t : Tables) (scope : Scope) (c : Clause) → Usually (clause_names c t scope)
usual_clause t scope (Sorted keys) = usual_first _ keys (λ k. usual_reference k.reference t scope)
usual_clause t scope (Reduced refs) = usual_first _ refs (λ x. usual_reference x t scope)

usual_assignment : (n : Name) (t : Tables) (scope : Scope) (a : Assignment) → Usually (assignment_names n t scope a)
usual_assignment n t scope a =
    usual_or _ _ (usual_if (same_name n a.left.variable) _ _ (usual_reference a.left t scope) refl) (usual_expression a.right t scope)

usual_shown : (t : Tables) (scope : Scope) (s : Shown) → Usually (shown_names t scope s)
usual_shown t scope (value e) = usual_expression e t scope
usual_shown t scope (all_fields n) = usual_some n (bound_as n scope)

mutual
  usual_act : (a : Act) (t : Tables) (scope : Scope) → Usually (act_names a t scope)
  usual_act (store s as') t scope =
      usual_or _ _ (usual_source s t scope) (usual_first _ as' (usual_assignment s.variable t (scope ++ bind_source s None ∷ [])))
  usual_act (for_each r cs body) t scope =
      usual_or _ _ (usual_ranging r t scope)
      (usual_or _ _ (usual_first _ cs (usual_clause t (bind_sources (sources_of r) scope))) (usual_acts body t (bind_sources (sources_of r) scope)))
  usual_act (print items) t scope = usual_first _ items (usual_shown t scope)
  usual_act (modify n as') t scope = usual_or _ _ (usual_some n (bound_as n scope)) (usual_first _ as' (usual_assignment n t scope))
  usual_act (erase n) t scope = usual_some n (bound_as n scope)

  usual_acts : (as' : Acts) (t : Tables) (scope : Scope) → Usually (acts_names as' t scope)
  usual_acts no_act t scope = tt
  usual_acts (act a rest) t scope = usual_or _ _ (usual_act a t scope) (usual_acts rest t scope)

usual_standing : (s : Standing) → Usually (needs_read_write s)
usual_standing Closed = refl
usual_standing ReadOnly = refl
usual_standing (ReadWrite wait rs) = tt

usual_reservations : (rs : List Reservation) (us : List Use) → Usually (reservation_refusal rs us)
usual_reservations [] us = tt
usual_reservations (x ∷ rs) us = usual_first _ us (λ u. usual_if (reserved_for (x ∷ rs) u) _ _ tt refl)

usual_clash : (b : Bool) → Usually (clash b)
usual_clash true = refl
usual_clash false = tt

-- what an action is refused for before it is done
pub usual_refusal : (a : Act) (s : Standing) (t : Tables) (reply : Reply) → act_refusal a s t ≡ Some reply → is_refusal_of_means reply ≡ false
usual_refusal a s t reply e =
    let all : Usually (act_refusal a s t) =
    usual_or _ _ (usual_if (is_retrieval a) _ _ tt (usual_standing s))
    (usual_or _ _ (usual_act a t []) (usual_or _ _ (usual_reservations (reservations_of s) (act_uses a [])) (usual_clash (act_clashes a t [])))) in
    subst Usually e all

usual_reserved : (before : List Name) (rs : List Reservation) (t : Tables) → Usually (reserved_names before rs t)
usual_reserved before [] t = tt
usual_reserved before (x ∷ xs) t =
    usual_or _ _ (usual_some x.relation (relation_named x.relation t))
    (usual_or _ _ (usual_if (is_among x.relation before) _ _ refl tt) (usual_reserved (x.relation ∷ before) xs t))

-- what a START_TRANSACTION is refused for by its reservations
pub usual_names : (rs : List Reservation) (t : Tables) (reply : Reply) → reserved_names [] rs t ≡ Some reply → is_refusal_of_means reply ≡ false
usual_names rs t reply e = subst Usually e (usual_reserved [] rs t)

usual_type : (kind : DefinedType) (t : Tables) → Usually (type_names kind t)
usual_type (Own type) t = tt
usual_type (BasedOn g) t = usual_some g (find chars_order g t.globals)

usual_fields : (before : List Name) (fs : List FieldDefinition) (t : Tables) → Usually (fields_names before fs t)
usual_fields before [] t = tt
usual_fields before (f ∷ fs) t =
    usual_or _ _ (usual_if (is_among f.name before) _ _ refl tt) (usual_or _ _ (usual_type f.kind t) (usual_fields (before ++ f.name ∷ []) fs t))

usual_key : (before ns : List Name) (fields : List Field) → Usually (index_fields_names before ns fields)
usual_key before [] fields = tt
usual_key before (n ∷ ns) fields =
    usual_or _ _ (usual_some n (place_of n fields)) (usual_or _ _ (usual_if (is_among n before) _ _ refl tt) (usual_key (n ∷ before) ns fields))

usual_index : (d : IndexDefinition) (t : Tables) → Usually (index_names d t)
usual_index d t =
    usual_or _ _ (usual_none d.name (find chars_order d.name t.indexes))
    (usual_or _ _ (usual_some d.relation (relation_named d.relation t)) (usual_key [] d.fields (fields_of (relation_named d.relation t))))

-- whether rows repeat a key that is to be unique
abbrev repeated : IndexDefinition → Tables → Refusal
repeated d t =
    if d.unique && keys_repeat (positions_of d.fields (fields_of (relation_named d.relation t))) (rows_of (relation_named d.relation t))
    then Some (r.Duplicate d.name) else None

usual_repeated : (d : IndexDefinition) (t : Tables) → Usually (repeated d t)
usual_repeated d t =
    usual_if (d.unique && keys_repeat (positions_of d.fields (fields_of (relation_named d.relation t))) (rows_of (relation_named d.relation t))) (Some (r.Duplicate d.name)) None refl tt

usual_key_length : (d : IndexDefinition) (t : Tables) → Usually (index_refusal d t)
usual_key_length d t =
    usual_if (nat_lt 120 (longest_key d.fields (fields_of (relation_named d.relation t)))) (Some r.TooLong) (repeated d t) refl (usual_repeated d t)

usual_definition_of : (c : Command) (s : Standing) (t : Tables) → Usually (refusal_of c s t)
usual_definition_of (define_field n type) s t = usual_or _ _ (usual_standing s) (usual_none n (find chars_order n t.globals))
usual_definition_of (define_relation n fs) s t =
    usual_or _ _ (usual_standing s) (usual_or _ _ (usual_none n (relation_named n t)) (usual_fields [] fs t))
usual_definition_of (define_index d) s t =
    usual_or _ _ (usual_standing s) (usual_or _ _ (usual_index d t)
    (usual_or _ _ (usual_reservations (reservations_of s) (use_of true d.relation ∷ [])) (usual_key_length d t)))
usual_definition_of (delete_relation n) s t =
    usual_or _ _ (usual_standing s) (usual_or _ _ (usual_some n (relation_named n t)) (usual_reservations (reservations_of s) (use_of true n ∷ [])))
usual_definition_of (delete_index n) s t =
    usual_or _ _ (usual_standing s) (usual_or _ _ (usual_some n (find chars_order n t.indexes)) (usual_reservations (reservations_of s) (index_uses (find chars_order n t.indexes) t)))
usual_definition_of (invoke x) s t = tt
usual_definition_of start_read_only s t = tt
usual_definition_of (start_read_write w rs) s t = tt
usual_definition_of commit s t = tt
usual_definition_of rollback s t = tt
usual_definition_of finish s t = tt
usual_definition_of (back_up n) s t = tt
usual_definition_of (perform a) s t = tt

-- what a definition or a deletion is refused for
pub usual_definition : (c : Command) (s : Standing) (t : Tables) (reply : Reply) → refusal_of c s t ≡ Some reply → is_refusal_of_means reply ≡ false
usual_definition c s t reply e = subst Usually e (usual_definition_of c s t)
