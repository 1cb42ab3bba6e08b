-- What asks for EX on a line stores, modifies, erases, defines or deletes.
use Rattle.std.proofs.Common.{◌≡◌, ℕ, ◌++◌, ◌∷◌, [], ◌==◌, ◌||◌, ◌&&◌, not, Bool, true, false, List, refl, ◌∙◌, sym, ap, Option, Some, None}
use Rattle.std.specs.List.{list_any, AllByRecursion}
use Rattle.std.proofs.lemmas.Bool.{false≢true, and_parts}
use Rattle.rdb_types.specs.declared.keys.Dbkey.{Dbkey}
use Rattle.rdo_ast.specs.declared.syntax.Reservation.{Reservation}
use Rattle.rdo_ast.specs.declared.syntax.Range.{Range}
use Rattle.rdo_ast.specs.Tree.{Expression, number, text, field, negative, chain, count, statistic, Operations, no_operation, operation, Testing, compare, between, containing, starting_with, missing, any, negated, group, Conjunction, no_test, test, Condition, no_conjunction, conjunction, With, without_condition, with_condition, Ranging, ranging, Shown, value, all_fields, Act, store, for_each, print, modify, erase, Acts, no_act, act, Uttered, said, syntax_fault, invoke, start_read_only, start_read_write, commit, rollback, finish, back_up, perform, define_field, define_relation, define_index, delete_relation, delete_index}
use Rattle.rdb_meaning.specs.declared.tables.Relation.{Relation}
use Rattle.rdb_meaning.specs.declared.tables.Tables.{Tables}
use Rattle.rdb_meaning.specs.Contents.{relation_named, indexes_on}
use Rattle.rdb_meaning.specs.Evaluation.{Scope}
use Rattle.rdb_meaning.specs.Checks.{Use, source_uses, expression_uses, operations_uses, testing_uses, conjunction_uses, condition_uses, with_uses, ranging_uses, shown_uses, act_uses, acts_uses, is_retrieval, are_retrievals}
use Rattle.vms_queues.specs.declared.lock_mode.Mode.{Mode}
use Rattle.vms_queues.specs.declared.lock_mode.Mode.TheVariants.{PR, EX}
use Rattle.lock_needs.specs.declared.need.Need.{Need}
use Rattle.rdb_account.specs.Events.{need}
use Rattle.rdb_account.specs.AskedFor.{area_node, is_need, is_on_line_of, area_asks, relation_asks, use_asks, uses_ask, is_reserved, reservations_ask, item_asks}
use Rattle.rdb_account.specs.Lawful.{is_change}
use Rattle.kept_apart.specs.Guards.{line_node}

-- ---- expressions and retrievals change nothing

abbrev AreRead : List Use → Type 0
AreRead = AllByRecursion (λ u. u.changes ≡ false)

both-read : (us vs : List Use) → AreRead us → AreRead vs → AreRead (us ++ vs)
both-read [] vs h k = k
both-read (u ∷ us) vs h k = (h.0, both-read us vs h.1 k)

sources-read : (ss : List Range) → AreRead (source_uses ss)
sources-read [] = tt
sources-read (s ∷ ss) = (refl, sources-read ss)

mutual
  expression-reads : (e : Expression) → AreRead (expression_uses e)
  expression-reads (number n scale) = tt
  expression-reads (text s) = tt
  expression-reads (field r) = tt
  expression-reads (negative e) = expression-reads e
  expression-reads (chain e os) = both-read (expression_uses e) (operations_uses os) (expression-reads e) (operations-read os)
  expression-reads (count r) = ranging-reads r
  expression-reads (statistic s e r) = both-read (expression_uses e) (ranging_uses r) (expression-reads e) (ranging-reads r)

  operations-read : (os : Operations) → AreRead (operations_uses os)
  operations-read no_operation = tt
  operations-read (operation op e os) = both-read (expression_uses e) (operations_uses os) (expression-reads e) (operations-read os)

  testing-reads : (c : Testing) → AreRead (testing_uses c)
  testing-reads (compare op a b) = both-read (expression_uses a) (expression_uses b) (expression-reads a) (expression-reads b)
  testing-reads (between a low high) =
      both-read (expression_uses a) (expression_uses low ++ expression_uses high) (expression-reads a) (both-read (expression_uses low) (expression_uses high) (expression-reads low) (expression-reads high))
  testing-reads (containing a b) = both-read (expression_uses a) (expression_uses b) (expression-reads a) (expression-reads b)
  testing-reads (starting_with a b) = both-read (expression_uses a) (expression_uses b) (expression-reads a) (expression-reads b)
  testing-reads (missing e) = expression-reads e
  testing-reads (any r) = ranging-reads r
  testing-reads (negated c) = testing-reads c
  testing-reads (group c) = condition-reads c

  conjunction-reads : (c : Conjunction) → AreRead (conjunction_uses c)
  conjunction-reads no_test = tt
  conjunction-reads (test c cs) = both-read (testing_uses c) (conjunction_uses cs) (testing-reads c) (conjunction-reads cs)

  condition-reads : (c : Condition) → AreRead (condition_uses c)
  condition-reads no_conjunction = tt
  condition-reads (conjunction c cs) = both-read (conjunction_uses c) (condition_uses cs) (conjunction-reads c) (condition-reads cs)

  with-reads : (w : With) → AreRead (with_uses w)
  with-reads without_condition = tt
  with-reads (with_condition c) = condition-reads c

  ranging-reads : (r : Ranging) → AreRead (ranging_uses r)
  ranging-reads (ranging first ss c) = both-read (source_uses ss) (with_uses c) (sources-read ss) (with-reads c)

shown-read : (items : List Shown) → AreRead (shown_uses items)
shown-read [] = tt
shown-read (value e ∷ items) = both-read (expression_uses e) (shown_uses items) (expression-reads e) (shown-read items)
shown-read (all_fields n ∷ items) = shown-read items

mutual
  retrieval-reads : (a : Act) (scope : Scope) → is_retrieval a ≡ true → AreRead (act_uses a scope)
  retrieval-reads (store s as') scope h = absurd (false≢true h)
  retrieval-reads (for_each r cs body) scope h = both-read (ranging_uses r) (acts_uses body _) (ranging-reads r) (retrievals-read body _ h)
  retrieval-reads (print items) scope h = shown-read items
  retrieval-reads (modify n as') scope h = absurd (false≢true h)
  retrieval-reads (erase n) scope h = absurd (false≢true h)

  retrievals-read : (as' : Acts) (scope : Scope) → are_retrievals as' ≡ true → AreRead (acts_uses as' scope)
  retrievals-read no_act scope h = tt
  retrievals-read (act a rest) scope h =
      let parts = and_parts (is_retrieval a) (are_retrievals rest) h in
      both-read (act_uses a scope) (acts_uses rest scope) (retrieval-reads a scope parts.0) (retrievals-read rest scope parts.1)

-- ---- and so ask for no EX on a line

abbrev pub line_lock : Dbkey → Need
line_lock key = need (line_node key) EX

and-false : (b : Bool) → (b && false) ≡ false
and-false true = refl
and-false false = refl

none-any : {A : Type 0} (f : A → Bool) → ((x : A) → f x ≡ false) → (xs : List A) → list_any f xs ≡ false
none-any f h [] = refl
none-any f h (x ∷ xs) = ap (λ b. b || list_any f xs) (h x) ∙ none-any f h xs

no-area : (area : ℕ) (m : Mode) (key : Dbkey) → is_need (area_node area) m (line_lock key) ≡ false
no-area area m key = refl

no-read : (area : ℕ) (key : Dbkey) → is_on_line_of area PR (line_lock key) ≡ false
no-read area key = and-false (key.area == area)

area-silent : (area : ℕ) (key : Dbkey) → area_asks (line_lock key) false area ≡ false
area-silent area key = ap (λ b. b || false) (no-read area key)

relation-silent : (t : Tables) (key : Dbkey) (r : Option Relation) → relation_asks t (line_lock key) false r ≡ false
relation-silent t key None = refl
relation-silent t key (Some r) =
    ap (λ b. b || list_any (λ e. area_asks (line_lock key) false e.1.area) (indexes_on r.area t)) (area-silent r.area key)
    ∙ none-any (λ e. area_asks (line_lock key) false e.1.area) (λ e. area-silent e.1.area key) (indexes_on r.area t)

use-silent : (t : Tables) (key : Dbkey) (u : Use) → u.changes ≡ false → use_asks t (line_lock key) u ≡ false
use-silent t key u h = ap (λ b. relation_asks t (line_lock key) b (relation_named u.relation t)) h ∙ relation-silent t key (relation_named u.relation t)

any-silent : (t : Tables) (key : Dbkey) (us : List Use) → AreRead us → list_any (use_asks t (line_lock key)) us ≡ false
any-silent t key [] h = refl
any-silent t key (u ∷ us) h = ap (λ b. b || list_any (use_asks t (line_lock key)) us) (use-silent t key u h.0) ∙ any-silent t key us h.1

uses-silent : (t : Tables) (key : Dbkey) (us : List Use) → AreRead us → uses_ask t (line_lock key) us ≡ false
uses-silent t key [] h = refl
uses-silent t key (u ∷ us) h = any-silent t key (u ∷ us) h

one-silent : (t : Tables) (key : Dbkey) (y : Reservation) (r : Option Relation) → is_reserved (line_lock key) y r ≡ false
one-silent t key y None = refl
one-silent t key y (Some r) = refl

reservations-silent : (t : Tables) (key : Dbkey) (rs : List Reservation) → reservations_ask t (line_lock key) rs ≡ false
reservations-silent t key [] = refl
reservations-silent t key (x ∷ xs) = none-any (λ y. is_reserved (line_lock key) y (relation_named y.relation t)) (λ y. one-silent t key y (relation_named y.relation t)) (x ∷ xs)

-- ---- what asks for it changes

pub asks-change : (t : Tables) (key : Dbkey) (item : Uttered) → item_asks None t (line_lock key) item ≡ true → is_change item ≡ true
asks-change t key (syntax_fault line column) h = absurd (false≢true h)
asks-change t key (said (invoke name)) h = absurd (false≢true h)
asks-change t key (said start_read_only) h = absurd (false≢true h)
asks-change t key (said (start_read_write wait rs)) h = absurd (false≢true (sym (reservations-silent t key rs) ∙ h))
asks-change t key (said commit) h = absurd (false≢true h)
asks-change t key (said rollback) h = absurd (false≢true h)
asks-change t key (said finish) h = absurd (false≢true h)
asks-change t key (said (back_up n)) h = absurd (false≢true h)
asks-change t key (said (perform a)) h = by (is_retrieval a) refl
  where
    by : (b : Bool) → is_retrieval a ≡ b → not (is_retrieval a) ≡ true
    by false e = ap not e
    by true e = absurd (false≢true (sym (uses-silent t key (act_uses a []) (retrieval-reads a [] e)) ∙ h))
asks-change t key (said (define_field n type)) h = refl
asks-change t key (said (define_relation n fs)) h = refl
asks-change t key (said (define_index d)) h = refl
asks-change t key (said (delete_relation n)) h = refl
asks-change t key (said (delete_index n)) h = refl
