-- The variables of a FOR, bound to a tuple, behind those around it.
use Rattle.std.proofs.Common.{◌≡◌, ℕ, ◌+◌, ◌<◌, ◌≤◌, List, [], ◌∷◌, ◌++◌, length, drop, get_or, Option, Some, refl, sym, ap, subst, ◌∙◌, arith, append-nil, append_assoc}
use Rattle.std.specs.Prelude.{slice_get}
use Rattle.std.specs.List.{AllByRecursion}
use Rattle.std.proofs.lemmas.List.{map-append, at_drop_more, at_drop_all}
use Rattle.std.proofs.lemmas.Option.{slice_get-get_or}
use Rattle.rdb_types.specs.declared.keys.Dbkey.{Dbkey}
use Rattle.rdo_ast.specs.declared.syntax.Range.{Range}
use Rattle.rdb_meaning.specs.declared.tables.Tables.{Tables}
use Rattle.rdb_meaning.specs.Contents.{relation_named}
use Rattle.rdb_meaning.specs.Evaluation.{Scope, bind_source, bindings_of, bind_tuple}
use Rattle.rdo_values.specs.declared.bound.BoundRange.{BoundRange}
use Rattle.rdo_values.specs.Rows.{variable_of, variables_of}
use Rattle.rdo_values.specs.Places.{IsRangeOf, AreRanges}
use Rattle.rdo_select.specs.Crossed.{ranges_of}
use Rattle.rdo_acts.specs.declared.scope.BoundRow.{BoundRow}
use Rattle.rdo_acts.specs.Scopes.{binding_of, scope_of, AreRowsOf}

-- ---- the Dbkeys of the tuple

-- with these bound, the others are to be bound to the rest of the tuple
pub record IsBinding (scope : List BoundRow) (ranges : List BoundRange) (tuple : List Dbkey) (bound : List BoundRow) (at : ℕ) : Type 0 where
  pub keys : length tuple ≡ length ranges → bind_tuple (ranges_of ranges) tuple (scope_of scope) ≡ scope_of bound ++ bindings_of (ranges_of (drop at ranges)) (drop at tuple)
  pub variables : variables_of (scope_of scope) ++ ranges_of ranges ≡ variables_of (scope_of bound) ++ ranges_of (drop at ranges)
  pub rows : (t : Tables) → AreRowsOf t scope → AreRanges ranges t → AreRowsOf t bound × AreRanges (drop at ranges) t

pub none_bound : (scope : List BoundRow) (ranges : List BoundRange) (tuple : List Dbkey) (copy : List BoundRow) → copy ≡ scope → IsBinding scope ranges tuple copy 0
none_bound scope ranges tuple copy is =
    subst (λ (c : List BoundRow). IsBinding scope ranges tuple c 0) (sym is) (record { keys = λ same. refl; variables = refl; rows = λ t are ranges. (are, ranges) })

scope_joined : (bound : List BoundRow) (v : BoundRow) → scope_of (bound ++ v ∷ []) ≡ scope_of bound ++ binding_of v ∷ []
scope_joined bound v = map-append binding_of bound (v ∷ [])

all_joined : {X : Type 0} (P : X → Type 0) (xs : List X) (x : X) → AllByRecursion P xs → P x → AllByRecursion P (xs ++ x ∷ [])
all_joined P [] x each one = (one, tt)
all_joined P (y ∷ ys) x each one = (each.0, all_joined P ys x each.1 one)

key_there : (key : Option Dbkey) (tuple : List Dbkey) (at : ℕ) → key ≡ slice_get tuple at → at < length tuple → (k : Dbkey) × (key ≡ Some k) × (drop at tuple ≡ k ∷ drop (at + 1) tuple)
key_there key [] at is within = absurd (omega arith)
key_there key (k ∷ ks) at is within = (get_or (k ∷ ks) at k, is ∙ slice_get-get_or (k ∷ ks) at k within, at_drop_more (λ l. l) (k ∷ ks) at k within)

module _ (scope : List BoundRow) (ranges : List BoundRange) (tuple : List Dbkey) (bound after : List BoundRow) (at : ℕ) (v : BoundRow) (within : at < length ranges) (read : v.range.now ≡ get_or ranges at v.range.now)
    (pushed : after ≡ bound ++ v ∷ []) (so : IsBinding scope ranges tuple bound at) where
  abbrev s : BoundRange
  s = v.range.now

  left : drop at ranges ≡ s ∷ drop (at + 1) ranges
  left = at_drop_more (λ (l : List BoundRange). l) ranges at s within ∙ ap (λ (x : BoundRange). x ∷ drop (at + 1) ranges) (sym read)

  tuple_more : v.key ≡ slice_get tuple at → length tuple ≡ length ranges → bind_tuple (ranges_of ranges) tuple (scope_of scope) ≡ scope_of after ++ bindings_of (ranges_of (drop (at + 1) ranges)) (drop (at + 1) tuple)
  tuple_more is same =
      let own = key_there v.key tuple at is (omega (arith, within, same)) in
      let rest = bindings_of (ranges_of (drop (at + 1) ranges)) (drop (at + 1) tuple) in
      so.keys same
      ∙ ap (λ (l : List BoundRange). scope_of bound ++ bindings_of (ranges_of l) (drop at tuple)) left
      ∙ ap (λ (l : List Dbkey). scope_of bound ++ bindings_of (ranges_of (s ∷ drop (at + 1) ranges)) l) own.2
      ∙ ap (λ (k : Option Dbkey). scope_of bound ++ bind_source s.range k ∷ rest) (sym own.1)
      ∙ sym (append_assoc (scope_of bound) (binding_of v ∷ []) rest)
      ∙ ap (λ (x : Scope). x ++ rest) (sym (scope_joined bound v) ∙ ap scope_of (sym pushed))

  variables_more : variables_of (scope_of scope) ++ ranges_of ranges ≡ variables_of (scope_of after) ++ ranges_of (drop (at + 1) ranges)
  variables_more =
      let rest = ranges_of (drop (at + 1) ranges) in
      so.variables ∙ ap (λ (l : List BoundRange). variables_of (scope_of bound) ++ ranges_of l) left
      ∙ sym (append_assoc (variables_of (scope_of bound)) (s.range ∷ []) rest)
      ∙ ap (λ (x : List Range). x ++ rest) (sym (map-append variable_of (scope_of bound) (binding_of v ∷ [])) ∙ ap variables_of (sym (scope_joined bound v) ∙ ap scope_of (sym pushed)))

  rows_more : (t : Tables) → AreRowsOf t scope → AreRanges ranges t → AreRowsOf t after × AreRanges (drop (at + 1) ranges) t
  rows_more t are all =
      let now = so.rows t are all in
      let others = subst (λ (l : List BoundRange). AreRanges l t) left now.1 in
      (subst (AreRowsOf t) (sym pushed) (all_joined (λ (x : BoundRow). IsRangeOf x.range.now (relation_named x.range.now.range.relation t)) bound v now.0 others.0), others.1)

  -- one variable more
  pub one_bound : v.key ≡ slice_get tuple at → IsBinding scope ranges tuple after (at + 1)
  one_bound is = record { keys = tuple_more is; variables = variables_more; rows = rows_more }

-- ---- all are bound

module _ (scope : List BoundRow) (ranges : List BoundRange) (tuple : List Dbkey) (bound : List BoundRow) (at : ℕ) (all : length ranges ≤ at) (so : IsBinding scope ranges tuple bound at) where
  pub tuple_bound : length tuple ≡ length ranges → scope_of bound ≡ bind_tuple (ranges_of ranges) tuple (scope_of scope)
  tuple_bound same =
      sym (so.keys same ∙ at_drop_all (λ (l : List BoundRange). scope_of bound ++ bindings_of (ranges_of l) (drop at tuple)) ranges at all ∙ append-nil (scope_of bound))

  pub variables_bound : variables_of (scope_of bound) ≡ variables_of (scope_of scope) ++ ranges_of ranges
  variables_bound = sym (so.variables ∙ at_drop_all (λ (l : List BoundRange). variables_of (scope_of bound) ++ ranges_of l) ranges at all ∙ append-nil (variables_of (scope_of bound)))

  pub rows_bound : (t : Tables) → AreRowsOf t scope → AreRanges ranges t → AreRowsOf t bound
  rows_bound t are each = (so.rows t are each).0
