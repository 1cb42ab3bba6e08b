-- Where an index is one of some rows for two lists of fields, the same of the rows are come by.
use Rattle.std.proofs.Common.{◌≡◌, ℕ, Bool, true, false, cond, ◌&&◌, ◌||◌, List, [], ◌∷◌, map, refl, sym, ap, ◌∙◌, subst}
use Rattle.std.specs.declared.cmp.Ordering.{Ordering}
use Rattle.std.specs.declared.cmp.Ordering.TheVariants.{Less, Equal, Greater}
use Rattle.std.specs.Ordering.{is_eq, is_lt, eq_by_cmp}
use Rattle.std.specs.Cmp.{tied_itself}
use Rattle.std.specs.List.{AllByRecursion, filter, list_any}
use Rattle.std.specs.List.Sorted.{IsStrictlySortedBy}
use Rattle.rdb_types.specs.declared.keys.Dbkey.{Dbkey}
use Rattle.rdb_types.specs.Order.{dbkey_order}
use Rattle.rdb_types.specs.OrderLaws.{dbkey_total}
use Rattle.rdb_meaning.specs.declared.tables.Relation.{Relation}
use Rattle.rdb_meaning.specs.Contents.{Row}
use Rattle.line_view.specs.Knowledge.{Lines, IsInOrder}
use Rattle.relation_rows.specs.declared.stored.StoredRelation.{StoredRelation}
use Rattle.relation_rows.specs.Relations.{HasRows}
use Rattle.sorted_index_laws.specs.Keys.{Interval, only, between}
use Rattle.sorted_index_laws.specs.Tree.{pairs}
use Rattle.sorted_index_laws.proofs.OneTree.{one_tree}
use Rattle.access_paths.specs.declared.choice.Access.{Access}
use Rattle.access_paths.specs.declared.choice.Access.TheVariants.{Scan, Find, Range}
use Rattle.relation_rows.specs.Indexed.{pairs_of, IsIndexOf}
use Rattle.index_rows.specs.Given.{is_keyed, reached, Serves}
use Rattle.index_rows.proofs.Keyed.{finds, keyed, keyed_first, found_keyed, below_left}
use Rattle.index_rows.proofs.Standing.{rows_sorted}

same_pairs : (all : Lines) (root : Dbkey) (a b : List ℕ) (rows : List (Dbkey × Row)) → IsIndexOf all root a rows → IsIndexOf all root b rows → pairs_of a rows ≡ pairs_of b rows
same_pairs all root a b rows x y = sym x.holds ∙ one_tree all root.area x.level y.level x.tree y.tree x.is.stands y.is.stands (x.is.rooted ∙ sym y.is.rooted) ∙ y.holds

-- ---- rows in the order of their Dbkeys

above : (key : Dbkey) (test : Dbkey → Bool) (keys : List Dbkey) → AllByRecursion (λ k. dbkey_order key k ≡ Less) keys → list_any (λ k. test k && is_lt (dbkey_order key k)) keys ≡ list_any test keys
above key test [] below = refl
above key test (k ∷ ks) below = λ i. both (test k) (ap is_lt below.0) i || above key test ks below.1 i
  where
    both : (t : Bool) {l : Bool} → l ≡ true → (t && l) ≡ t
    both true h = h
    both false h = refl

none_equal : (key : Dbkey) (keys : List Dbkey) → AllByRecursion (λ k. dbkey_order key k ≡ Less) keys → list_any (eq_by_cmp dbkey_order key) keys ≡ false
none_equal key [] below = refl
none_equal key (k ∷ ks) below = λ i. is_eq (below.0 i) || none_equal key ks below.1 i

module _ (interval : Interval) (a b : List ℕ) where
  module _ (positions : List ℕ) (e : Dbkey × Row) (es : List (Dbkey × Row)) (below : AllByRecursion (λ k. dbkey_order e.0 k ≡ Less) (map (λ e. e.0) es)) where
    kept_below : AllByRecursion (λ k. dbkey_order e.0 k ≡ Less) (keyed interval (λ k. true) positions es)
    kept_below = below_left (is_keyed positions interval) e.0 es below

    first_alone : list_any (eq_by_cmp dbkey_order e.0) (keyed interval (λ k. true) positions (e ∷ es)) ≡ is_keyed positions interval e
    first_alone =
        keyed_first interval (eq_by_cmp dbkey_order e.0) positions e es
        ∙ (λ i. (is_keyed positions interval e && is_eq (tied_itself dbkey_total e.0 i)) || none_equal e.0 (keyed interval (λ k. true) positions es) kept_below i)
        ∙ alone (is_keyed positions interval e)
      where
        alone : (x : Bool) → ((x && true) || false) ≡ x
        alone true = refl
        alone false = refl

    others_alone : (test : Dbkey → Bool) → list_any (λ k. test k && is_lt (dbkey_order e.0 k)) (keyed interval (λ k. true) positions (e ∷ es)) ≡ list_any test (keyed interval (λ k. true) positions es)
    others_alone test =
        keyed_first interval (λ k. test k && is_lt (dbkey_order e.0 k)) positions e es
        ∙ (λ i. (is_keyed positions interval e && (test e.0 && is_lt (tied_itself dbkey_total e.0 i))) || above e.0 test (keyed interval (λ k. true) positions es) kept_below i)
        ∙ out (is_keyed positions interval e) (test e.0) (list_any test (keyed interval (λ k. true) positions es))
      where
        out : (x y z : Bool) → ((x && (y && false)) || z) ≡ z
        out true true z = refl
        out true false z = refl
        out false y z = refl

  same_keyed : (es : List (Dbkey × Row)) → IsStrictlySortedBy dbkey_order (map (λ e. e.0) es) → ((test : Dbkey → Bool) → list_any test (keyed interval (λ k. true) a es) ≡ list_any test (keyed interval (λ k. true) b es)) → AllByRecursion (λ e. is_keyed a interval e ≡ is_keyed b interval e) es
  unfolding IsStrictlySortedBy
  same_keyed [] sorted same = tt
  same_keyed (e ∷ es) sorted same = (
    sym (first_alone a e es sorted.0) ∙ same (eq_by_cmp dbkey_order e.0) ∙ first_alone b e es sorted.0,
    same_keyed es sorted.1 (λ test. sym (others_alone a e es sorted.0 test) ∙ same (λ k. test k && is_lt (dbkey_order e.0 k)) ∙ others_alone b e es sorted.0 test),
  )

-- ---- rows that are come by

module _ (all : Lines) (r : StoredRelation) (table : Relation) (sorted : IsInOrder all) (has : HasRows all r table) (a b : List ℕ) where
  by_index : (root : Dbkey) (interval : Interval) → IsIndexOf all root a table.rows → IsIndexOf all root b table.rows → AllByRecursion (λ e. is_keyed a interval e ≡ is_keyed b interval e) table.rows
  by_index root interval x y =
      same_keyed interval a b table.rows (rows_sorted r all table.rows sorted has.rows)
      (λ test. sym (found_keyed interval test a table.rows) ∙ ap (finds interval test) (same_pairs all root a b table.rows x y) ∙ found_keyed interval test b table.rows)

  all_same : (es : List (Dbkey × Row)) → AllByRecursion (λ e. true ≡ true) es
  all_same [] = tt
  all_same (e ∷ es) = (refl, all_same es)

  pub same_reached : (access : Access) → Serves all a table.rows access → Serves all b table.rows access → AllByRecursion (λ e. reached a access e ≡ reached b access e) table.rows
  same_reached Scan x y = all_same table.rows
  same_reached (Find root key) x y = by_index root (only key) x y
  same_reached (Range root bounds) x y = by_index root (between bounds) x y
