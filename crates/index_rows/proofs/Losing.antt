-- The access that is chosen leaves out only rows that the tests pass over.
use Rattle.std.proofs.Common.{◌≡◌, ◌≢◌, ℕ, zero, suc, ◌<◌, Bool, true, false, not, ◌&&◌, List, [], ◌∷◌, ◌++◌, length, slice_index_or, inl, inr, refl, ap, sym, subst, ◌∙◌, arith}
use Rattle.std.specs.Ordering.{is_lt, is_gt}
use Rattle.std.specs.List.{AllByRecursion}
use Rattle.std.specs.Cmp.{tied_itself}
use Rattle.rdb_types.specs.declared.keys.Dbkey.{Dbkey}
use Rattle.rdb_types.specs.declared.values.Value.TheVariants.{Missing}
use Rattle.rdb_meaning.specs.Comparison.{Verdict, chosen, passed_over, undecided}
use Rattle.rdb_meaning.specs.Contents.{Row, key_of}
use Rattle.rdo_values.specs.Tree.{Conjunction}
use Rattle.rdo_values.specs.Filled.{parts_at}
use Rattle.rdb_types.specs.Order.{row_order}
use Rattle.rdb_types.specs.OrderLaws.{row_total}
use Rattle.line_view.specs.Knowledge.{Lines}
use Rattle.sorted_index_laws.specs.Keys.{is_within, between}
use Rattle.sorted_index_laws.specs.Nodes.{AnyByRecursion}
use Rattle.access_paths.specs.declared.choice.IndexPath.{IndexPath}
use Rattle.access_paths.specs.declared.choice.Access.{Access}
use Rattle.access_paths.specs.declared.choice.Access.TheVariants.{Scan, Find, Range}
use Rattle.access_paths.specs.Choice.{choice}
use Rattle.access_paths.specs.Reached.{IsWide, Reaches, IsOfRoot}
use Rattle.access_paths.proofs.Reaching as access
use Rattle.access_paths.proofs.Rooted.{rooted}
use Rattle.relation_rows.specs.Indexed.{IsIndexOf, HasPositions}
use Rattle.index_rows.specs.Indexed.{AreIndexesOf}
use Rattle.index_rows.specs.Given.{reached, Serves, LosesNone}
use Rattle.index_rows.proofs.Chosen.{chosen_by_one}

module _ (before : Row) (tests : Conjunction) where
  module _ (all : Lines) (rows : List (Dbkey × Row)) where
    serves_by : (root : Dbkey) (positions : List ℕ) (a : Access) → IsOfRoot root a → IsIndexOf all root positions rows → Serves all positions rows a
    serves_by root positions Scan is index = tt
    serves_by root positions (Find own key) is index = subst (λ root. IsIndexOf all root positions rows) is index
    serves_by root positions (Range own bounds) is index = subst (λ root. IsIndexOf all root positions rows) is index

    -- ---- a row that is left out

    within_own : (k wanted : Row) → k ≡ wanted → (not (is_lt (row_order k wanted)) && not (is_gt (row_order k wanted))) ≡ true
    within_own k wanted same = ap (λ o. not (is_lt o) && not (is_gt o)) (ap (λ k. row_order k wanted) same ∙ tied_itself row_total wanted)

    value_there : (row behind : Row) (p : ℕ) → p < length row → slice_index_or (row ++ behind) p Missing ≡ slice_index_or row p Missing
    value_there [] behind p h = absurd (omega arith)
    value_there (v ∷ row) behind zero h = refl
    value_there (v ∷ row) behind (suc p) h = value_there row behind p (omega arith)

    key_there : (positions : List ℕ) (row behind : Row) → HasPositions positions row → key_of positions (row ++ behind) ≡ key_of positions row
    key_there [] row behind h = refl
    key_there (p ∷ ps) row behind h = λ i. value_there row behind p h.0 i ∷ key_there ps row behind h.1 i

    reached_one : (x : IndexPath) (e : Dbkey × Row) (behind : Row) (a : Access) → HasPositions x.fields e.1 → Reaches (x ∷ []) (e.1 ++ behind) a → reached x.fields a e ≡ true
    reached_one x e behind Scan has h = refl
    reached_one x e behind (Find root wanted) has h = elim h as (λ h. reached x.fields (Find root wanted) e ≡ true) [
      | inl own ↦ within_own (key_of x.fields e.1) wanted (sym (key_there x.fields e.1 behind has) ∙ own.1)
      | inr none ↦ absurd none
    ]
    reached_one x e behind (Range root bounds) has h = elim h as (λ h. reached x.fields (Range root bounds) e ≡ true) [
      | inl own ↦ ap (is_within (between bounds)) (sym (key_there x.fields e.1 behind has)) ∙ own.1
      | inr none ↦ absurd none
    ]

    true_false : (b : Bool) → b ≡ true → b ≡ false → ⊥
    true_false b h k = cc

    passed : (v : Verdict) → (v ≢ passed_over → ⊥) → v ≡ passed_over
    passed chosen h = absurd (h (λ e. cc))
    passed passed_over h = refl
    passed undecided h = absurd (h (λ e. cc))

    both_wide : (a b : Row) → AllByRecursion IsWide a → AllByRecursion IsWide b → AllByRecursion IsWide (a ++ b)
    both_wide [] b h k = k
    both_wide (v ∷ vs) b h k = (h.0, both_wide vs b h.1 k)

    abbrev IsLeftOut : List ℕ → Access → Dbkey × Row → Type 0
    IsLeftOut positions a e = reached positions a e ≡ false → (behind : Row) → AllByRecursion IsWide behind → parts_at (before ++ (e.1 ++ behind)) tests ≡ passed_over

    left_out : (x : IndexPath) (es : List (Dbkey × Row)) → AllByRecursion (λ e. HasPositions x.fields e.1) es → AllByRecursion (λ e. AllByRecursion IsWide e.1) es → AllByRecursion (IsLeftOut x.fields (choice (x ∷ []) before tests)) es
    left_out x [] has wide = tt
    left_out x (e ∷ es) has wide = (
      λ out behind more.
          passed (parts_at (before ++ (e.1 ++ behind)) tests)
          (λ kept. true_false _ (reached_one x e behind (choice (x ∷ []) before tests) has.0 (access.reached (x ∷ []) tests before (e.1 ++ behind) (both_wide e.1 behind wide.0 more) kept)) out),
      left_out x es has.1 wide.1,
    )

    loses_none_by : (x : IndexPath) → IsOfRoot x.root (choice (x ∷ []) before tests) → IsIndexOf all x.root x.fields rows → AllByRecursion (λ e. HasPositions x.fields e.1) rows → AllByRecursion (λ e. AllByRecursion IsWide e.1) rows → LosesNone all rows (choice (x ∷ []) before tests) before tests
    loses_none_by x rooted index has wide = record {
      positions = x.fields;
      serves = serves_by x.root x.fields (choice (x ∷ []) before tests) rooted index;
      left_out = left_out x rows has wide;
    }

    all_scanned : (es : List (Dbkey × Row)) → AllByRecursion (IsLeftOut [] Scan) es
    all_scanned [] = tt
    all_scanned (e ∷ es) = ((λ out. absurd (true_false true refl out)), all_scanned es)

    scan_loses_none : LosesNone all rows Scan before tests
    scan_loses_none = record { positions = []; serves = tt; left_out = all_scanned rows }

    loses_none_by_some : (xs : List IndexPath) (a : Access) → AreIndexesOf all xs rows → AllByRecursion (λ e. AllByRecursion IsWide e.1) rows → AnyByRecursion (λ x. choice (x ∷ []) before tests ≡ a) xs → LosesNone all rows a before tests
    loses_none_by_some [] a indexes wide some = absurd some
    loses_none_by_some (x ∷ xs) a indexes wide some = elim some as (λ s. LosesNone all rows a before tests) [
      | inl own ↦ subst (λ a. LosesNone all rows a before tests) own (loses_none_by x (rooted before tests x) indexes.0.0 indexes.0.1 wide)
      | inr later ↦ loses_none_by_some xs a indexes.1 wide later
    ]

pub loses_none : (all : Lines) (rows : List (Dbkey × Row)) (indexes : List IndexPath) (before : Row) (tests : Conjunction) → AreIndexesOf all indexes rows → AllByRecursion (λ e. AllByRecursion IsWide e.1) rows → LosesNone all rows (choice indexes before tests) before tests
loses_none all rows indexes before tests are wide =
    chosen_by_one before tests (λ a. LosesNone all rows a before tests) indexes (scan_loses_none before tests all rows) (λ a some. loses_none_by_some before tests all rows indexes a are wide some)
