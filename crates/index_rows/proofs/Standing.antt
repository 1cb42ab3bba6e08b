-- The rows of a relation stand on lines of the map.
use Rattle.std.proofs.Common.{◌≡◌, ◌==◌, ℕ, Bool, true, false, cond, List, [], ◌∷◌, ◌++◌, map, Some, None, inl, inr, T, refl, sym, ap, subst, ◌∙◌}
use Rattle.std.specs.declared.cmp.Ordering.{Ordering}
use Rattle.std.specs.declared.cmp.Ordering.TheVariants.{Less, Equal, Greater}
use Rattle.std.specs.Ordering.{is_eq, is_lt}
use Rattle.std.specs.List.{AllByRecursion, filter}
use Rattle.std.specs.List.Sorted.{IsStrictlySortedBy}
use Rattle.std.specs.FinMap.Entries.{is_sorted, below_all, is_sorted-where_key, find-where_key}
use Rattle.std.proofs.lemmas.Bool.{and_parts, eq-eqb}
use Rattle.std.proofs.lemmas.Option.{none-some, same_Some}
use Rattle.rdb_types.specs.declared.values.Value.{Value}
use Rattle.rdb_types.specs.declared.keys.Dbkey.{Dbkey}
use Rattle.rdb_types.specs.Order.{dbkey_order}
use Rattle.rdb_types.specs.OrderLaws.{same_dbkey}
use Rattle.rdb_meaning.specs.Contents.{Row}
use Rattle.line_view.specs.Knowledge.{Knowledge, Lines, IsInOrder, Agrees, line_in, lines_in, keys_of}
use Rattle.line_view.proofs.Agreements.{Found, found_all, found_some}
use Rattle.relation_rows.specs.declared.stored.StoredRelation.{StoredRelation}
use Rattle.relation_rows.specs.declared.stored.StoredRow.{StoredRow}
use Rattle.relation_rows.specs.Stored.{IsRowOf, AreRowsOf, IsBadIn, completed}
use Rattle.relation_rows.specs.Relations.{stored_row}
use Rattle.relation_rows.proofs.OneRow.{same_row}
use Rattle.index_rows.specs.Reading.{AreRowsAt, IsNoRow, IsNoRowIn}

pub same_rows : (r : StoredRelation) (lines : Lines) (xs ys : List StoredRow) → AreRowsOf r lines xs → AreRowsOf r lines ys → xs ≡ ys
same_rows r [] [] [] a b = refl
same_rows r [] [] (y ∷ ys) a b = absurd b
same_rows r [] (x ∷ xs) ys a b = absurd a
same_rows r (l ∷ ls) [] ys a b = absurd a
same_rows r (l ∷ ls) (x ∷ xs) [] a b = absurd b
same_rows r (l ∷ ls) (x ∷ xs) (y ∷ ys) a b =
    let own : x.key ≡ y.key = a.0 ∙ sym b.0 in
    let row : x.row ≡ y.row = same_row r l.1 x.row y.row a.1 b.1 in
    let others : xs ≡ ys = same_rows r ls xs ys a.2 b.2 in
    λ i. record { key = own i; row = row i } ∷ others i

-- ---- the order of the rows

true_from_T : (b : Bool) → T b → b ≡ true
true_from_T true h = refl
true_from_T false h = absurd h

lines_sorted : (area : ℕ) (all : Lines) → IsInOrder all → is_sorted dbkey_order (lines_in area all) ≡ true
lines_sorted area all sorted = true_from_T _ (is_sorted-where_key dbkey_order (λ k. k.area == area) all (subst T (sym sorted) tt))

less : (r : Ordering) → is_lt r ≡ true → r ≡ Less
less Less e = refl
less Equal e = absurd (cc)
less Greater e = absurd (cc)

pub row_keys : (r : StoredRelation) (lines : Lines) (rows : List (Dbkey × Row)) → AreRowsOf r lines (map stored_row rows) → keys_of lines ≡ map (λ e. e.0) rows
row_keys r [] [] are = refl
row_keys r [] (e ∷ es) are = absurd are
row_keys r (l ∷ ls) [] are = absurd are
row_keys r (l ∷ ls) (e ∷ es) are = λ i. sym are.0 i ∷ row_keys r ls es are.2 i

keys_below : (key : Dbkey) (lines : Lines) → below_all dbkey_order key lines ≡ true → AllByRecursion (λ k. dbkey_order key k ≡ Less) (keys_of lines)
keys_below key [] below = tt
keys_below key (l ∷ ls) below =
    let parts = and_parts _ _ below in
    (less (dbkey_order key l.0) parts.0, keys_below key ls parts.1)

keys_sorted : (lines : Lines) → is_sorted dbkey_order lines ≡ true → IsStrictlySortedBy dbkey_order (keys_of lines)
unfolding IsStrictlySortedBy
keys_sorted [] sorted = tt
keys_sorted (l ∷ ls) sorted =
    let parts = and_parts _ _ sorted in
    (keys_below l.0 ls parts.0, keys_sorted ls parts.1)

pub rows_sorted : (r : StoredRelation) (all : Lines) (rows : List (Dbkey × Row)) → IsInOrder all → AreRowsOf r (lines_in r.area all) (map stored_row rows) → IsStrictlySortedBy dbkey_order (map (λ e. e.0) rows)
rows_sorted r all rows sorted are = subst (IsStrictlySortedBy dbkey_order) (row_keys r (lines_in r.area all) rows are) (keys_sorted (lines_in r.area all) (lines_sorted r.area all sorted))

-- ---- a line of their area

row_found : (r : StoredRelation) (key : Dbkey) (image : List ℕ) (lines : Lines) (rows : List StoredRow) → line_in key lines ≡ Some image → AreRowsOf r lines rows → (row : Row) × IsRowOf r image row
row_found r key image [] rows found are = absurd (none-some image found)
row_found r key image (l ∷ ls) [] found are = absurd are
row_found r key image (l ∷ ls) (x ∷ xs) found are =
    elim (is_eq (dbkey_order key l.0)) as (λ b. cond b (Some l.1) (line_in key ls) ≡ Some image → (row : Row) × IsRowOf r image row) [
      | true ↦ λ h. (x.row, subst (λ i. IsRowOf r i x.row) (same_Some l.1 image h) are.1)
      | false ↦ λ h. row_found r key image ls xs h are.2
    ] found

pub none_bad : (all : Lines) (r : StoredRelation) (rows : List StoredRow) (at : Dbkey) → at.area ≡ r.area → IsBadIn r at all → AreRowsOf r (lines_in r.area all) rows → ⊥
none_bad all r rows at within bad are =
    let alike : (key : Dbkey) → dbkey_order at key ≡ Equal → (key.area == r.area) ≡ (at.area == r.area) = λ key tied. ap (λ (k : Dbkey). k.area == r.area) (sym (same_dbkey at key tied)) in
    let found : line_in at (lines_in r.area all) ≡ Some bad.0 =
    find-where_key dbkey_order (λ key. key.area == r.area) at alike all ∙ ap (λ b. cond b (line_in at all) None) (eq-eqb at.area r.area within) ∙ bad.1 in
    let row = row_found r at bad.0 (lines_in r.area all) rows found are in
    bad.2 row.0 row.1

-- ---- their lines

module _ (all : Lines) (r : StoredRelation) where
  abbrev pub Stands : Dbkey × Row → Type 0
  Stands e = (image : List ℕ) × (line_in e.0 all ≡ Some image) × IsRowOf r image e.1

  stand : (lines : Lines) (rows : List (Dbkey × Row)) → Found all lines → AreRowsOf r lines (map stored_row rows) → AllByRecursion Stands rows
  stand [] [] found are = tt
  stand [] (e ∷ es) found are = absurd are
  stand (l ∷ ls) [] found are = absurd are
  stand (l ∷ ls) (e ∷ es) found are = ((l.1, ap (λ k. line_in k all) are.0 ∙ found.0, are.1), stand ls es found.1 are.2)

  pub rows_stand : (rows : List (Dbkey × Row)) → IsInOrder all → AreRowsOf r (lines_in r.area all) (map stored_row rows) → AllByRecursion Stands rows
  rows_stand rows sorted are = stand (lines_in r.area all) rows (found_some all all (λ e. e.0.area == r.area) (found_all all sorted)) are

  pub stand_left : (p : Dbkey × Row → Bool) (rows : List (Dbkey × Row)) → AllByRecursion Stands rows → AllByRecursion Stands (filter p rows)
  stand_left p [] stands = tt
  stand_left p (e ∷ es) stands =
      elim (p e) as (λ b. AllByRecursion Stands (cond b (e ∷ filter p es) (filter p es))) [
        | true ↦ (stands.0, stand_left p es stands.1)
        | false ↦ stand_left p es stands.1
      ]

  module _ (known : Knowledge) (agrees : Agrees known all) where
    pub rows_match : (keys : List Dbkey) (rows : List (Dbkey × Row)) (given : List StoredRow) → keys ≡ map (λ e. e.0) rows → AllByRecursion Stands rows → AreRowsAt known r keys given → given ≡ map stored_row rows
    rows_match [] [] [] same stands are = refl
    rows_match [] [] (x ∷ xs) same stands are = absurd are
    rows_match [] (e ∷ es) xs same stands are = absurd (cc)
    rows_match (key ∷ keys) [] xs same stands are = absurd (cc)
    rows_match (key ∷ keys) (e ∷ es) [] same stands are = absurd are
    rows_match (key ∷ keys) (e ∷ es) (x ∷ xs) same stands are =
        let first : key ≡ e.0 = cc in
        let rest : keys ≡ map (λ e. e.0) es = cc in
        let image : are.1.0 ≡ stands.0.0 = same_Some _ _ (agrees.line key (Some are.1.0) are.1.1 ∙ ap (λ k. line_in k all) first ∙ stands.0.1) in
        let row : x.row ≡ e.1 = same_row r stands.0.0 x.row e.1 (subst (λ i. IsRowOf r i x.row) image are.1.2) stands.0.2 in
        let own : x.key ≡ e.0 = are.0 ∙ first in
        let others : xs ≡ map stored_row es = rows_match keys es xs rest stands.1 are.2 in
        λ i. record { key = own i; row = row i } ∷ others i

    stands_at : (before : List Dbkey) (key : Dbkey) (behind : List Dbkey) (rows : List (Dbkey × Row)) → before ++ key ∷ behind ≡ map (λ e. e.0) rows → AllByRecursion Stands rows → (image : List ℕ) × (line_in key all ≡ Some image) × ((row : Row) × IsRowOf r image row)
    stands_at [] key behind [] same stands = absurd (cc)
    stands_at [] key behind (e ∷ es) same stands =
        let first : key ≡ e.0 = cc in
        (stands.0.0, ap (λ k. line_in k all) first ∙ stands.0.1, (e.1, stands.0.2))
    stands_at (b ∷ bs) key behind [] same stands = absurd (cc)
    stands_at (b ∷ bs) key behind (e ∷ es) same stands =
        let rest : bs ++ key ∷ behind ≡ map (λ e. e.0) es = cc in
        stands_at bs key behind es rest stands.1

    pub no_row_in : (keys : List Dbkey) (at : Dbkey) → IsNoRow known r keys at → IsNoRowIn r at all
    no_row_in keys at bad = elim bad.fault as (λ f. IsNoRowIn r at all) [
      | inl absent ↦ inl (sym (agrees.line at None absent))
      | inr none ↦ inr (none.0, sym (agrees.line at (Some none.0) none.1), none.2)
    ]

    pub no_fault : (keys : List Dbkey) (rows : List (Dbkey × Row)) (at : Dbkey) → keys ≡ map (λ e. e.0) rows → AllByRecursion Stands rows → IsNoRow known r keys at → ⊥
    no_fault keys rows at same stands bad =
        let line = stands_at bad.before at bad.behind rows (sym bad.stands ∙ same) stands in
        elim (no_row_in keys at bad) as (λ f. ⊥) [
          | inl absent ↦ none-some line.0 (sym absent ∙ line.1)
          | inr none ↦ none.2 line.2.0 (subst (λ i. IsRowOf r i line.2.0) (same_Some _ _ (sym line.1 ∙ none.1)) line.2.1)
        ]
