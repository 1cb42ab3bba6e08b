-- The rows of a relation behind a write of one of its lines.
use Rattle.std.proofs.Common.{◌≡◌, ◌==◌, ℕ, Bool, true, false, cond, not, List, [], ◌∷◌, map, Option, Some, None, T, refl, sym, ap, subst, ◌∙◌}
use Rattle.std.specs.declared.cmp.Ordering.{Ordering}
use Rattle.std.specs.declared.cmp.Ordering.TheVariants.{Less, Equal, Greater}
use Rattle.std.specs.Ordering.{is_eq}
use Rattle.std.specs.List.{filter}
use Rattle.std.specs.FinMap.Entries.{put, by_order, is_sorted, find-put, find-where_key, is_sorted-put, is_sorted-where_key, same_entries}
use Rattle.std.proofs.lemmas.Bool.{eq-eqb, ne_eqb}
use Rattle.rdb_types.specs.declared.values.Value.{Value}
use Rattle.rdb_types.specs.declared.keys.Dbkey.{Dbkey}
use Rattle.rdb_types.specs.Order.{dbkey_order}
use Rattle.rdb_types.specs.OrderLaws.{dbkey_total, same_dbkey}
use Rattle.rdb_meaning.specs.Contents.{Row}
use Rattle.line_view.specs.Knowledge.{Lines, IsInOrder, line_in, lines_in, laid}
use Rattle.line_view.proofs.FullMap.{other_area}
use Rattle.relation_rows.specs.declared.stored.StoredRelation.{StoredRelation}
use Rattle.relation_rows.specs.Stored.{IsRowOf, AreRowsOf}
use Rattle.relation_rows.specs.Relations.{stored_row}

-- ---- the lines of the area

equal : (r : Ordering) → is_eq r ≡ true → r ≡ Equal
equal Less e = absurd (cc)
equal Equal e = refl
equal Greater e = absurd (cc)

swapped : (held same : Bool) (new was : Option (List ℕ)) → (same ≡ true → held ≡ true) → cond held (cond same new was) None ≡ cond same new (cond held was None)
swapped true true new was tied = refl
swapped true false new was tied = refl
swapped false true new was tied = absurd (let bad : false ≡ true = tied refl in cc)
swapped false false new was tied = refl

alike : (area : ℕ) (q x : Dbkey) → dbkey_order q x ≡ Equal → (x.area == area) ≡ (q.area == area)
alike area q x tie = ap (λ (k : Dbkey). k.area == area) (sym (same_dbkey q x tie))

-- the lines of its area behind a write are those before it with this line put
put_within : (key : Dbkey) (image : List ℕ) (area : ℕ) (all : Lines) → key.area ≡ area → IsInOrder all → lines_in area (put dbkey_order key image all) ≡ put dbkey_order key image (lines_in area all)
put_within key image area all own sorted =
    let ordered : T (is_sorted dbkey_order all) = subst T (sym sorted) tt in
    same_entries dbkey_order dbkey_total same_dbkey
    (lines_in area (put dbkey_order key image all)) (put dbkey_order key image (lines_in area all))
    (is_sorted-where_key dbkey_order (λ k. k.area == area) (put dbkey_order key image all) (is_sorted-put dbkey_order dbkey_total key image all ordered))
    (is_sorted-put dbkey_order dbkey_total key image (lines_in area all) (is_sorted-where_key dbkey_order (λ k. k.area == area) all ordered))
    (λ q. find-where_key dbkey_order (λ k. k.area == area) q (alike area q) (put dbkey_order key image all)
    ∙ ap (λ o. cond (q.area == area) o None) (find-put dbkey_order dbkey_total q key image all)
    ∙ swapped (q.area == area) (is_eq (dbkey_order q key)) (Some image) (line_in q all)
    (λ tied. ap (λ (k : Dbkey). k.area == area) (same_dbkey q key (equal _ tied)) ∙ eq-eqb key.area area own)
    ∙ sym (find-put dbkey_order dbkey_total q key image (lines_in area all)
    ∙ ap (λ o. cond (is_eq (dbkey_order q key)) (Some image) o) (find-where_key dbkey_order (λ k. k.area == area) q (alike area q) all)))

filter_twice : {X : Type 0} (p q : X → Bool) (xs : List X) → filter p (filter q xs) ≡ filter q (filter p xs)
filter_twice p q [] = refl
filter_twice p q (x ∷ xs) =
    elim (p x) as (λ b. p x ≡ b → filter p (cond (q x) (x ∷ filter q xs) (filter q xs)) ≡ filter q (cond b (x ∷ filter p xs) (filter p xs))) [
      | true ↦ λ is. elim (q x) as (λ c. filter p (cond c (x ∷ filter q xs) (filter q xs)) ≡ cond c (x ∷ filter q (filter p xs)) (filter q (filter p xs))) [
        | true ↦ ap (λ b. cond b (x ∷ filter p (filter q xs)) (filter p (filter q xs))) is ∙ ap (λ l. x ∷ l) (filter_twice p q xs)
        | false ↦ filter_twice p q xs
      ]
      | false ↦ λ is. elim (q x) as (λ c. filter p (cond c (x ∷ filter q xs) (filter q xs)) ≡ filter q (filter p xs)) [
        | true ↦ ap (λ b. cond b (x ∷ filter p (filter q xs)) (filter p (filter q xs))) is ∙ filter_twice p q xs
        | false ↦ filter_twice p q xs
      ]
    ] refl

-- ---- the rows

module _ (r : StoredRelation) (key : Dbkey) where
  rows_put : (image : List ℕ) (row : List Value) (lines : Lines) (rows : List (Dbkey × Row)) → IsRowOf r image row → AreRowsOf r lines (map stored_row rows) → AreRowsOf r (put dbkey_order key image lines) (map stored_row (put dbkey_order key row rows))
  rows_put image row [] [] is are = (refl, is, tt)
  rows_put image row [] (f ∷ fs) is are = absurd are
  rows_put image row (e ∷ es) [] is are = absurd are
  rows_put image row (e ∷ es) (f ∷ fs) is are =
      subst (λ (k : Dbkey). AreRowsOf r (put dbkey_order key image (e ∷ es)) (map stored_row (by_order (dbkey_order key k) ((key, row) ∷ f ∷ fs) ((f.0, row) ∷ fs) (f ∷ put dbkey_order key row fs)))) (sym are.0)
      (elim (dbkey_order key e.0) as (λ o. AreRowsOf r (by_order o ((key, image) ∷ e ∷ es) ((e.0, image) ∷ es) (e ∷ put dbkey_order key image es)) (map stored_row (by_order o ((key, row) ∷ f ∷ fs) ((f.0, row) ∷ fs) (f ∷ put dbkey_order key row fs)))) [
        | Less ↦ (refl, is, are)
        | Equal ↦ (are.0, is, are.2)
        | Greater ↦ (are.0, are.1, rows_put image row es fs is are.2)
      ])

  abbrev stays : {X : Type 0} → Dbkey × X → Bool
  stays e = not (is_eq (dbkey_order key e.0))

  rows_left : (lines : Lines) (rows : List (Dbkey × Row)) → AreRowsOf r lines (map stored_row rows) → AreRowsOf r (filter stays lines) (map stored_row (filter stays rows))
  rows_left [] [] are = tt
  rows_left [] (f ∷ fs) are = absurd are
  rows_left (e ∷ es) [] are = absurd are
  rows_left (e ∷ es) (f ∷ fs) are =
      let rest = rows_left es fs are.2 in
      subst (λ (k : Dbkey). AreRowsOf r (filter stays (e ∷ es)) (map stored_row (cond (not (is_eq (dbkey_order key k))) (f ∷ filter stays fs) (filter stays fs)))) (sym are.0)
      (elim (not (is_eq (dbkey_order key e.0))) as (λ b. AreRowsOf r (cond b (e ∷ filter stays es) (filter stays es)) (map stored_row (cond b (f ∷ filter stays fs) (filter stays fs)))) [
        | true ↦ (are.0, are.1, rest)
        | false ↦ rest
      ])

-- ---- laid over the map

pub row_put : (r : StoredRelation) (all : Lines) (rows : List (Dbkey × Row)) (key : Dbkey) (image : List ℕ) (row : Row) → IsInOrder all → key.area ≡ r.area → AreRowsOf r (lines_in r.area all) (map stored_row rows) → IsRowOf r image row →
    AreRowsOf r (lines_in r.area (laid key (Some image) all)) (map stored_row (put dbkey_order key row rows))
row_put r all rows key image row sorted own are is =
    subst (λ (l : Lines). AreRowsOf r l (map stored_row (put dbkey_order key row rows))) (sym (put_within key image r.area all own sorted)) (rows_put r key image row (lines_in r.area all) rows is are)

pub row_erased : (r : StoredRelation) (all : Lines) (rows : List (Dbkey × Row)) (key : Dbkey) → AreRowsOf r (lines_in r.area all) (map stored_row rows) →
    AreRowsOf r (lines_in r.area (laid key None all)) (map stored_row (filter (λ e. not (is_eq (dbkey_order key e.0))) rows))
row_erased r all rows key are =
    subst (λ (l : Lines). AreRowsOf r l (map stored_row (filter (λ e. not (is_eq (dbkey_order key e.0))) rows))) (sym (filter_twice (λ (e : Dbkey × List ℕ). e.0.area == r.area) (λ (e : Dbkey × List ℕ). not (is_eq (dbkey_order key e.0))) all)) (rows_left r key (lines_in r.area all) rows are)

pub others_stay : (all : Lines) (key : Dbkey) (what : Option (List ℕ)) (area : ℕ) → (key.area ≡ area → ⊥) → lines_in area (laid key what all) ≡ lines_in area all
others_stay all key what area apart = other_area key what area all (ne_eqb key.area area apart)
