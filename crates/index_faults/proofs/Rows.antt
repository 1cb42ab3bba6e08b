-- Rows, and the pairs of an index of them.
use Rattle.std.proofs.Common.{◌≡◌, ◌==◌, ◌⊎◌, inl, inr, ℕ, suc, Bool, true, false, cond, T, ◌||◌, List, [], ◌∷◌, map, length, Option, Some, None, is_some, refl, sym, ap, subst, ◌∙◌}
use Rattle.std.specs.List.{AllByRecursion}
use Rattle.std.specs.declared.cmp.Ordering.{Ordering}
use Rattle.std.specs.declared.cmp.Ordering.TheVariants.{Less, Equal, Greater}
use Rattle.std.specs.Ordering.{is_eq, is_lt, ordering_then}
use Rattle.std.specs.Cmp.{tied_itself}
use Rattle.std.specs.FinMap.Entries.{below_all, is_sorted, is_sorted-where_key}
use Rattle.std.proofs.lemmas.Bool.{and_parts}
use Rattle.std.proofs.lemmas.Option.{none-some, same_Some}
use Rattle.std.proofs.lemmas.List.{length-map}
use Rattle.std.specs.List.Sorted.{IsStrictlySortedBy}
use Rattle.rdb_types.specs.declared.keys.Dbkey.{Dbkey}
use Rattle.rdb_types.specs.declared.values.Value.{Value}
use Rattle.rdb_types.specs.Order.{row_order, dbkey_order}
use Rattle.rdb_types.specs.OrderLaws.{row_total, dbkey_total, same_row, same_dbkey}
use Rattle.rdb_meaning.specs.Contents.{Row, key_of, has_key}
use Rattle.rdb_meaning.specs.Defining.{keys_repeat}
use Rattle.index_node.specs.declared.entry.NodeEntry.{NodeEntry}
use Rattle.index_node.specs.Order.{entry_order}
use Rattle.std.specs.Prelude.{Result, Ok, Err, IfOk, IfSome, IfNone}
use Rattle.line_view.specs.Knowledge.{Knowledge, Lines, IsInOrder, Agrees, line_in, lines_in, keys_of}
use Rattle.line_view.proofs.Agreements.{Found, found_all, found_some}
use Rattle.relation_rows.specs.declared.stored.StoredRelation.{StoredRelation}
use Rattle.relation_rows.specs.declared.stored.StoredRow.{StoredRow}
use Rattle.relation_rows.specs.Stored.{IsRowOf, IsRowAt, IsBadAt, AreRowsOf, IsLineKnown, IsAreaKnown}
use Rattle.relation_rows.specs.Relations.{stored_row}
use Rattle.relation_rows.specs.Indexed.{pairs_of}
use Rattle.relation_rows.proofs.OneRow.{same_row as one_row}
use Rattle.sorted_index_laws.specs.Changes.{pair_of, with_pair}
use Rattle.sorted_index_laws.specs.Insertion.{IsNew}
use Rattle.sorted_index_laws.proofs.Ordered.{Lt, Ascend}
use Rattle.sorted_index_laws.proofs.Put.{put_ascends}
use Rattle.line_faults.specs.Found.{Finds, IsIn}
use Rattle.line_faults.specs.Rows.{IsRowLine}
use Rattle.line_faults.proofs.Learnt.{in_from_all, in_whole, area_in}
use Rattle.index_faults.specs.Contents.{IsPairAt, keys_differ, HasTheRows}
use Rattle.index_faults.proofs.Lists.{Has, all_from_has, has_from_all, any_has, has_any, ties, ascends, not_itself, within, KeysAscend, keys_ascend, one_of_key, clash}

-- ---- rows of lines

pub count_rows : (r : StoredRelation) (lines : Lines) (xs : List StoredRow) → AreRowsOf r lines xs → length xs ≡ length lines
count_rows r [] [] are = refl
count_rows r [] (x ∷ xs) are = absurd are
count_rows r (e ∷ es) [] are = absurd are
count_rows r (e ∷ es) (x ∷ xs) are = ap suc (count_rows r es xs are.2)

pub row_has : (r : StoredRelation) (lines : Lines) (rows : List (Dbkey × Row)) (key : Dbkey) (image : List ℕ) (row : List Value) → AreRowsOf r lines (map stored_row rows) → line_in key lines ≡ Some image → IsRowOf r image row → Has (key, row) rows
row_has r [] [] key image row are there is = absurd (none-some image there)
row_has r [] (x ∷ xs) key image row are there is = absurd are
row_has r (e ∷ es) [] key image row are there is = absurd are
row_has r (e ∷ es) (x ∷ xs) key image row are there is = elim (is_eq (dbkey_order key e.0)) as (λ b. is_eq (dbkey_order key e.0) ≡ b → cond b (Some e.1) (line_in key es) ≡ Some image → Has (key, row) (x ∷ xs)) [
  | true ↦ λ tie h.
      let own : x.0 ≡ key = are.0 ∙ sym (same_dbkey key e.0 (ties (dbkey_order key e.0) tie)) in
      let same : x.1 ≡ row = one_row r image x.1 row (subst (λ (i : List ℕ). IsRowOf r i x.1) (same_Some _ _ h) are.1) is in
      inl (λ i. (own i, same i))
  | false ↦ λ tie h. inr (row_has r es xs key image row are.2 h is)
] refl there

-- the line of a row
pub record HasLine (r : StoredRelation) (all lines : Lines) (e : Dbkey × Row) : Type 0 where
  pub image : List ℕ
  pub present : line_in e.0 all ≡ Some image
  pub is : IsRowOf r image e.1
  pub among : IsIn e.0 (keys_of lines)

pub has_row : (r : StoredRelation) (all lines : Lines) (rows : List (Dbkey × Row)) (e : Dbkey × Row) → Found all lines → AreRowsOf r lines (map stored_row rows) → Has e rows → HasLine r all lines e
has_row r all [] [] e found are there = absurd there
has_row r all [] (x ∷ xs) e found are there = absurd are
has_row r all (l ∷ ls) [] e found are there = absurd there
has_row r all (l ∷ ls) (x ∷ xs) e found are (inl same) =
    let own : e.0 ≡ l.0 = ap (λ (y : Dbkey × Row). y.0) (sym same) ∙ are.0 in
    record { image = l.1; present = ap (λ k. line_in k all) own ∙ found.0; is = subst (λ (y : Dbkey × Row). IsRowOf r l.1 y.1) same are.1; among = inl (sym own) }
has_row r all (l ∷ ls) (x ∷ xs) e found are (inr there) =
    let rest = has_row r all ls xs e found.1 are.2 there in
    record { image = rest.image; present = rest.present; is = rest.is; among = inr rest.among }

-- ---- in the order of their Dbkeys

abbrev RowsAscend : List (Dbkey × Row) → Type 0
RowsAscend [] = Unit {0}
RowsAscend (e ∷ es) = AllByRecursion (λ x. dbkey_order e.0 x.0 ≡ Less) es × RowsAscend es

is_less : (o : Ordering) → is_lt o ≡ true → o ≡ Less
is_less Less h = refl
is_less Equal h = absurd (let no : ⊥ = cc in no)
is_less Greater h = absurd (let no : ⊥ = cc in no)

true_from_T : (b : Bool) → T b → b ≡ true
true_from_T true h = refl
true_from_T false h = absurd h

lines_above : (key : Dbkey) (lines : Lines) (r : StoredRelation) (rows : List (Dbkey × Row)) → below_all dbkey_order key lines ≡ true → AreRowsOf r lines (map stored_row rows) → AllByRecursion (λ (x : Dbkey × Row). dbkey_order key x.0 ≡ Less) rows
lines_above key [] r [] below are = tt
lines_above key [] r (x ∷ xs) below are = absurd are
lines_above key (e ∷ es) r [] below are = absurd are
lines_above key (e ∷ es) r (x ∷ xs) below are =
    let parts = and_parts _ _ below in
    (ap (dbkey_order key) are.0 ∙ is_less (dbkey_order key e.0) parts.0, lines_above key es r xs parts.1 are.2)

rows_ascend : (r : StoredRelation) (lines : Lines) (rows : List (Dbkey × Row)) → is_sorted dbkey_order lines ≡ true → AreRowsOf r lines (map stored_row rows) → RowsAscend rows
rows_ascend r [] [] sorted are = tt
rows_ascend r [] (x ∷ xs) sorted are = absurd are
rows_ascend r (e ∷ es) [] sorted are = absurd are
rows_ascend r (e ∷ es) (x ∷ xs) sorted are =
    let parts = and_parts _ _ sorted in
    (subst (λ (k : Dbkey). AllByRecursion (λ (y : Dbkey × Row). dbkey_order k y.0 ≡ Less) xs) (sym are.0) (lines_above e.0 es r xs parts.0 are.2), rows_ascend r es xs parts.1 are.2)

-- ---- the pairs of rows

length_put : (pair : NodeEntry) (ps : List NodeEntry) → length (with_pair pair ps) ≡ suc (length ps)
length_put pair [] = refl
length_put pair (p ∷ ps) = elim (is_lt (entry_order p pair)) as (λ b. length (cond b (p ∷ with_pair pair ps) (pair ∷ p ∷ ps)) ≡ suc (suc (length ps))) [
  | true ↦ ap suc (length_put pair ps)
  | false ↦ refl
]

pub count_pairs : (positions : List ℕ) (rows : List (Dbkey × Row)) → length (pairs_of positions rows) ≡ length rows
count_pairs positions [] = refl
count_pairs positions (e ∷ es) = length_put (pair_of (key_of positions e.1) e.0) (pairs_of positions es) ∙ ap suc (count_pairs positions es)

has_put : (x pair : NodeEntry) (ps : List NodeEntry) → (pair ≡ x) ⊎ Has x ps → Has x (with_pair pair ps)
has_put x pair [] there = there
has_put x pair (p ∷ ps) there = elim (is_lt (entry_order p pair)) as (λ b. Has x (cond b (p ∷ with_pair pair ps) (pair ∷ p ∷ ps))) [
  | true ↦ elim there [
    | inl own ↦ inr (has_put x pair ps (inl own))
    | inr old ↦ elim old [
      | inl same ↦ inl same
      | inr rest ↦ inr (has_put x pair ps (inr rest))
    ]
  ]
  | false ↦ there
]

put_has : (x pair : NodeEntry) (ps : List NodeEntry) → Has x (with_pair pair ps) → (pair ≡ x) ⊎ Has x ps
put_has x pair [] there = there
put_has x pair (p ∷ ps) there = elim (is_lt (entry_order p pair)) as (λ b. Has x (cond b (p ∷ with_pair pair ps) (pair ∷ p ∷ ps)) → (pair ≡ x) ⊎ Has x (p ∷ ps)) [
  | true ↦ λ h. elim h [
    | inl same ↦ inr (inl same)
    | inr behind ↦ elim (put_has x pair ps behind) [
      | inl own ↦ inl own
      | inr rest ↦ inr (inr rest)
    ]
  ]
  | false ↦ λ h. h
] there

pub in_pairs : (positions : List ℕ) (rows : List (Dbkey × Row)) (e : Dbkey × Row) → Has e rows → Has (pair_of (key_of positions e.1) e.0) (pairs_of positions rows)
in_pairs positions [] e there = absurd there
in_pairs positions (x ∷ xs) e (inl same) = has_put (pair_of (key_of positions e.1) e.0) (pair_of (key_of positions x.1) x.0) (pairs_of positions xs) (inl (ap (λ (y : Dbkey × Row). pair_of (key_of positions y.1) y.0) same))
in_pairs positions (x ∷ xs) e (inr there) = has_put (pair_of (key_of positions e.1) e.0) (pair_of (key_of positions x.1) x.0) (pairs_of positions xs) (inr (in_pairs positions xs e there))

pub record OfRow (positions : List ℕ) (rows : List (Dbkey × Row)) (pair : NodeEntry) : Type 0 where
  pub e : Dbkey × Row
  pub there : Has e rows
  pub is : pair_of (key_of positions e.1) e.0 ≡ pair

pub of_pairs : (positions : List ℕ) (rows : List (Dbkey × Row)) (pair : NodeEntry) → Has pair (pairs_of positions rows) → OfRow positions rows pair
of_pairs positions [] pair there = absurd there
of_pairs positions (x ∷ xs) pair there = elim (put_has pair (pair_of (key_of positions x.1) x.0) (pairs_of positions xs) there) [
  | inl own ↦ record { e = x; there = inl refl; is = own }
  | inr rest ↦ let of = of_pairs positions xs pair rest in record { e = of.e; there = inr of.there; is = of.is }
]

-- pairs of different rows differ
rows_tied : (r s : Ordering) → is_eq (ordering_then r s) ≡ true → s ≡ Equal
rows_tied Less s h = absurd (let no : ⊥ = cc in no)
rows_tied Equal s h = ties s h
rows_tied Greater s h = absurd (let no : ⊥ = cc in no)

isnt : (b : Bool) → (b ≡ true → ⊥) → b ≡ false
isnt true no_it = absurd (no_it refl)
isnt false no_it = refl

irreflexive : (a b : Dbkey) → dbkey_order a b ≡ Less → a ≡ b → ⊥
irreflexive a b less same = let tied : dbkey_order a b ≡ Equal = ap (dbkey_order a) (sym same) ∙ tied_itself dbkey_total a in let no : ⊥ = cc in no

new_pair : (positions : List ℕ) (e : Dbkey × Row) (es : List (Dbkey × Row)) → AllByRecursion (λ (x : Dbkey × Row). dbkey_order e.0 x.0 ≡ Less) es → IsNew (pair_of (key_of positions e.1) e.0) (pairs_of positions es)
new_pair positions e es above = all_from_has (λ (p : NodeEntry). is_eq (entry_order p (pair_of (key_of positions e.1) e.0)) ≡ false) (pairs_of positions es) (λ p there.
    let of = of_pairs positions es p there in
    isnt (is_eq (entry_order p (pair_of (key_of positions e.1) e.0))) (λ tie.
    let row : p.row ≡ e.0 = same_dbkey p.row e.0 (rows_tied (row_order p.key (key_of positions e.1)) (dbkey_order p.row e.0) tie) in
    let own : of.e.0 ≡ p.row = ap (λ (q : NodeEntry). q.row) of.is in
    irreflexive e.0 of.e.0 (has_from_all (λ (x : Dbkey × Row). dbkey_order e.0 x.0 ≡ Less) es of.e above of.there) (sym (own ∙ row))))

pairs_ascend : (positions : List ℕ) (rows : List (Dbkey × Row)) → RowsAscend rows → Ascend (pairs_of positions rows)
pairs_ascend positions [] asc = tt
pairs_ascend positions (e ∷ es) asc = put_ascends (pair_of (key_of positions e.1) e.0) (pairs_of positions es) (pairs_ascend positions es asc.1) (new_pair positions e es asc.0)

-- ---- keys that repeat

record Repeated (positions : List ℕ) (rows : List (Dbkey × Row)) : Type 0 where
  a : Dbkey × Row
  b : Dbkey × Row
  first : Has a rows
  then : Has b rows
  same : key_of positions a.1 ≡ key_of positions b.1
  apart : a.0 ≡ b.0 → ⊥

repeated : (positions : List ℕ) (rows : List (Dbkey × Row)) → RowsAscend rows → keys_repeat positions rows ≡ true → Repeated positions rows
repeated positions [] asc is = absurd (let no : ⊥ = cc in no)
repeated positions (e ∷ es) asc is = elim (has_key positions e.1 es) as (λ b. has_key positions e.1 es ≡ b → (b || keys_repeat positions es) ≡ true → Repeated positions (e ∷ es)) [
  | true ↦ λ has h.
      let found = any_has (λ (x : Dbkey × Row). is_eq (row_order (key_of positions e.1) (key_of positions x.1))) es has in
      record {
        a = e;
        b = found.0;
        first = inl refl;
        then = inr found.1;
        same = same_row (key_of positions e.1) (key_of positions found.0.1) (ties (row_order (key_of positions e.1) (key_of positions found.0.1)) found.2);
        apart = λ same. irreflexive e.0 found.0.0 (has_from_all (λ (x : Dbkey × Row). dbkey_order e.0 x.0 ≡ Less) es found.0 asc.0 found.1) same;
      }
  | false ↦ λ has h.
      let rest = repeated positions es asc.1 h in
      record { a = rest.a; b = rest.b; first = inr rest.first; then = inr rest.then; same = rest.same; apart = rest.apart }
] refl is

none_or : (a b : Bool) → (a || b) ≡ false → (a ≡ false) × (b ≡ false)
none_or true b h = absurd (let no : ⊥ = cc in no)
none_or false b h = (refl, h)

clashing : (positions : List ℕ) (e x : Dbkey × Row) (es : List (Dbkey × Row)) → has_key positions e.1 es ≡ false → Has x es → key_of positions e.1 ≡ key_of positions x.1 → ⊥
clashing positions e x es none there same =
    let tied : is_eq (row_order (key_of positions e.1) (key_of positions x.1)) ≡ true = ap (λ (k : List Value). is_eq (row_order (key_of positions e.1) k)) (sym same) ∙ ap (λ (o : Ordering). is_eq o) (tied_itself row_total (key_of positions e.1)) in
    let has = has_any (λ (y : Dbkey × Row). is_eq (row_order (key_of positions e.1) (key_of positions y.1))) es x there tied in
    let no : ⊥ = cc in no

one_row_of_key : (positions : List ℕ) (rows : List (Dbkey × Row)) (a b : Dbkey × Row) → keys_repeat positions rows ≡ false → Has a rows → Has b rows → key_of positions a.1 ≡ key_of positions b.1 → a ≡ b
one_row_of_key positions [] a b none x y same = absurd x
one_row_of_key positions (e ∷ es) a b none (inl x) (inl y) same = sym x ∙ y
one_row_of_key positions (e ∷ es) a b none (inl x) (inr y) same = absurd (clashing positions e b es (none_or _ _ none).0 y (ap (λ (r : Dbkey × Row). key_of positions r.1) x ∙ same))
one_row_of_key positions (e ∷ es) a b none (inr x) (inl y) same = absurd (clashing positions e a es (none_or _ _ none).0 x (ap (λ (r : Dbkey × Row). key_of positions r.1) y ∙ sym same))
one_row_of_key positions (e ∷ es) a b none (inr x) (inr y) same = one_row_of_key positions es a b (none_or _ _ none).1 x y same

-- ---- what a comparison says

module _ (known : Knowledge) (r : StoredRelation) (positions : List ℕ) (held : List NodeEntry) (all : Lines) (sorted : IsInOrder all) (agrees : Agrees known all) (rows : List (Dbkey × Row)) (has : HasTheRows r all rows) (ascending : IsStrictlySortedBy entry_order held) where
  in_line : Found all (lines_in r.area all)
  in_line = found_some all all (λ e. e.0.area == r.area) (found_all all sorted)

  part_sorted : is_sorted dbkey_order (lines_in r.area all) ≡ true
  part_sorted = true_from_T _ (is_sorted-where_key dbkey_order (λ k. k.area == r.area) all (subst T (sym sorted) tt))

  in_order : RowsAscend rows
  in_order = rows_ascend r (lines_in r.area all) rows part_sorted has

  asc : Ascend held
  asc = ascends held ascending

  row_of : (pair : NodeEntry) → IsPairAt known r positions pair → Has pair (pairs_of positions rows)
  row_of pair is =
      let image = is.stands.0 in
      let line : line_in pair.row (lines_in r.area all) ≡ Some image = in_whole pair.row r.area all is.own ∙ sym (agrees.line pair.row (Some image) is.stands.1) in
      let there = in_pairs positions rows (pair.row, is.row) (row_has r (lines_in r.area all) rows pair.row image is.row has line is.stands.2) in
      subst (λ (p : NodeEntry). Has p (pairs_of positions rows)) (λ i. record { key = sym is.keyed i; row = pair.row; child = sym is.childless i }) there

  pub are_the_pairs : AllByRecursion (IsPairAt known r positions) held → length rows ≡ length held → held ≡ pairs_of positions rows
  are_the_pairs stand count =
      (within (pairs_of positions rows) held asc (pairs_ascend positions rows in_order) (λ z there. row_of z (has_from_all (IsPairAt known r positions) held z stand there))).1
      (sym count ∙ sym (count_pairs positions rows))

  pub never_repeat : held ≡ pairs_of positions rows → keys_differ held ≡ true → keys_repeat positions rows ≡ false
  never_repeat same differ = isnt (keys_repeat positions rows) (λ is.
      let twice = repeated positions rows in_order is in
      let ks = subst KeysAscend same (keys_ascend held asc differ) in
      let one = one_of_key (pairs_of positions rows) (pair_of (key_of positions twice.a.1) twice.a.0) (pair_of (key_of positions twice.b.1) twice.b.0) ks (in_pairs positions rows twice.a twice.first) (in_pairs positions rows twice.b twice.then) twice.same in
      twice.apart (ap (λ (p : NodeEntry). p.row) one))

  -- each pair of a row stands
  stands_there : IsAreaKnown known r.area → (pair : NodeEntry) → Has pair (pairs_of positions rows) → IsPairAt known r positions pair
  stands_there is pair there =
      let of = of_pairs positions rows pair there in
      let line = has_row r all (lines_in r.area all) rows of.e in_line has of.there in
      let own : of.e.0 ≡ pair.row = ap (λ (q : NodeEntry). q.row) of.is in
      let among : IsIn of.e.0 is.0 = subst (IsIn of.e.0) (sym (agrees.area r.area is.0 is.1)) line.among in
      let told : is_some (known.line of.e.0) ≡ true = in_from_all (IsLineKnown known) is.0 of.e.0 is.2 among in
      let what = what_is (known.line of.e.0) refl told in
      record {
        childless = ap (λ (q : NodeEntry). q.child) (sym of.is);
        own = ap (λ (k : Dbkey). k.area) (sym own) ∙ area_in of.e.0 r.area all line.among;
        row = of.e.1;
        stands = subst (λ (k : Dbkey). IsRowAt known r k of.e.1) own (line.image, what.1 ∙ ap Some (agrees.line of.e.0 what.0 what.1 ∙ line.present), line.is);
        keyed = ap (λ (q : NodeEntry). q.key) (sym of.is);
      }
    where
      what_is : {key : Dbkey} (o : Option (Option (List ℕ))) → known.line key ≡ o → is_some o ≡ true → (what : Option (List ℕ)) × (known.line key ≡ Some what)
      what_is None told some = absurd (let no : ⊥ = cc in no)
      what_is (Some what) told some = (what, told)

  pub all_stand_there : IsAreaKnown known r.area → held ≡ pairs_of positions rows → AllByRecursion (IsPairAt known r positions) held
  all_stand_there is same = all_from_has (IsPairAt known r positions) held (λ p there. stands_there is p (subst (Has p) same there))

  pub counts : held ≡ pairs_of positions rows → length rows ≡ length held
  counts same = sym (count_pairs positions rows) ∙ ap length (sym same)

  pub must_repeat : held ≡ pairs_of positions rows → keys_differ held ≡ false → keys_repeat positions rows ≡ false → ⊥
  must_repeat same differ none =
      let two = clash held asc differ in
      let x = of_pairs positions rows two.a (subst (Has two.a) same two.first) in
      let y = of_pairs positions rows two.b (subst (Has two.b) same two.then) in
      let keys : key_of positions x.e.1 ≡ key_of positions y.e.1 = ap (λ (q : NodeEntry). q.key) x.is ∙ two.same ∙ sym (ap (λ (q : NodeEntry). q.key) y.is) in
      let one = one_row_of_key positions rows x.e y.e none x.there y.there keys in
      let pair : two.a ≡ two.b = sym x.is ∙ ap (λ (e : Dbkey × Row). pair_of (key_of positions e.1) e.0) one ∙ y.is in
      not_itself two.b (subst (λ (q : NodeEntry). Lt q two.b) pair two.less)

-- ---- what is known of a row

pub one_row_at : (known : Knowledge) (r : StoredRelation) (key : Dbkey) (a b : List Value) → IsRowAt known r key a → IsRowAt known r key b → a ≡ b
one_row_at known r key a b x y =
    let same : x.0 ≡ y.0 = same_Some _ _ (same_Some _ _ (sym x.1 ∙ y.1)) in
    one_row r y.0 a b (subst (λ (i : List ℕ). IsRowOf r i a) same x.2) y.2

pub bad_no_row : (known : Knowledge) (r : StoredRelation) (key : Dbkey) (row : List Value) → IsBadAt known r key → IsRowAt known r key row → ⊥
bad_no_row known r key row bad is =
    let same : is.0 ≡ bad.0 = same_Some _ _ (same_Some _ _ (sym is.1 ∙ bad.1)) in
    bad.2 row (subst (λ (i : List ℕ). IsRowOf r i row) same is.2)

pub keys_tie : (a b : List Value) → a ≡ b → is_eq (row_order a b) ≡ true
keys_tie a b same = ap (λ (k : List Value). is_eq (row_order a k)) (sym same) ∙ ap (λ (o : Ordering). is_eq o) (tied_itself row_total a)

pub if_ok : {T E : Type 0} (P Q : T → Type 0) (result : Result T E) → ((x : T) → P x → Q x) → IfOk result P → IfOk result Q
if_ok P Q (Ok x) to is = to x is
if_ok P Q (Err e) to is = is

-- ---- how many rows there are

-- lines that are rows are no faults
pub no_faults : (r : StoredRelation) (lines : Lines) (xs : List StoredRow) (found : List Dbkey) → AreRowsOf r lines xs → Finds (IsRowLine r) (λ e. IsRowLine r e → ⊥) (λ e. e.0) lines found → found ≡ []
no_faults r [] [] found are finds = finds
no_faults r [] (x ∷ xs) found are finds = absurd are
no_faults r (e ∷ es) [] found are finds = absurd are
no_faults r (e ∷ es) (x ∷ xs) found are (inl fine) = no_faults r es xs found are.2 fine.1
no_faults r (e ∷ es) (x ∷ xs) found are (inr bad) = absurd (bad.0 (x.row, are.1))

-- a relation whose lines are rows has as many as its area has keys
pub known_count : (known : Knowledge) (r : StoredRelation) (all : Lines) (rows : List (Dbkey × Row)) (keys : List Dbkey) → Agrees known all → known.area r.area ≡ Some keys → HasTheRows r all rows → length keys ≡ length rows
known_count known r all rows keys agrees told has =
    ap length (agrees.area r.area keys told) ∙ length-map (lines_in r.area all) (λ e. e.0) ∙ sym (count_rows r (lines_in r.area all) (map stored_row rows) has) ∙ length-map rows stored_row

abbrev pub IsCount : Knowledge → StoredRelation → ℕ → Type 0
IsCount known r count = (all : Lines) → IsInOrder all → Agrees known all → (rows : List (Dbkey × Row)) → HasTheRows r all rows → count ≡ length rows

abbrev pub HasNoRows : Knowledge → StoredRelation → Type 0
HasNoRows known r = (all : Lines) → IsInOrder all → Agrees known all → (rows : List (Dbkey × Row)) → HasTheRows r all rows → ⊥

pub counted : (known : Knowledge) (r : StoredRelation) (read : Option ℕ) (count : ℕ) → read ≡ Some count → IfSome read (IsCount known r) → IsCount known r count
counted known r read count is told = subst (λ (o : Option ℕ). IfSome o (IsCount known r)) is told

pub uncounted : (known : Knowledge) (r : StoredRelation) (read : Option ℕ) → read ≡ None → IfNone read (HasNoRows known r) → HasNoRows known r
uncounted known r read is told = subst (λ (o : Option ℕ). IfNone o (HasNoRows known r)) is told
