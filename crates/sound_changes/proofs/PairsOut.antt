-- The pairs of an index behind the change or the erasing of a row that is there.
use Rattle.std.proofs.Common.{◌≡◌, ℕ, Bool, true, false, cond, not, List, [], ◌∷◌, Option, Some, None, T, refl, sym, ap, subst, ◌∙◌}
use Rattle.std.specs.Prelude.{◌||◌}
use Rattle.std.specs.List.{AllByRecursion, list_any, filter}
use Rattle.std.specs.declared.cmp.Ordering.{Ordering}
use Rattle.std.specs.declared.cmp.Ordering.TheVariants.{Less, Equal, Greater}
use Rattle.std.specs.Ordering.{is_eq, is_lt, ordering_reverse}
use Rattle.std.specs.Cmp.{tied_itself}
use Rattle.std.specs.FinMap.Entries.{find, put, by_order, is_sorted, below_all, find-put, find-where_key, is_sorted-put, is_sorted-where_key, same_entries}
use Rattle.std.proofs.lemmas.Bool.{and_parts}
use Rattle.std.proofs.lemmas.Option.{none-some, same_Some}
use Rattle.rdb_types.specs.declared.keys.Dbkey.{Dbkey}
use Rattle.rdb_types.specs.Order.{dbkey_order, row_order}
use Rattle.rdb_meaning.specs.Contents.{Row, key_of, has_key as rows_have}
use Rattle.rdb_meaning.specs.Defining.{keys_repeat}
use Rattle.index_node.specs.declared.entry.NodeEntry.{NodeEntry}
use Rattle.index_node.specs.Order.{entry_order}
use Rattle.index_node.specs.OrderLaws.{entries_total}
use Rattle.sorted_index_laws.specs.Changes.{pair_of, with_pair, without_pair}
use Rattle.sound_changes.proofs.Basics.{equal, less, fails, none_below}
use Rattle.sound_lines.specs.relation_rows.Indexed.{pairs_of}
use Rattle.rdb_types.specs.OrderLaws.{dbkey_total, same_dbkey}
use Rattle.sound_changes.proofs.Pairs.{all_with, neither, pairs_put, rows_apart}

-- ---- pairs in order

-- the first isn't below the other
abbrev NotBelow : NodeEntry → NodeEntry → Type 0
NotBelow a b = is_lt (entry_order a b) ≡ false

on_and_on : (a b c : NodeEntry) → NotBelow a b → NotBelow b c → NotBelow a c
on_and_on a b c ab bc =
    fails _ (λ under.
    let low : entry_order a c ≡ Less = less _ under in
    let back : entry_order c a ≡ Greater = entries_total.antisymm c a ∙ ap ordering_reverse low in
    elim (entry_order b c) as (λ r. entry_order b c ≡ r → ⊥) [
      | Less ↦ λ p. let moved = ap is_lt p in let bad : ⊥ = cc in bad
      | Equal ↦ λ p.
          let here : entry_order a b ≡ Less = entries_total.antisymm a b ∙ ap ordering_reverse (entries_total.congr b c a p ∙ back) in
          let moved = ap is_lt here in let bad : ⊥ = cc in bad
      | Greater ↦ λ p.
          let above : entry_order c b ≡ Less = entries_total.antisymm c b ∙ ap ordering_reverse p in
          let here : entry_order a b ≡ Less = entries_total.trans a c b low above in
          let moved = ap is_lt here in let bad : ⊥ = cc in bad
    ] refl)

abbrev Rises : List NodeEntry → Type 0
Rises [] = Unit {0}
Rises (x ∷ xs) = AllByRecursion (λ (y : NodeEntry). NotBelow y x) xs × Rises xs

all_on : (x p : NodeEntry) (xs : List NodeEntry) → NotBelow x p → AllByRecursion (λ (y : NodeEntry). NotBelow y x) xs → AllByRecursion (λ (y : NodeEntry). NotBelow y p) xs
all_on x p [] at each = tt
all_on x p (y ∷ ys) at each = (on_and_on y x p each.0 at, all_on x p ys at each.1)

rises_with : (p : NodeEntry) (l : List NodeEntry) → Rises l → Rises (with_pair p l)
rises_with p [] rises = (tt, tt)
rises_with p (x ∷ xs) rises =
    elim (is_lt (entry_order x p)) as (λ b. is_lt (entry_order x p) ≡ b → Rises (cond b (x ∷ with_pair p xs) (p ∷ x ∷ xs))) [
      | true ↦ λ under.
          let over : NotBelow p x = ap is_lt (entries_total.antisymm p x ∙ ap ordering_reverse (less _ under)) in
          (all_with (λ y. NotBelow y x) p xs over rises.0, rises_with p xs rises.1)
      | false ↦ λ at. ((at, all_on x p xs at rises.0), rises)
    ] refl

pairs_rise : (positions : List ℕ) (rows : List (Dbkey × Row)) → Rises (pairs_of positions rows)
pairs_rise positions [] = tt
pairs_rise positions (e ∷ es) = rises_with (pair_of (key_of positions e.1) e.0) (pairs_of positions es) (pairs_rise positions es)

-- ---- a pair taken out

without_left : (p : NodeEntry) (P : NodeEntry → Type 0) (l : List NodeEntry) → AllByRecursion P l → AllByRecursion P (without_pair p l)
without_left p P [] each = tt
without_left p P (x ∷ xs) each =
    elim (not (is_eq (entry_order x p))) as (λ b. AllByRecursion P (cond b (x ∷ without_pair p xs) (without_pair p xs))) [ true ↦ (each.0, without_left p P xs each.1) | false ↦ without_left p P xs each.1 ]

in_front : (q : NodeEntry) (l : List NodeEntry) → AllByRecursion (λ (y : NodeEntry). NotBelow y q) l → with_pair q l ≡ q ∷ l
in_front q [] each = refl
in_front q (x ∷ xs) each = ap (λ b. cond b (x ∷ with_pair q xs) (q ∷ x ∷ xs)) each.0

-- the pair itself
out_again : (p q : NodeEntry) (l : List NodeEntry) → is_eq (entry_order q p) ≡ true → without_pair p (with_pair q l) ≡ without_pair p l
out_again p q [] tie = ap (λ b. cond (not b) (q ∷ []) []) tie
out_again p q (x ∷ xs) tie =
    elim (is_lt (entry_order x q)) as (λ b. without_pair p (cond b (x ∷ with_pair q xs) (q ∷ x ∷ xs)) ≡ without_pair p (x ∷ xs)) [
      | true ↦ ap (λ l. cond (not (is_eq (entry_order x p))) (x ∷ l) l) (out_again p q xs tie)
      | false ↦ ap (λ b. cond (not b) (q ∷ without_pair p (x ∷ xs)) (without_pair p (x ∷ xs))) tie
    ]

-- another pair
out_beside : (p q : NodeEntry) (l : List NodeEntry) → is_eq (entry_order q p) ≡ false → Rises l → without_pair p (with_pair q l) ≡ with_pair q (without_pair p l)
out_beside p q [] apart rises = ap (λ b. cond (not b) (q ∷ []) []) apart
out_beside p q (x ∷ xs) apart rises =
    elim (is_lt (entry_order x q)) as (λ b. is_lt (entry_order x q) ≡ b → without_pair p (cond b (x ∷ with_pair q xs) (q ∷ x ∷ xs)) ≡ with_pair q (without_pair p (x ∷ xs))) [
      | true ↦ λ under.
          elim (not (is_eq (entry_order x p))) as (λ b. cond b (x ∷ without_pair p (with_pair q xs)) (without_pair p (with_pair q xs)) ≡ with_pair q (cond b (x ∷ without_pair p xs) (without_pair p xs))) [
            | true ↦ ap (λ l. x ∷ l) (out_beside p q xs apart rises.1) ∙ sym (ap (λ b. cond b (x ∷ with_pair q (without_pair p xs)) (q ∷ x ∷ without_pair p xs)) under)
            | false ↦ out_beside p q xs apart rises.1
          ]
      | false ↦ λ at.
          ap (λ b. cond (not b) (q ∷ without_pair p (x ∷ xs)) (without_pair p (x ∷ xs))) apart
          ∙ sym (in_front q (without_pair p (x ∷ xs)) (without_left p (λ y. NotBelow y q) (x ∷ xs) (at, all_on x q xs at rises.0)))
    ] refl

abbrev pub left : Dbkey → List (Dbkey × Row) → List (Dbkey × Row)
left k rows = filter (λ e. not (is_eq (dbkey_order k e.0))) rows

-- the rows of the key are this one
abbrev pub AreAt : Dbkey → Row → List (Dbkey × Row) → Type 0
AreAt k row rows = AllByRecursion (λ (e : Dbkey × Row). is_eq (dbkey_order k e.0) ≡ true → e.1 ≡ row) rows

turned : (a b : Dbkey) → is_eq (dbkey_order a b) ≡ is_eq (dbkey_order b a)
turned a b = ap is_eq (dbkey_total.antisymm a b) ∙ mirrored (dbkey_order b a)
  where
    mirrored : (r : Ordering) → is_eq (ordering_reverse r) ≡ is_eq r
    mirrored Less = refl
    mirrored Equal = refl
    mirrored Greater = refl

pub pairs_out : (positions : List ℕ) (k : Dbkey) (row : Row) (rows : List (Dbkey × Row)) → AreAt k row rows → without_pair (pair_of (key_of positions row) k) (pairs_of positions rows) ≡ pairs_of positions (left k rows)
pairs_out positions k row [] at = refl
pairs_out positions k row (e ∷ es) at =
    let p = pair_of (key_of positions row) k in
    let q = pair_of (key_of positions e.1) e.0 in
    let rest = pairs_out positions k row es at.1 in
    elim (is_eq (dbkey_order k e.0)) as (λ b. is_eq (dbkey_order k e.0) ≡ b → without_pair p (with_pair q (pairs_of positions es)) ≡ pairs_of positions (cond (not b) (e ∷ left k es) (left k es))) [
      | true ↦ λ tie.
          let key : k ≡ e.0 = same_dbkey k e.0 (equal _ tie) in
          let own : e.1 ≡ row = at.0 tie in
          let same : q ≡ p = λ i. pair_of (key_of positions (own i)) (sym key i) in
          let ties : is_eq (entry_order q p) ≡ true = ap (λ x. is_eq (entry_order x p)) same ∙ ap is_eq (tied_itself entries_total p) in
          out_again p q (pairs_of positions es) ties ∙ rest
      | false ↦ λ apart.
          let off : is_eq (entry_order q p) ≡ false = rows_apart (row_order q.key p.key) (dbkey_order e.0 k) (turned e.0 k ∙ apart) in
          out_beside p q (pairs_of positions es) off (pairs_rise positions es) ∙ ap (with_pair q) rest
    ] refl

-- ---- rows that are there

none_above : (x k : Dbkey) (es : List (Dbkey × Row)) → dbkey_order x k ≡ Equal → below_all dbkey_order x es ≡ true → find dbkey_order k es ≡ None
none_above x k [] tie below = refl
none_above x k (e ∷ es) tie below =
    let parts = and_parts (is_lt (dbkey_order x e.0)) (below_all dbkey_order x es) below in
    ap (λ r. cond (is_eq r) (Some e.1) (find dbkey_order k es)) (sym (dbkey_total.congr x k e.0 tie) ∙ less _ parts.0) ∙ none_above x k es tie parts.1

none_at : (k : Dbkey) (row : Row) (es : List (Dbkey × Row)) → find dbkey_order k es ≡ None → AreAt k row es
none_at k row [] none = tt
none_at k row (e ∷ es) none =
    elim (is_eq (dbkey_order k e.0)) as (λ b. cond b (Some e.1) (find dbkey_order k es) ≡ None → (b ≡ true → e.1 ≡ row) × AreAt k row es) [
      | true ↦ λ h. absurd (none-some e.1 (sym h))
      | false ↦ λ h. (λ is. let bad : ⊥ = cc in absurd bad, none_at k row es h)
    ] none

pub are_at : (k : Dbkey) (row : Row) (rows : List (Dbkey × Row)) → is_sorted dbkey_order rows ≡ true → find dbkey_order k rows ≡ Some row → AreAt k row rows
are_at k row [] sorted found = tt
are_at k row (e ∷ es) sorted found =
    let parts = and_parts (below_all dbkey_order e.0 es) (is_sorted dbkey_order es) sorted in
    elim (is_eq (dbkey_order k e.0)) as (λ b. is_eq (dbkey_order k e.0) ≡ b → cond b (Some e.1) (find dbkey_order k es) ≡ Some row → (b ≡ true → e.1 ≡ row) × AreAt k row es) [
      | true ↦ λ tie h. (λ _. same_Some e.1 row h, none_at k row es (none_above e.0 k es (ap (dbkey_order e.0) (same_dbkey k e.0 (equal _ tie)) ∙ tied_itself dbkey_total e.0) parts.0))
      | false ↦ λ apart h. (λ is. let bad : ⊥ = cc in absurd bad, are_at k row es parts.1 h)
    ] refl found

-- ---- a row put over another

find_left : (q k : Dbkey) (rows : List (Dbkey × Row)) → find dbkey_order q (left k rows) ≡ cond (not (is_eq (dbkey_order k q))) (find dbkey_order q rows) None
find_left q k rows = find-where_key dbkey_order (λ x. not (is_eq (dbkey_order k x))) q (λ x tie. ap (λ (y : Dbkey). not (is_eq (dbkey_order k y))) (sym (same_dbkey q x tie))) rows

pub none_left : (k : Dbkey) (rows : List (Dbkey × Row)) → find dbkey_order k (left k rows) ≡ None
none_left k rows = find_left k k rows ∙ ap (λ r. cond (not (is_eq r)) (find dbkey_order k rows) None) (tied_itself dbkey_total k)

swapped : (b c : Bool) (new was : Option Row) → b ≡ c → cond c new (cond (not b) was None) ≡ cond c new was
swapped true true new was same = refl
swapped true false new was same = let bad : ⊥ = cc in absurd bad
swapped false true new was same = let bad : ⊥ = cc in absurd bad
swapped false false new was same = refl

pub put_left : (k : Dbkey) (row : Row) (rows : List (Dbkey × Row)) → is_sorted dbkey_order rows ≡ true → put dbkey_order k row (left k rows) ≡ put dbkey_order k row rows
put_left k row rows sorted =
    let ordered : T (is_sorted dbkey_order rows) = subst T (sym sorted) tt in
    let less = is_sorted-where_key dbkey_order (λ x. not (is_eq (dbkey_order k x))) rows ordered in
    same_entries dbkey_order dbkey_total same_dbkey (put dbkey_order k row (left k rows)) (put dbkey_order k row rows)
    (is_sorted-put dbkey_order dbkey_total k row (left k rows) less) (is_sorted-put dbkey_order dbkey_total k row rows ordered)
    (λ q. find-put dbkey_order dbkey_total q k row (left k rows)
    ∙ ap (λ o. cond (is_eq (dbkey_order q k)) (Some row) o) (find_left q k rows)
    ∙ swapped (is_eq (dbkey_order k q)) (is_eq (dbkey_order q k)) (Some row) (find dbkey_order q rows) (turned k q)
    ∙ sym (find-put dbkey_order dbkey_total q k row rows))

-- the pair of a row that is changed moves
pub pairs_moved : (positions : List ℕ) (k : Dbkey) (was row : Row) (rows : List (Dbkey × Row)) → is_sorted dbkey_order rows ≡ true → find dbkey_order k rows ≡ Some was →
    pairs_of positions (put dbkey_order k row rows) ≡ with_pair (pair_of (key_of positions row) k) (without_pair (pair_of (key_of positions was) k) (pairs_of positions rows))
pairs_moved positions k was row rows sorted found =
    ap (pairs_of positions) (sym (put_left k row rows sorted))
    ∙ pairs_put positions k row (left k rows) (none_left k rows)
    ∙ ap (with_pair (pair_of (key_of positions row) k)) (sym (pairs_out positions k was rows (are_at k was rows sorted found)))

-- where its key is the same, the pairs stay
pub pairs_same : (positions : List ℕ) (k : Dbkey) (was row : Row) (rows : List (Dbkey × Row)) → is_sorted dbkey_order rows ≡ true → find dbkey_order k rows ≡ Some was → key_of positions was ≡ key_of positions row →
    pairs_of positions (put dbkey_order k row rows) ≡ pairs_of positions rows
pairs_same positions k was row [] sorted found same = absurd (none-some was found)
pairs_same positions k was row (e ∷ es) sorted found same =
    let parts = and_parts (below_all dbkey_order e.0 es) (is_sorted dbkey_order es) sorted in
    elim (dbkey_order k e.0) as (λ r. dbkey_order k e.0 ≡ r → cond (is_eq r) (Some e.1) (find dbkey_order k es) ≡ Some was → pairs_of positions (by_order r ((k, row) ∷ e ∷ es) ((e.0, row) ∷ es) (e ∷ put dbkey_order k row es)) ≡ pairs_of positions (e ∷ es)) [
      | Less ↦ λ is h. absurd (none-some was (sym (none_below dbkey_order dbkey_total e.0 k es is parts.0) ∙ h))
      | Equal ↦ λ is h. ap (λ (key : Row). with_pair (pair_of key e.0) (pairs_of positions es)) (sym same ∙ ap (key_of positions) (sym (same_Some e.1 was h)))
      | Greater ↦ λ is h. ap (with_pair (pair_of (key_of positions e.1) e.0)) (pairs_same positions k was row es parts.1 h same)
    ] refl found

-- ---- keys that don't repeat

none_left_of : (f : Dbkey × Row → Bool) (p : Dbkey × Row → Bool) (rows : List (Dbkey × Row)) → list_any f rows ≡ false → list_any f (filter p rows) ≡ false
none_left_of f p [] none = refl
none_left_of f p (e ∷ es) none =
    let parts = neither (f e) (list_any f es) none in
    elim (p e) as (λ b. list_any f (cond b (e ∷ filter p es) (filter p es)) ≡ false) [ true ↦ ap (λ b. b || list_any f (filter p es)) parts.0 ∙ none_left_of f p es parts.1 | false ↦ none_left_of f p es parts.1 ]

pub once_left : (positions : List ℕ) (p : Dbkey × Row → Bool) (rows : List (Dbkey × Row)) → keys_repeat positions rows ≡ false → keys_repeat positions (filter p rows) ≡ false
once_left positions p [] once = refl
once_left positions p (e ∷ es) once =
    let parts = neither (rows_have positions e.1 es) (keys_repeat positions es) once in
    let rest = once_left positions p es parts.1 in
    elim (p e) as (λ b. keys_repeat positions (cond b (e ∷ filter p es) (filter p es)) ≡ false) [
      | true ↦ ap (λ b. b || keys_repeat positions (filter p es)) (none_left_of (λ (f : Dbkey × Row). is_eq (row_order (key_of positions e.1) (key_of positions f.1))) p es parts.0) ∙ rest
      | false ↦ rest
    ]

-- a row whose key stays
have_same : (positions : List ℕ) (key : Row) (k : Dbkey) (was row : Row) (rows : List (Dbkey × Row)) → is_sorted dbkey_order rows ≡ true → find dbkey_order k rows ≡ Some was → key_of positions was ≡ key_of positions row →
    list_any (λ (e : Dbkey × Row). is_eq (row_order key (key_of positions e.1))) (put dbkey_order k row rows) ≡ list_any (λ (e : Dbkey × Row). is_eq (row_order key (key_of positions e.1))) rows
have_same positions key k was row [] sorted found same = absurd (none-some was found)
have_same positions key k was row (e ∷ es) sorted found same =
    let f = λ (e : Dbkey × Row). is_eq (row_order key (key_of positions e.1)) in
    let parts = and_parts (below_all dbkey_order e.0 es) (is_sorted dbkey_order es) sorted in
    elim (dbkey_order k e.0) as (λ r. dbkey_order k e.0 ≡ r → cond (is_eq r) (Some e.1) (find dbkey_order k es) ≡ Some was → list_any (λ (e : Dbkey × Row). is_eq (row_order key (key_of positions e.1))) (by_order r ((k, row) ∷ e ∷ es) ((e.0, row) ∷ es) (e ∷ put dbkey_order k row es)) ≡ list_any (λ (e : Dbkey × Row). is_eq (row_order key (key_of positions e.1))) (e ∷ es)) [
      | Less ↦ λ is h. absurd (none-some was (sym (none_below dbkey_order dbkey_total e.0 k es is parts.0) ∙ h))
      | Equal ↦ λ is h. ap (λ (other : Row). is_eq (row_order key other) || list_any (λ (e : Dbkey × Row). is_eq (row_order key (key_of positions e.1))) es) (sym same ∙ ap (key_of positions) (sym (same_Some e.1 was h)))
      | Greater ↦ λ is h. ap (λ b. is_eq (row_order key (key_of positions e.1)) || b) (have_same positions key k was row es parts.1 h same)
    ] refl found

pub once_same : (positions : List ℕ) (k : Dbkey) (was row : Row) (rows : List (Dbkey × Row)) → is_sorted dbkey_order rows ≡ true → find dbkey_order k rows ≡ Some was → key_of positions was ≡ key_of positions row →
    keys_repeat positions (put dbkey_order k row rows) ≡ keys_repeat positions rows
once_same positions k was row [] sorted found same = absurd (none-some was found)
once_same positions k was row (e ∷ es) sorted found same =
    let parts = and_parts (below_all dbkey_order e.0 es) (is_sorted dbkey_order es) sorted in
    elim (dbkey_order k e.0) as (λ r. dbkey_order k e.0 ≡ r → cond (is_eq r) (Some e.1) (find dbkey_order k es) ≡ Some was → keys_repeat positions (by_order r ((k, row) ∷ e ∷ es) ((e.0, row) ∷ es) (e ∷ put dbkey_order k row es)) ≡ keys_repeat positions (e ∷ es)) [
      | Less ↦ λ is h. absurd (none-some was (sym (none_below dbkey_order dbkey_total e.0 k es is parts.0) ∙ h))
      | Equal ↦ λ is h. ap (λ (key : Row). list_any (λ (f : Dbkey × Row). is_eq (row_order key (key_of positions f.1))) es || keys_repeat positions es) (sym same ∙ ap (key_of positions) (sym (same_Some e.1 was h)))
      | Greater ↦ λ is h.
          let one = have_same positions (key_of positions e.1) k was row es parts.1 h same in
          let rest = once_same positions k was row es parts.1 h same in
          λ i. one i || rest i
    ] refl found
