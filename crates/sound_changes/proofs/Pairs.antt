-- The pairs of an index behind the change of one row.
use Rattle.std.proofs.Common.{◌≡◌, ℕ, Bool, true, false, cond, List, [], ◌∷◌, Some, None, refl, sym, ap, ◌∙◌}
use Rattle.std.specs.Prelude.{◌||◌}
use Rattle.std.specs.List.{AllByRecursion, list_any}
use Rattle.std.specs.declared.cmp.Ordering.{Ordering}
use Rattle.std.specs.declared.cmp.Ordering.TheVariants.{Less, Equal, Greater}
use Rattle.std.specs.Ordering.{is_eq, is_lt, ordering_reverse, ordering_then}
use Rattle.std.specs.FinMap.Entries.{find, put, by_order}
use Rattle.std.proofs.lemmas.Option.{none-some}
use Rattle.rdb_types.specs.declared.keys.Dbkey.{Dbkey}
use Rattle.rdb_types.specs.declared.values.Value.{Value}
use Rattle.rdb_types.specs.Order.{dbkey_order, row_order}
use Rattle.rdb_meaning.specs.Contents.{Row, key_of, has_key as rows_have}
use Rattle.rdb_meaning.specs.Defining.{keys_repeat}
use Rattle.index_node.specs.declared.entry.NodeEntry.{NodeEntry}
use Rattle.index_node.specs.Order.{entry_order}
use Rattle.index_node.specs.OrderLaws.{entries_total}
use Rattle.sound_lines.specs.relation_rows.Indexed.{pairs_of}
use Rattle.rdb_types.specs.OrderLaws.{row_total}
use Rattle.sorted_index_laws.specs.Changes.{pair_of, with_pair, has_key}
use Rattle.sound_changes.proofs.Basics.{less}

-- ---- pairs are put in any order

not_less : (r : Ordering) → r ≡ Greater → is_lt r ≡ false
not_less r is = ap is_lt is

turned : (p q : NodeEntry) → entry_order p q ≡ Less → entry_order q p ≡ Greater
turned p q low = entries_total.antisymm q p ∙ ap ordering_reverse low

lower_first : (p q : NodeEntry) (l : List NodeEntry) → entry_order p q ≡ Less → with_pair p (with_pair q l) ≡ with_pair q (with_pair p l)
lower_first p q [] low =
    ap (λ b. cond b (q ∷ p ∷ []) (p ∷ q ∷ [])) (not_less _ (turned p q low)) ∙ sym (ap (λ b. cond b (p ∷ q ∷ []) (q ∷ p ∷ [])) (ap is_lt low))
lower_first p q (x ∷ xs) low =
    elim (is_lt (entry_order x p)) as (λ b. is_lt (entry_order x p) ≡ b → with_pair p (with_pair q (x ∷ xs)) ≡ with_pair q (cond b (x ∷ with_pair p xs) (p ∷ x ∷ xs))) [
      | true ↦ λ under.
          let here : is_lt (entry_order x q) ≡ true = ap is_lt (entries_total.trans x p q (less _ under) low) in
          ap (λ b. with_pair p (cond b (x ∷ with_pair q xs) (q ∷ x ∷ xs))) here
          ∙ ap (λ b. cond b (x ∷ with_pair p (with_pair q xs)) (p ∷ x ∷ with_pair q xs)) under
          ∙ ap (λ l. x ∷ l) (lower_first p q xs low)
          ∙ sym (ap (λ b. cond b (x ∷ with_pair q (with_pair p xs)) (q ∷ x ∷ with_pair p xs)) here)
      | false ↦ λ over.
          elim (is_lt (entry_order x q)) as (λ b. with_pair p (cond b (x ∷ with_pair q xs) (q ∷ x ∷ xs)) ≡ p ∷ cond b (x ∷ with_pair q xs) (q ∷ x ∷ xs)) [
            | true ↦ ap (λ b. cond b (x ∷ with_pair p (with_pair q xs)) (p ∷ x ∷ with_pair q xs)) over
            | false ↦ ap (λ b. cond b (q ∷ with_pair p (x ∷ xs)) (p ∷ q ∷ x ∷ xs)) (not_less _ (turned p q low))
          ]
          ∙ sym (ap (λ b. cond b (p ∷ with_pair q (x ∷ xs)) (q ∷ p ∷ x ∷ xs)) (ap is_lt low))
    ] refl

pub either_first : (p q : NodeEntry) (l : List NodeEntry) → is_eq (entry_order p q) ≡ false → with_pair p (with_pair q l) ≡ with_pair q (with_pair p l)
either_first p q l apart =
    elim (entry_order p q) as (λ r. entry_order p q ≡ r → with_pair p (with_pair q l) ≡ with_pair q (with_pair p l)) [
      | Less ↦ λ is. lower_first p q l is
      | Equal ↦ λ is. let moved = ap is_eq is in let bad : ⊥ = cc in absurd bad
      | Greater ↦ λ is. sym (lower_first q p l (entries_total.antisymm q p ∙ ap ordering_reverse is))
    ] refl

-- pairs of different rows never tie
pub rows_apart : (r s : Ordering) → is_eq s ≡ false → is_eq (ordering_then r s) ≡ false
rows_apart Less s apart = refl
rows_apart Equal s apart = apart
rows_apart Greater s apart = refl

-- what holds of each pair and of one more
pub all_with : (P : NodeEntry → Type 0) (p : NodeEntry) (l : List NodeEntry) → P p → AllByRecursion P l → AllByRecursion P (with_pair p l)
all_with P p [] is each = (is, tt)
all_with P p (x ∷ xs) is each =
    elim (is_lt (entry_order x p)) as (λ b. AllByRecursion P (cond b (x ∷ with_pair p xs) (p ∷ x ∷ xs))) [ true ↦ (each.0, all_with P p xs is each.1) | false ↦ (is, each) ]

-- ---- a new row

pub pairs_put : (positions : List ℕ) (k : Dbkey) (row : Row) (rows : List (Dbkey × Row)) → find dbkey_order k rows ≡ None → pairs_of positions (put dbkey_order k row rows) ≡ with_pair (pair_of (key_of positions row) k) (pairs_of positions rows)
pairs_put positions k row [] none = refl
pairs_put positions k row (e ∷ es) none =
    let p = pair_of (key_of positions row) k in
    let q = pair_of (key_of positions e.1) e.0 in
    elim (dbkey_order k e.0) as (λ r. dbkey_order k e.0 ≡ r → cond (is_eq r) (Some e.1) (find dbkey_order k es) ≡ None → pairs_of positions (by_order r ((k, row) ∷ e ∷ es) ((e.0, row) ∷ es) (e ∷ put dbkey_order k row es)) ≡ with_pair p (pairs_of positions (e ∷ es))) [
      | Less ↦ λ is h. refl
      | Equal ↦ λ is h. absurd (none-some e.1 (sym h))
      | Greater ↦ λ is h. ap (with_pair q) (pairs_put positions k row es h) ∙ sym (either_first p q (pairs_of positions es) (rows_apart (row_order p.key q.key) (dbkey_order k e.0) (ap is_eq is)))
    ] refl none

-- ---- keys

mirrored : (r : Ordering) → is_eq (ordering_reverse r) ≡ is_eq r
mirrored Less = refl
mirrored Equal = refl
mirrored Greater = refl

tied_back : (a b : List Value) → is_eq (row_order a b) ≡ is_eq (row_order b a)
tied_back a b = ap is_eq (row_total.antisymm a b) ∙ mirrored (row_order b a)

or_swap : (a b c : Bool) → (a || (b || c)) ≡ (b || (a || c))
or_swap true true c = refl
or_swap true false c = refl
or_swap false b c = refl

any_with : (key : List Value) (p : NodeEntry) (l : List NodeEntry) → has_key key (with_pair p l) ≡ (is_eq (row_order p.key key) || has_key key l)
any_with key p [] = refl
any_with key p (x ∷ xs) =
    elim (is_lt (entry_order x p)) as (λ b. has_key key (cond b (x ∷ with_pair p xs) (p ∷ x ∷ xs)) ≡ (is_eq (row_order p.key key) || has_key key (x ∷ xs))) [
      | true ↦ ap (λ b. is_eq (row_order x.key key) || b) (any_with key p xs) ∙ or_swap (is_eq (row_order x.key key)) (is_eq (row_order p.key key)) (has_key key xs)
      | false ↦ refl
    ]

-- the index has the key where a row has it
pub keys_held : (positions : List ℕ) (row : Row) (rows : List (Dbkey × Row)) → has_key (key_of positions row) (pairs_of positions rows) ≡ rows_have positions row rows
keys_held positions row [] = refl
keys_held positions row (e ∷ es) =
    any_with (key_of positions row) (pair_of (key_of positions e.1) e.0) (pairs_of positions es)
    ∙ (λ i. tied_back (key_of positions e.1) (key_of positions row) i || keys_held positions row es i)

-- ---- no key twice

pub neither : (a b : Bool) → (a || b) ≡ false → (a ≡ false) × (b ≡ false)
neither true b h = let bad : ⊥ = cc in absurd bad
neither false b h = (refl, h)

none_put : (f : Row → Bool) (k : Dbkey) (row : Row) (rows : List (Dbkey × Row)) → f row ≡ false → list_any (λ (e : Dbkey × Row). f e.1) rows ≡ false → list_any (λ (e : Dbkey × Row). f e.1) (put dbkey_order k row rows) ≡ false
none_put f k row [] new none = ap (λ b. b || false) new
none_put f k row (e ∷ es) new none =
    let parts = neither (f e.1) (list_any (λ (e : Dbkey × Row). f e.1) es) none in
    elim (dbkey_order k e.0) as (λ r. list_any (λ (e : Dbkey × Row). f e.1) (by_order r ((k, row) ∷ e ∷ es) ((e.0, row) ∷ es) (e ∷ put dbkey_order k row es)) ≡ false) [
      | Less ↦ ap (λ b. b || list_any (λ (e : Dbkey × Row). f e.1) (e ∷ es)) new ∙ none
      | Equal ↦ ap (λ b. b || list_any (λ (e : Dbkey × Row). f e.1) es) new ∙ parts.1
      | Greater ↦ ap (λ b. b || list_any (λ (e : Dbkey × Row). f e.1) (put dbkey_order k row es)) parts.0 ∙ none_put f k row es new parts.1
    ]

pub none_twice : (positions : List ℕ) (k : Dbkey) (row : Row) (rows : List (Dbkey × Row)) → keys_repeat positions rows ≡ false → rows_have positions row rows ≡ false → keys_repeat positions (put dbkey_order k row rows) ≡ false
none_twice positions k row [] once new = refl
none_twice positions k row (e ∷ es) once new =
    let olds = neither (rows_have positions e.1 es) (keys_repeat positions es) once in
    let news = neither (is_eq (row_order (key_of positions row) (key_of positions e.1))) (rows_have positions row es) new in
    elim (dbkey_order k e.0) as (λ r. keys_repeat positions (by_order r ((k, row) ∷ e ∷ es) ((e.0, row) ∷ es) (e ∷ put dbkey_order k row es)) ≡ false) [
      | Less ↦ ap (λ b. b || keys_repeat positions (e ∷ es)) new ∙ once
      | Equal ↦ ap (λ b. b || keys_repeat positions es) news.1 ∙ olds.1
      | Greater ↦
          ap (λ b. b || keys_repeat positions (put dbkey_order k row es))
          (none_put (λ other. is_eq (row_order (key_of positions e.1) (key_of positions other))) k row es (tied_back (key_of positions e.1) (key_of positions row) ∙ news.0) olds.0)
          ∙ none_twice positions k row es olds.1 news.1
    ]
