-- The order of found tuples is total, and its loops go over the keys one after another.
use Rattle.std.proofs.Common.{◌≡◌, ℕ, ◌+◌, ◌<◌, true, false, List, [], ◌∷◌, ◌++◌, length, get_or, drop, reverse, ap, sym, ◌∙◌, append_assoc, arith}
use Rattle.std.proofs.lemmas.List.{at_drop_more, reverse-append}
use Rattle.std.proofs.lemmas.Cmp.{on_total, then_total}
use Rattle.std.specs.Cmp.{IsTotalOrder}
use Rattle.std.specs.declared.cmp.Ordering.{Ordering}
use Rattle.std.specs.Ordering.{is_ne, ordering_then}
use Rattle.rdb_types.specs.Order.{value_order}
use Rattle.rdb_meaning.specs.Contents.{Row}
use Rattle.rdb_meaning.specs.Selecting.{turned}
use Rattle.rdo_arithmetic.proofs.Directions.{turned_total, equal_total, then_ne, then_not_ne}
use Rattle.rdo_arithmetic.proofs.StableSort.{sorted_by_none}
use Rattle.rdo_values.specs.declared.bound.BoundSortKey.{BoundSortKey}
use Rattle.rdo_values.specs.declared.bound.BoundClause.{BoundClause}
use Rattle.rdo_values.specs.declared.bound.BoundClause.TheVariants.{Sorted, Reduced}
use Rattle.rdo_select.specs.declared.crossing.Found.{Found}
use Rattle.rdo_select.specs.Ordered.{value_in, order_by_keys, order_by, found_order, sorted_found}

keys_total : (keys : List BoundSortKey) → IsTotalOrder (order_by_keys keys)
keys_total [] = equal_total
keys_total (k ∷ keys) = then_total (on_total (λ (row : Row). value_in row k.reference) (turned_total k.descending)) (keys_total keys)

rows_total : (cs : List BoundClause) → IsTotalOrder (order_by cs)
rows_total [] = equal_total
rows_total (Sorted keys ∷ cs) = then_total (keys_total keys) (rows_total cs)
rows_total (Reduced refs ∷ cs) = rows_total cs

pub found_total : (cs : List BoundClause) → IsTotalOrder (found_order cs)
found_total cs = on_total (λ (p : Found). p.row) (rows_total cs)

-- ---- a key more

key_step : (keys : List BoundSortKey) (a b : Row) (i : ℕ) (k : BoundSortKey) (r o : Ordering) → i < length keys → k ≡ get_or keys i k → order_by_keys keys a b ≡ order_by_keys (drop i keys) a b → r ≡ value_order (value_in a k.reference) (value_in b k.reference) → o ≡ turned k.descending r → order_by_keys keys a b ≡ ordering_then o (order_by_keys (drop (i + 1) keys) a b)
key_step keys a b i k r o h e inv f g =
    let rest = order_by_keys (drop (i + 1) keys) a b in
    inv ∙ at_drop_more (λ ks. order_by_keys ks a b) keys i k h
    ∙ ap (λ (k : BoundSortKey). ordering_then (turned k.descending (value_order (value_in a k.reference) (value_in b k.reference))) rest) (sym e)
    ∙ ap (λ o. ordering_then o rest) (sym (g ∙ ap (turned k.descending) f))

pub key_decides : (keys : List BoundSortKey) (a b : Row) (i : ℕ) (k : BoundSortKey) (r o : Ordering) → i < length keys → k ≡ get_or keys i k → order_by_keys keys a b ≡ order_by_keys (drop i keys) a b → r ≡ value_order (value_in a k.reference) (value_in b k.reference) → o ≡ turned k.descending r → is_ne o ≡ true → o ≡ order_by_keys keys a b
key_decides keys a b i k r o h e inv f g n = sym (key_step keys a b i k r o h e inv f g ∙ then_ne o (order_by_keys (drop (i + 1) keys) a b) n)

pub key_more : (keys : List BoundSortKey) (a b : Row) (i : ℕ) (k : BoundSortKey) (r o : Ordering) → i < length keys → k ≡ get_or keys i k → order_by_keys keys a b ≡ order_by_keys (drop i keys) a b → r ≡ value_order (value_in a k.reference) (value_in b k.reference) → o ≡ turned k.descending r → is_ne o ≡ false → order_by_keys keys a b ≡ order_by_keys (drop (i + 1) keys) a b
key_more keys a b i k r o h e inv f g n = key_step keys a b i k r o h e inv f g ∙ then_not_ne o (order_by_keys (drop (i + 1) keys) a b) n

-- ---- a clause more

sorted_step : (cs : List BoundClause) (a b : Row) (i : ℕ) (c : BoundClause) (keys : List BoundSortKey) (o : Ordering) → i < length cs → c ≡ get_or cs i c → order_by cs a b ≡ order_by (drop i cs) a b → c ≡ Sorted keys → o ≡ order_by_keys keys a b → order_by cs a b ≡ ordering_then o (order_by (drop (i + 1) cs) a b)
sorted_step cs a b i c keys o h e inv is f =
    inv ∙ at_drop_more (λ cs. order_by cs a b) cs i c h ∙ ap (λ c. order_by (c ∷ drop (i + 1) cs) a b) (sym e ∙ is)
    ∙ ap (λ o. ordering_then o (order_by (drop (i + 1) cs) a b)) (sym f)

pub clause_decides : (cs : List BoundClause) (a b : Row) (i : ℕ) (c : BoundClause) (keys : List BoundSortKey) (o : Ordering) → i < length cs → c ≡ get_or cs i c → order_by cs a b ≡ order_by (drop i cs) a b → c ≡ Sorted keys → o ≡ order_by_keys keys a b → is_ne o ≡ true → o ≡ order_by cs a b
clause_decides cs a b i c keys o h e inv is f n = sym (sorted_step cs a b i c keys o h e inv is f ∙ then_ne o (order_by (drop (i + 1) cs) a b) n)

pub clause_more : (cs : List BoundClause) (a b : Row) (i : ℕ) (c : BoundClause) (keys : List BoundSortKey) (o : Ordering) → i < length cs → c ≡ get_or cs i c → order_by cs a b ≡ order_by (drop i cs) a b → c ≡ Sorted keys → o ≡ order_by_keys keys a b → is_ne o ≡ false → order_by cs a b ≡ order_by (drop (i + 1) cs) a b
clause_more cs a b i c keys o h e inv is f n = sorted_step cs a b i c keys o h e inv is f ∙ then_not_ne o (order_by (drop (i + 1) cs) a b) n

-- ---- from the last to the first

pub taken_last : (all left after taken later : List Found) (last : Found) → reverse all ≡ taken ++ reverse left → left ≡ after ++ last ∷ [] → later ≡ taken ++ last ∷ [] → reverse all ≡ later ++ reverse after
taken_last all left after taken later last inv e f =
    inv ∙ ap (λ l. taken ++ reverse l) e ∙ ap (λ l. taken ++ l) (reverse-append after (last ∷ []))
    ∙ sym (append_assoc taken (last ∷ []) (reverse after)) ∙ ap (λ l. l ++ reverse after) (sym f)

-- ---- no clause

pub unsorted : (cs : List BoundClause) (found : List Found) → length cs ≡ 0 → found ≡ sorted_found cs found
unsorted [] found e = sym (sorted_by_none found)
unsorted (c ∷ cs) found e = absurd (omega arith)
