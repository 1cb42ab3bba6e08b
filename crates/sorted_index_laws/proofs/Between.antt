-- The entries of a node where a child of it became two.
use Rattle.std.proofs.Common.{◌≡◌, false, List, [], ◌∷◌, ◌++◌, length, refl, sym, ap, ◌∙◌, append_assoc}
use Rattle.std.specs.declared.cmp.Ordering.{Ordering}
use Rattle.std.specs.declared.cmp.Ordering.TheVariants.{Less, Equal, Greater}
use Rattle.std.specs.Ordering.{is_eq, ordering_then, ordering_reverse}
use Rattle.std.specs.List.{AllByRecursion}
use Rattle.rdb_types.specs.declared.keys.Dbkey.{Dbkey}
use Rattle.rdb_types.specs.declared.values.Value.{Value}
use Rattle.rdb_types.specs.Order.{dbkey_order, row_order}
use Rattle.index_node.specs.declared.entry.NodeEntry.{NodeEntry}
use Rattle.index_node.specs.Order.{entry_order}
use Rattle.index_node.specs.OrderLaws.{entries_total}
use Rattle.sorted_index_laws.specs.Changes.{goes_on, with_pair}
use Rattle.sorted_index_laws.specs.Insertion.{IsNew}
use Rattle.sorted_index_laws.specs.Inner.Growth.{bound, unbound, lowered, is_up_to_own}
use Rattle.sorted_index_laws.proofs.Ordered.{Lt, Ascend, less_all, less_upto, all_append}
use Rattle.sorted_index_laws.proofs.Put.{less_turn, all_lt, all_below, put_past, put_first, put_ascends}
use Rattle.sorted_index_laws.proofs.Exchange.{not_le, ascend_rest}

abbrev pub first_of : List NodeEntry → NodeEntry → NodeEntry → NodeEntry
first_of [] a b = a
first_of (x ∷ xs) a b = b

-- an entry without its key is lower still
keyless : (key other : List Value) (row at : Dbkey) → ordering_then (row_order key other) (dbkey_order row at) ≡ Less → ordering_then (row_order [] other) (dbkey_order row at) ≡ Less
keyless [] [] row at h = h
keyless [] (y ∷ ys) row at h = h
keyless (x ∷ xs) [] row at h = absurd (cc)
keyless (x ∷ xs) (y ∷ ys) row at h = refl

pub unbound_less : (low high : NodeEntry) (child room : Dbkey) → Lt low high → Lt (unbound low child) (bound high room)
unbound_less low high child room h = keyless low.key high.key low.row high.row h

pub behind_less : (high : NodeEntry) (room : Dbkey) (ys : List NodeEntry) → goes_on high ys ≡ false → Ascend ys → AllByRecursion (Lt (bound high room)) ys
behind_less high room [] stays ascend = tt
behind_less high room (y ∷ ys) stays ascend =
    let lt : Lt (bound high room) y = less_turn y high (not_le (entry_order y high) stays) in
    (lt, all_lt (bound high room) y ys lt (less_all y ys ascend.0))

before_all : (xs ys : List NodeEntry) (own : NodeEntry) → Ascend (xs ++ own ∷ ys) → AllByRecursion (λ p. Lt p own) xs
before_all [] ys own h = tt
before_all (x ∷ xs) ys own h = (member (Lt x) xs own ys h.0, before_all xs ys own h.1)
  where
    member : (P : NodeEntry → Type 0) (xs : List NodeEntry) (own : NodeEntry) (ys : List NodeEntry) → AllByRecursion P (xs ++ own ∷ ys) → P own
    member P [] own ys h = h.0
    member P (x ∷ xs) own ys h = member P xs own ys h.1

pub two_entries : (before : List NodeEntry) (own low high : NodeEntry) (ys : List NodeEntry) (child room : Dbkey) → Ascend (before ++ own ∷ ys) → Lt low high → is_up_to_own (length before) high (own ∷ ys) ≡ false → goes_on high ys ≡ false
    → with_pair (bound high room) (lowered (length before) (unbound low child) (before ++ own ∷ ys)) ≡ before ++ first_of before (unbound low child) own ∷ bound high room ∷ ys
two_entries [] own low high ys child room ascend lt past_own before_next =
    put_past (bound high room) (unbound low child ∷ []) ys (unbound_less low high child room lt, tt) ∙ ap (λ es. unbound low child ∷ es) (put_first (bound high room) ys (behind_less high room ys before_next ascend.1))
two_entries (x ∷ xs) own low high ys child room ascend lt past_own before_next =
    let own_lt : Lt own high = less_turn high own (not_le (entry_order high own) past_own) in
    let before = x ∷ xs in
    let rest : Ascend (own ∷ ys) = ascend_rest before (own ∷ ys) ascend in
    let front : AllByRecursion (λ p. Lt p (bound high room)) (before ++ own ∷ []) =
    all_append (λ p. Lt p (bound high room)) before (own ∷ []) (all_below own (bound high room) before (less_upto (entry_order own high) own_lt) (before_all before ys own ascend)) (own_lt, tt) in
    ap (with_pair (bound high room)) (sym (append_assoc before (own ∷ []) ys))
    ∙ (put_past (bound high room) (before ++ own ∷ []) ys front ∙ (ap (λ es. (before ++ own ∷ []) ++ es) (put_first (bound high room) ys (behind_less high room ys before_next rest.1)) ∙ append_assoc before (own ∷ []) (bound high room ∷ ys)))

other_less : (o : Ordering) → o ≡ Less → is_eq o ≡ false
other_less Less h = refl
other_less Equal h = absurd (cc)
other_less Greater h = absurd (cc)

other_greater : (o p : Ordering) → o ≡ ordering_reverse p → p ≡ Less → is_eq o ≡ false
other_greater o p turn lt = ap is_eq (turn ∙ ap ordering_reverse lt)

new_above : (pair : NodeEntry) (xs : List NodeEntry) → AllByRecursion (λ x. Lt x pair) xs → IsNew pair xs
new_above pair [] h = tt
new_above pair (x ∷ xs) h = (other_less (entry_order x pair) h.0, new_above pair xs h.1)

new_below : (pair : NodeEntry) (xs : List NodeEntry) → AllByRecursion (Lt pair) xs → IsNew pair xs
new_below pair [] h = tt
new_below pair (x ∷ xs) h = (other_greater (entry_order x pair) (entry_order pair x) (entries_total.antisymm x pair) h.0, new_below pair xs h.1)

-- they ascend
pub two_ascend : (before : List NodeEntry) (own low high : NodeEntry) (ys : List NodeEntry) (child room : Dbkey) → Ascend (before ++ own ∷ ys) → Lt low high → is_up_to_own (length before) high (own ∷ ys) ≡ false → goes_on high ys ≡ false → Ascend (with_pair (bound high room) (lowered (length before) (unbound low child) (before ++ own ∷ ys)))
two_ascend [] own low high ys child room ascend lt past_own before_next =
    let first = unbound_less low high child room lt in
    let behind = behind_less high room ys before_next ascend.1 in
    put_ascends (bound high room) (unbound low child ∷ ys) (all_lt (unbound low child) (bound high room) ys first (less_all (bound high room) ys behind), ascend.1) (other_less (entry_order (unbound low child) (bound high room)) first, new_below (bound high room) ys behind)
two_ascend (x ∷ xs) own low high ys child room ascend lt past_own before_next =
    let own_lt : Lt own high = less_turn high own (not_le (entry_order high own) past_own) in
    let before = x ∷ xs in
    let rest : Ascend (own ∷ ys) = ascend_rest before (own ∷ ys) ascend in
    put_ascends (bound high room) (before ++ own ∷ ys) ascend
    (all_append (λ p. is_eq (entry_order p (bound high room)) ≡ false) before (own ∷ ys) (new_above (bound high room) before (all_below own (bound high room) before (less_upto (entry_order own high) own_lt) (before_all before ys own ascend)))
    (other_less (entry_order own high) own_lt, new_below (bound high room) ys (behind_less high room ys before_next rest.1)))
