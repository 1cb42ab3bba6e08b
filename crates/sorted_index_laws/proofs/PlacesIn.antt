-- Where a pair stands in a node.
use Rattle.std.proofs.Common.{◌≡◌, ℕ, zero, suc, ◌+◌, ◌<◌, ◌≤◌, Bool, true, false, cond, not, List, [], ◌∷◌, length, drop, get_or, refl, sym, ap, subst, ◌∙◌, arith}
use Rattle.std.specs.declared.cmp.Ordering.{Ordering}
use Rattle.std.specs.declared.cmp.Ordering.TheVariants.{Less, Equal, Greater}
use Rattle.std.specs.Ordering.{is_le, is_gt, is_eq, ordering_reverse}
use Rattle.std.specs.List.{AllByRecursion, remove}
use Rattle.std.proofs.lemmas.List.{drop_all}
use Rattle.std.proofs.lemmas.Cmp.{alike_right}
use Rattle.index_node.specs.declared.entry.NodeEntry.{NodeEntry}
use Rattle.index_node.specs.Order.{entry_order}
use Rattle.index_node.specs.OrderLaws.{entries_total}
use Rattle.sorted_index_laws.specs.Changes.{without_pair}
use Rattle.sorted_index_laws.specs.Inner.Steps.{count_up_to}
use Rattle.sorted_index_laws.proofs.Below.{entry_there}
use Rattle.sorted_index_laws.proofs.Ordered.{Lt, Ascend}
use Rattle.sorted_index_laws.proofs.Without.{IsOther, all_kept}

not_above : (o : Ordering) → is_gt o ≡ false → is_le o ≡ true
not_above Less h = refl
not_above Equal h = refl
not_above Greater h = absurd (cc)

above : (o : Ordering) → is_gt o ≡ true → is_le o ≡ false
above Less h = absurd (cc)
above Equal h = absurd (cc)
above Greater h = refl

counted : (pair e : NodeEntry) (rest : List NodeEntry) (b : Bool) → is_le (entry_order e pair) ≡ b → count_up_to pair (e ∷ rest) ≡ cond b (suc (count_up_to pair rest)) 0
counted pair e rest b is = ap (λ b. cond b (suc (count_up_to pair rest)) 0) is

pub count_more : (pair e : NodeEntry) (es : List NodeEntry) (n i : ℕ) → i < length es → e ≡ get_or es i e → is_gt (entry_order e pair) ≡ false → n ≡ i + count_up_to pair (drop i es) → n ≡ i + 1 + count_up_to pair (drop (i + 1) es)
count_more pair e es n i inside is upto was =
    let one : count_up_to pair (drop i es) ≡ suc (count_up_to pair (drop (suc i) es)) = ap (count_up_to pair) (entry_there es i e inside is) ∙ counted pair e (drop (suc i) es) true (not_above (entry_order e pair) upto) in
    let same : drop (suc i) es ≡ drop (i + 1) es = ap (λ k. drop k es) (let k : suc i ≡ i + 1 = omega arith in k) in
    let also : count_up_to pair (drop (suc i) es) ≡ count_up_to pair (drop (i + 1) es) = ap (count_up_to pair) same in
    omega (arith, was, one, also)

pub count_stops : (pair e : NodeEntry) (es : List NodeEntry) (n i : ℕ) → i < length es → e ≡ get_or es i e → is_gt (entry_order e pair) ≡ true → n ≡ i + count_up_to pair (drop i es) → i ≡ n
count_stops pair e es n i inside is gt was =
    let none : count_up_to pair (drop i es) ≡ 0 = ap (count_up_to pair) (entry_there es i e inside is) ∙ counted pair e (drop (suc i) es) false (above (entry_order e pair) gt) in
    omega (arith, was, none)

pub count_ends : (pair : NodeEntry) (es : List NodeEntry) (n i : ℕ) → length es ≤ i → i ≤ length es → n ≡ i + count_up_to pair (drop i es) → length es ≡ n
count_ends pair es n i past within was =
    let none : count_up_to pair (drop i es) ≡ 0 = ap (count_up_to pair) (drop_all i es past) in
    omega (arith, was, none, past, within)

-- what the entries from a place on keep, all keep
abbrev pub KeptFrom : NodeEntry → List NodeEntry → ℕ → Type 0
KeptFrom pair es i = without_pair pair (drop i es) ≡ drop i es → without_pair pair es ≡ es

pub kept_more : (pair e : NodeEntry) (es : List NodeEntry) (i : ℕ) → i < length es → e ≡ get_or es i e → is_eq (entry_order e pair) ≡ false → KeptFrom pair es i → KeptFrom pair es (i + 1)
kept_more pair e es i inside is other was kept =
    let behind = entry_there es i e inside is in
    let same : drop (i + 1) es ≡ drop (suc i) es = ap (λ k. drop k es) (let k : i + 1 ≡ suc i = omega arith in k) in
    let rest : without_pair pair (drop (suc i) es) ≡ drop (suc i) es = subst (λ xs. without_pair pair xs ≡ xs) same kept in
    was (ap (without_pair pair) behind ∙ (ap (λ b. cond (not b) (e ∷ without_pair pair (drop (suc i) es)) (without_pair pair (drop (suc i) es))) other ∙ (ap (λ xs. e ∷ xs) rest ∙ sym behind)))

pub kept_all : (pair : NodeEntry) (es : List NodeEntry) (i : ℕ) → length es ≤ i → KeptFrom pair es i → without_pair pair es ≡ es
kept_all pair es i past was = was (subst (λ xs. without_pair pair xs ≡ xs) (sym (drop_all i es past)) refl)

-- ---- one of them is taken out

tied : (o : Ordering) → is_eq o ≡ true → o ≡ Equal
tied Less h = absurd (cc)
tied Equal h = refl
tied Greater h = absurd (cc)

less_other : (o : Ordering) → o ≡ Less → is_eq o ≡ false
less_other Less h = refl
less_other Equal h = absurd (cc)
less_other Greater h = absurd (cc)

greater_other : (o p : Ordering) → o ≡ ordering_reverse p → p ≡ Less → is_eq o ≡ false
greater_other o p turn lt = ap is_eq (turn ∙ ap ordering_reverse lt)

all_above : (pair e : NodeEntry) (es : List NodeEntry) → entry_order e pair ≡ Equal → AllByRecursion (Lt e) es → AllByRecursion (IsOther pair) es
all_above pair e [] tie h = tt
all_above pair e (x ∷ xs) tie h = (greater_other (entry_order x pair) (entry_order pair x) (entries_total.antisymm x pair) (sym (entries_total.congr e pair x tie) ∙ h.0), all_above pair e xs tie h.1)

pub all_get : (P : NodeEntry → Type 0) (es : List NodeEntry) (i : ℕ) (d : NodeEntry) → i < length es → AllByRecursion P es → P (get_or es i d)
all_get P [] i d inside h = absurd (omega (arith, inside))
all_get P (x ∷ xs) zero d inside h = h.0
all_get P (x ∷ xs) (suc i) d inside h = all_get P xs i d (omega (arith, inside)) h.1

pub taken_out : (pair : NodeEntry) (es : List NodeEntry) (i : ℕ) → Ascend es → i < length es → ((d : NodeEntry) → is_eq (entry_order (get_or es i d) pair) ≡ true) → remove es i ≡ without_pair pair es
taken_out pair [] i ascend inside is = absurd (omega (arith, inside))
taken_out pair (x ∷ xs) zero ascend inside is =
    sym (ap (λ b. cond (not b) (x ∷ without_pair pair xs) (without_pair pair xs)) (is x) ∙ all_kept pair xs (all_above pair x xs (tied (entry_order x pair) (is x)) ascend.0))
taken_out pair (x ∷ xs) (suc i) ascend inside is =
    let within : i < length xs = omega (arith, inside) in
    let lt : Lt x (get_or xs i x) = all_get (Lt x) xs i x within ascend.0 in
    let less : entry_order x pair ≡ Less = sym (alike_right entries_total (get_or xs i x) pair x (tied (entry_order (get_or xs i x) pair) (is x))) ∙ lt in
    ap (λ ys. x ∷ ys) (taken_out pair xs i ascend.1 within is) ∙ sym (ap (λ b. cond (not b) (x ∷ without_pair pair xs) (without_pair pair xs)) (less_other (entry_order x pair) less))
