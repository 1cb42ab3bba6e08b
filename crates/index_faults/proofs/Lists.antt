-- Ascending lists of pairs.
use Rattle.std.proofs.Common.{◌≡◌, ◌⊎◌, inl, inr, ◌≤◌, Bool, true, false, not, ◌&&◌, ◌||◌, List, [], ◌∷◌, length, refl, sym, ap, subst, ◌∙◌, arith}
use Rattle.std.specs.List.{AllByRecursion, list_any}
use Rattle.std.specs.List.Sorted.{IsStrictlySortedBy}
use Rattle.std.specs.declared.cmp.Ordering.{Ordering}
use Rattle.std.specs.declared.cmp.Ordering.TheVariants.{Less, Equal, Greater}
use Rattle.std.specs.Ordering.{is_eq, ordering_then}
use Rattle.std.specs.Cmp.{tied_itself}
use Rattle.std.proofs.lemmas.Bool.{and_parts}
use Rattle.rdb_types.specs.declared.values.Value.{Value}
use Rattle.rdb_types.specs.Order.{row_order, dbkey_order}
use Rattle.rdb_types.specs.OrderLaws.{row_total, same_row}
use Rattle.index_node.specs.declared.entry.NodeEntry.{NodeEntry}
use Rattle.index_node.specs.Order.{entry_order}
use Rattle.index_node.specs.OrderLaws.{entries_total}
use Rattle.sorted_index_laws.proofs.Ordered.{Lt, Ascend}
use Rattle.index_faults.specs.Contents.{keys_differ_from, keys_differ}

abbrev pub Has : {X : Type 0} → X → List X → Type 0
Has x [] = ⊥
Has x (y ∷ ys) = (y ≡ x) ⊎ Has x ys

pub all_from_has : {X : Type 0} (P : X → Type 0) (xs : List X) → ((x : X) → Has x xs → P x) → AllByRecursion P xs
all_from_has P [] each = tt
all_from_has P (x ∷ xs) each = (each x (inl refl), all_from_has P xs (λ y there. each y (inr there)))

pub has_from_all : {X : Type 0} (P : X → Type 0) (xs : List X) (x : X) → AllByRecursion P xs → Has x xs → P x
has_from_all P [] x all there = absurd there
has_from_all P (y ∷ ys) x all (inl same) = subst P same all.0
has_from_all P (y ∷ ys) x all (inr there) = has_from_all P ys x all.1 there

pub any_has : {X : Type 0} (f : X → Bool) (xs : List X) → list_any f xs ≡ true → (x : X) × Has x xs × (f x ≡ true)
any_has f [] is = absurd (let no : ⊥ = cc in no)
any_has f (x ∷ xs) is = elim (f x) as (λ b. f x ≡ b → (b || list_any f xs) ≡ true → (y : _) × Has y (x ∷ xs) × (f y ≡ true)) [
  | true ↦ λ here h. (x, inl refl, here)
  | false ↦ λ here h. let rest = any_has f xs h in (rest.0, inr rest.1, rest.2)
] refl is

or_right : (a b : Bool) → b ≡ true → (a || b) ≡ true
or_right true b h = refl
or_right false b h = h

pub has_any : {X : Type 0} (f : X → Bool) (xs : List X) (x : X) → Has x xs → f x ≡ true → list_any f xs ≡ true
has_any f [] x there is = absurd there
has_any f (y ∷ ys) x (inl same) is = ap (λ b. b || list_any f ys) (ap f same ∙ is)
has_any f (y ∷ ys) x (inr there) is = or_right (f y) (list_any f ys) (has_any f ys x there is)

pub ties : (o : Ordering) → is_eq o ≡ true → o ≡ Equal
ties Less h = absurd (let no : ⊥ = cc in no)
ties Equal h = refl
ties Greater h = absurd (let no : ⊥ = cc in no)

-- ---- ascending pairs

pub ascends : (es : List NodeEntry) → IsStrictlySortedBy entry_order es → Ascend es
unfolding IsStrictlySortedBy
ascends [] h = tt
ascends (e ∷ es) h = (h.0, ascends es h.1)

pub not_itself : (x : NodeEntry) → Lt x x → ⊥
not_itself x less = let tied = tied_itself entries_total x in let no : ⊥ = cc in no

-- of two ascending lists, the one within the other is as long only where they are one
pub within : (ys xs : List NodeEntry) → Ascend xs → Ascend ys → ((z : NodeEntry) → Has z xs → Has z ys) → (length xs ≤ length ys) × (length xs ≡ length ys → xs ≡ ys)
within [] [] ax ay sub = (omega arith, λ same. refl)
within (y ∷ ys) [] ax ay sub = (omega arith, λ same. absurd (let no : ⊥ = omega (arith, same) in no))
within [] (x ∷ xs) ax ay sub = absurd (sub x (inl refl))
within (y ∷ ys) (x ∷ xs) ax ay sub = elim (sub x (inl refl)) [
  | inl same ↦
      let tail_in : (z : NodeEntry) → Has z xs → Has z ys = λ z there. elim (sub z (inr there)) [
        | inl is ↦ absurd (not_itself z (subst (λ (w : NodeEntry). Lt w z) (sym same ∙ is) (has_from_all (Lt x) xs z ax.0 there)))
        | inr h ↦ h
      ] in
      let rest = within ys xs ax.1 ay.1 tail_in in
      let shorter = rest.0 in
      (omega (arith, shorter), λ equal. let lists = rest.1 (omega (arith, equal)) in λ i. sym same i ∷ lists i)
  | inr there ↦
      let below : Lt y x = has_from_all (Lt y) ys x ay.0 there in
      let all_in : (z : NodeEntry) → Has z (x ∷ xs) → Has z ys = λ z h. elim (sub z h) [
        | inl is ↦ absurd (elim h [
          | inl own ↦ not_itself x (subst (λ (w : NodeEntry). Lt w x) (is ∙ sym own) below)
          | inr behind ↦ not_itself z (entries_total.trans z x z (subst (λ (w : NodeEntry). Lt w x) is below) (has_from_all (Lt x) xs z ax.0 behind))
        ])
        | inr k ↦ k
      ] in
      let rest = within ys (x ∷ xs) ax ay.1 all_in in
      let shorter = rest.0 in
      (omega (arith, shorter), λ equal. absurd (let no : ⊥ = omega (arith, equal, shorter) in no))
]

-- ---- keys

key_less : (r s : Ordering) → ordering_then r s ≡ Less → not (is_eq r) ≡ true → r ≡ Less
key_less Less s less apart = refl
key_less Equal s less apart = absurd (let no : ⊥ = cc in no)
key_less Greater s less apart = absurd (let no : ⊥ = cc in no)

abbrev pub KeysAscend : List NodeEntry → Type 0
KeysAscend [] = Unit {0}
KeysAscend (p ∷ ps) = AllByRecursion (λ q. row_order p.key q.key ≡ Less) ps × KeysAscend ps

further : (p q : NodeEntry) (ps : List NodeEntry) → row_order p.key q.key ≡ Less → AllByRecursion (λ x. row_order q.key x.key ≡ Less) ps → AllByRecursion (λ x. row_order p.key x.key ≡ Less) ps
further p q [] less all = tt
further p q (x ∷ xs) less all = (row_total.trans p.key q.key x.key less all.0, further p q xs less all.1)

keys_ascend_from : (p : NodeEntry) (ps : List NodeEntry) → Ascend (p ∷ ps) → keys_differ_from p ps ≡ true → KeysAscend (p ∷ ps)
keys_ascend_from p [] asc differ = (tt, tt)
keys_ascend_from p (q ∷ qs) asc differ =
    let parts = and_parts _ _ differ in
    let less = key_less (row_order p.key q.key) (dbkey_order p.row q.row) asc.0.0 parts.0 in
    let rest = keys_ascend_from q qs asc.1 parts.1 in
    ((less, further p q qs less rest.0), rest)

pub keys_ascend : (ps : List NodeEntry) → Ascend ps → keys_differ ps ≡ true → KeysAscend ps
keys_ascend [] asc differ = tt
keys_ascend (p ∷ ps) asc differ = keys_ascend_from p ps asc differ

unequal : (a b : NodeEntry) → row_order a.key b.key ≡ Less → a.key ≡ b.key → ⊥
unequal a b less same = let tied : row_order a.key b.key ≡ Equal = ap (λ (k : List Value). row_order a.key k) (sym same) ∙ tied_itself row_total a.key in let no : ⊥ = cc in no

-- pairs of one key are one pair
pub one_of_key : (ps : List NodeEntry) (a b : NodeEntry) → KeysAscend ps → Has a ps → Has b ps → a.key ≡ b.key → a ≡ b
one_of_key [] a b asc x y same = absurd x
one_of_key (p ∷ ps) a b asc (inl x) (inl y) same = sym x ∙ y
one_of_key (p ∷ ps) a b asc (inl x) (inr y) same = absurd (unequal p b (has_from_all (λ (q : NodeEntry). row_order p.key q.key ≡ Less) ps b asc.0 y) (ap (λ (e : NodeEntry). e.key) x ∙ same))
one_of_key (p ∷ ps) a b asc (inr x) (inl y) same = absurd (unequal p a (has_from_all (λ (q : NodeEntry). row_order p.key q.key ≡ Less) ps a asc.0 x) (ap (λ (e : NodeEntry). e.key) y ∙ sym same))
one_of_key (p ∷ ps) a b asc (inr x) (inr y) same = one_of_key ps a b asc.1 x y same

-- two different pairs of one key
pub record Clash (ps : List NodeEntry) : Type 0 where
  pub a : NodeEntry
  pub b : NodeEntry
  pub first : Has a ps
  pub then : Has b ps
  pub same : a.key ≡ b.key
  pub less : Lt a b

clash_from : (p : NodeEntry) (ps : List NodeEntry) → Ascend (p ∷ ps) → keys_differ_from p ps ≡ false → Clash (p ∷ ps)
clash_from p [] asc differ = absurd (let no : ⊥ = cc in no)
clash_from p (q ∷ qs) asc differ = elim (is_eq (row_order p.key q.key)) as (λ b. is_eq (row_order p.key q.key) ≡ b → (not b && keys_differ_from q qs) ≡ false → Clash (p ∷ q ∷ qs)) [
  | true ↦ λ tie h. record { a = p; b = q; first = inl refl; then = inr (inl refl); same = same_row p.key q.key (ties (row_order p.key q.key) tie); less = asc.0.0 }
  | false ↦ λ tie h. let rest = clash_from q qs asc.1 h in record { a = rest.a; b = rest.b; first = inr rest.first; then = inr rest.then; same = rest.same; less = rest.less }
] refl differ

pub clash : (ps : List NodeEntry) → Ascend ps → keys_differ ps ≡ false → Clash ps
clash [] asc differ = absurd (let no : ⊥ = cc in no)
clash (p ∷ ps) asc differ = clash_from p ps asc differ
