-- An entry put at its place among others.
use Rattle.std.proofs.Common.{◌≡◌, ◌+◌, true, false, cond, List, [], ◌∷◌, ◌++◌, refl, sym, ap, ◌∙◌, arith}
use Rattle.std.specs.declared.cmp.Ordering.{Ordering}
use Rattle.std.specs.declared.cmp.Ordering.TheVariants.{Less, Equal, Greater}
use Rattle.std.specs.Ordering.{is_lt, is_eq, ordering_reverse}
use Rattle.std.specs.List.{AllByRecursion, flat_map, list_any}
use Rattle.slot_fields.specs.Fields.{size}
use Rattle.slot_fields.proofs.Laws.{size_append}
use Rattle.index_node.specs.declared.entry.NodeEntry.{NodeEntry}
use Rattle.index_node.specs.Order.{entry_order}
use Rattle.index_node.specs.OrderLaws.{entries_total}
use Rattle.index_node.specs.Node.{entry_fields}
use Rattle.sorted_index_laws.specs.Changes.{with_pair}
use Rattle.sorted_index_laws.specs.Insertion.{IsNew}
use Rattle.sorted_index_laws.specs.Inner.Growth.{with_new}
use Rattle.sorted_index_laws.proofs.Ordered.{Lt, UpTo, Ascend, lt_upto, less_all}

pub greater : (o p : Ordering) → o ≡ ordering_reverse p → p ≡ Less → o ≡ Greater
greater o p turn lt = turn ∙ ap ordering_reverse lt

pub is_less : (o : Ordering) → is_lt o ≡ true → o ≡ Less
is_less Less h = refl
is_less Equal h = absurd (cc)
is_less Greater h = absurd (cc)

pub less_is : (o : Ordering) → o ≡ Less → is_lt o ≡ true
less_is Less h = refl
less_is Equal h = absurd (cc)
less_is Greater h = absurd (cc)

greater_not : (o : Ordering) → o ≡ Greater → is_lt o ≡ false
greater_not Less h = absurd (cc)
greater_not Equal h = absurd (cc)
greater_not Greater h = refl

left_over : (o : Ordering) → is_lt o ≡ false → is_eq o ≡ false → o ≡ Greater
left_over Less h k = absurd (cc)
left_over Equal h k = absurd (cc)
left_over Greater h k = refl

pub less_turn : (a b : NodeEntry) → entry_order a b ≡ Greater → Lt b a
less_turn a b h = entries_total.antisymm b a ∙ ap ordering_reverse h

pub all_lt : (a b : NodeEntry) (xs : List NodeEntry) → Lt a b → AllByRecursion (UpTo b) xs → AllByRecursion (Lt a) xs
all_lt a b [] lt h = tt
all_lt a b (x ∷ xs) lt h = (lt_upto a b x lt h.0, all_lt a b xs lt h.1)

pub all_below : (a b : NodeEntry) (ps : List NodeEntry) → UpTo a b → AllByRecursion (λ p. Lt p a) ps → AllByRecursion (λ p. Lt p b) ps
all_below a b [] upto h = tt
all_below a b (p ∷ ps) upto h = (lt_upto p a b h.0 upto, all_below a b ps upto h.1)

pub all_put : (P : NodeEntry → Type 0) (pair : NodeEntry) (es : List NodeEntry) → P pair → AllByRecursion P es → AllByRecursion P (with_pair pair es)
all_put P pair [] h k = (h, tt)
all_put P pair (e ∷ es) h k = elim (is_lt (entry_order e pair)) as (λ b. AllByRecursion P (cond b (e ∷ with_pair pair es) (pair ∷ e ∷ es))) [
  | true ↦ (k.0, all_put P pair es h k.1)
  | false ↦ (h, k)
]

pub put_past : (pair : NodeEntry) (xs ys : List NodeEntry) → AllByRecursion (λ x. Lt x pair) xs → with_pair pair (xs ++ ys) ≡ xs ++ with_pair pair ys
put_past pair [] ys h = refl
put_past pair (x ∷ xs) ys h = ap (λ b. cond b (x ∷ with_pair pair (xs ++ ys)) (pair ∷ x ∷ (xs ++ ys))) (less_is (entry_order x pair) h.0) ∙ ap (λ l. x ∷ l) (put_past pair xs ys h.1)

pub put_first : (pair : NodeEntry) (zs : List NodeEntry) → AllByRecursion (Lt pair) zs → with_pair pair zs ≡ pair ∷ zs
put_first pair [] h = refl
put_first pair (z ∷ zs) h = ap (λ b. cond b (z ∷ with_pair pair zs) (pair ∷ z ∷ zs)) (greater_not (entry_order z pair) (greater (entry_order z pair) (entry_order pair z) (entries_total.antisymm z pair) h.0))

pub put_before : (pair : NodeEntry) (ys zs : List NodeEntry) → AllByRecursion (Lt pair) zs → with_pair pair (ys ++ zs) ≡ with_pair pair ys ++ zs
put_before pair [] zs h = put_first pair zs h
put_before pair (y ∷ ys) zs h = elim (is_lt (entry_order y pair)) as (λ b. cond b (y ∷ with_pair pair (ys ++ zs)) (pair ∷ y ∷ (ys ++ zs)) ≡ cond b (y ∷ with_pair pair ys) (pair ∷ y ∷ ys) ++ zs) [
  | true ↦ ap (λ l. y ∷ l) (put_before pair ys zs h)
  | false ↦ refl
]

pub put_ascends : (pair : NodeEntry) (es : List NodeEntry) → Ascend es → IsNew pair es → Ascend (with_pair pair es)
put_ascends pair [] h new = (tt, tt)
put_ascends pair (e ∷ es) h new = elim (is_lt (entry_order e pair)) as (λ b. is_lt (entry_order e pair) ≡ b → Ascend (cond b (e ∷ with_pair pair es) (pair ∷ e ∷ es))) [
  | true ↦ λ is. (all_put (Lt e) pair es (is_less (entry_order e pair) is) h.0, put_ascends pair es h.1 new.1)
  | false ↦ λ is. let lt = less_turn e pair (left_over (entry_order e pair) is new.0) in ((lt, all_lt pair e es lt (less_all e es h.0)), h)
] refl

pub put_bytes : (pair : NodeEntry) (es : List NodeEntry) → size (flat_map entry_fields (with_pair pair es)) ≡ size (entry_fields pair) + size (flat_map entry_fields es)
put_bytes pair [] = size_append (entry_fields pair) []
put_bytes pair (e ∷ es) = elim (is_lt (entry_order e pair)) as (λ b. size (flat_map entry_fields (cond b (e ∷ with_pair pair es) (pair ∷ e ∷ es))) ≡ size (entry_fields pair) + size (flat_map entry_fields (e ∷ es))) [
  | true ↦ let rest = put_bytes pair es in omega (arith, rest, size_append (entry_fields e) (flat_map entry_fields (with_pair pair es)), size_append (entry_fields e) (flat_map entry_fields es))
  | false ↦ omega (arith, size_append (entry_fields pair) (flat_map entry_fields (e ∷ es)))
]

-- ---- one that is there already is left

pub any_none : (pair : NodeEntry) (es : List NodeEntry) → IsNew pair es → list_any (λ p. is_eq (entry_order p pair)) es ≡ false
any_none pair [] h = refl
any_none pair (e ∷ es) h = rw h.0 (any_none pair es h.1)

pub none_any : (pair : NodeEntry) (es : List NodeEntry) → list_any (λ p. is_eq (entry_order p pair)) es ≡ false → IsNew pair es
none_any pair [] h = tt
none_any pair (e ∷ es) h = elim (is_eq (entry_order e pair)) as (λ b. is_eq (entry_order e pair) ≡ b → IsNew pair (e ∷ es)) [
  | true ↦ λ is. absurd (let bad : true ≡ false = sym (rw is refl) ∙ h in cc)
  | false ↦ λ is. (is, none_any pair es (sym (rw is refl) ∙ h))
] refl

pub with_new_is : (pair : NodeEntry) (es : List NodeEntry) → IsNew pair es → with_new pair es ≡ with_pair pair es
with_new_is pair es h = ap (λ b. cond b es (with_pair pair es)) (any_none pair es h)
