-- Tests, entries, areas, and what holds of each of a list.
use Rattle.std.proofs.Common.{◌≡◌, ◌==◌, ℕ, Bool, true, false, List, [], ◌∷◌, refl, ap, cond, not, Some, None, T, sym, subst, ◌∙◌}
use Rattle.std.specs.declared.cmp.Ordering.{Ordering}
use Rattle.std.specs.declared.cmp.Ordering.TheVariants.{Less, Equal, Greater}
use Rattle.std.specs.Ordering.{is_eq, is_lt}
use Rattle.std.specs.List.{AllByRecursion, filter}
use Rattle.std.specs.Cmp.{IsTotalOrder}
use Rattle.std.specs.FinMap.Entries.{find, put, is_sorted, below_all, is_sorted-put, is_sorted-where_key}
use Rattle.std.proofs.lemmas.Bool.{and_parts}
use Rattle.std.proofs.Common.{arith, nat_eq}
use Rattle.std.proofs.lemmas.Bool.Decides.{nat_tests}
use Rattle.rdb_types.specs.declared.keys.Dbkey.{Dbkey}
use Rattle.rdb_types.specs.OrderLaws.{same_dbkey}
use Rattle.rdb_types.specs.Order.{dbkey_order}
use Rattle.sound_lines.proofs.Gathering.{true_from_T}

pub equal : (r : Ordering) → is_eq r ≡ true → r ≡ Equal
equal Less is = let bad : ⊥ = cc in absurd bad
equal Equal is = refl
equal Greater is = let bad : ⊥ = cc in absurd bad

pub less : (r : Ordering) → is_lt r ≡ true → r ≡ Less
less Less e = refl
less Equal e = let bad : ⊥ = cc in absurd bad
less Greater e = let bad : ⊥ = cc in absurd bad

-- a test that can't hold fails
pub fails : (b : Bool) → (b ≡ true → ⊥) → b ≡ false
fails true h = absurd (h refl)
fails false h = refl

-- keys of two areas are apart
pub keys_apart : (a : ℕ) (k key : Dbkey) → (k.area == a) ≡ true → (key.area == a) ≡ false → is_eq (dbkey_order k key) ≡ false
keys_apart a k key own other =
    fails _ (λ tie. let moved = ap (λ (x : Dbkey). x.area == a) (same_dbkey k key (equal _ tie)) in let bad : ⊥ = cc in bad)

pub all_of : {X : Type 0} (P Q : X → Type 0) → ((x : X) → P x → Q x) → (xs : List X) → AllByRecursion P xs → AllByRecursion Q xs
all_of P Q f [] h = tt
all_of P Q f (x ∷ xs) h = (f x h.0, all_of P Q f xs h.1)

pub both_of : {X : Type 0} (P Q R : X → Type 0) → ((x : X) → P x → Q x → R x) → (xs : List X) → AllByRecursion P xs → AllByRecursion Q xs → AllByRecursion R xs
both_of P Q R f [] h k = tt
both_of P Q R f (x ∷ xs) h k = (f x h.0 k.0, both_of P Q R f xs h.1 k.1)

pub number_is : (m n : ℕ) → (m == n) ≡ true → m ≡ n
number_is m n is = grind (arith, nat_tests)

pub number_tests : (m n : ℕ) → m ≡ n → nat_eq m n ≡ true
number_tests m n same = grind (arith, nat_tests)

-- ---- entries in order

module _ {K V : Type 0} (R : K → K → Ordering) (o : IsTotalOrder R) where
  pub sorted_put : (k : K) (v : V) (es : List (K × V)) → is_sorted R es ≡ true → is_sorted R (put R k v es) ≡ true
  sorted_put k v es sorted = true_from_T _ (is_sorted-put R o k v es (subst T (sym sorted) tt))

  pub sorted_without : (k : K) (es : List (K × V)) → is_sorted R es ≡ true → is_sorted R (filter (λ e. not (is_eq (R k e.0))) es) ≡ true
  sorted_without k es sorted = true_from_T _ (is_sorted-where_key R (λ x. not (is_eq (R k x))) es (subst T (sym sorted) tt))

  -- no later key ties with one below the first
  pub none_below : (x k : K) (es : List (K × V)) → R k x ≡ Less → below_all R x es ≡ true → find R k es ≡ None
  none_below x k [] low below = refl
  none_below x k (e ∷ es) low below =
      let parts = and_parts (is_lt (R x e.0)) (below_all R x es) below in
      ap (λ r. cond (is_eq r) (Some e.1) (find R k es)) (o.trans k x e.0 low (less _ parts.0)) ∙ none_below x k es low parts.1
