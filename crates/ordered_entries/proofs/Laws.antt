-- Laws of `put`, `find` and the taking away of a key, for those who keep a map.
use Rattle.std.proofs.Common.{◌≡◌, ℕ, true, cond, not, List, [], ◌∷◌, Some, None, refl, sym, ap, ◌∙◌}
use Rattle.std.specs.declared.cmp.Ordering.{Ordering}
use Rattle.std.specs.declared.cmp.Ordering.TheVariants.{Less, Equal, Greater}
use Rattle.std.specs.Ordering.{is_eq}
use Rattle.std.specs.Cmp.{IsTotalOrder, tied_itself}
use Rattle.std.specs.List.{filter}
use Rattle.std.specs.FinMap.Entries.{find, put, is_sorted, by_order, find-put}
use Rattle.std.proofs.lemmas.Bool.{and_parts}
use Rattle.std.proofs.lemmas.Option.{none-some, same_Some}
use Rattle.ordered_entries.proofs.Place.{without, without_none, none_below}

module _ {K V : Type 0} (R : K → K → Ordering) (o : IsTotalOrder R) where
  at_order : (r s : Ordering) (a b c : List (K × V)) → r ≡ s → by_order r a b c ≡ by_order s a b c
  at_order r s a b c e = ap (λ r. by_order r a b c) e

  -- the last of two values put at one key stays
  pub put-put : (k : K) (v w : V) (es : List (K × V)) → put R k w (put R k v es) ≡ put R k w es
  put-put k v w [] = at_order _ _ _ _ _ (tied_itself o k)
  put-put k v w (e ∷ es) =
      elim (R k e.0) as (λ r. R k e.0 ≡ r → put R k w (by_order r ((k, v) ∷ e ∷ es) ((e.0, v) ∷ es) (e ∷ put R k v es)) ≡ by_order r ((k, w) ∷ e ∷ es) ((e.0, w) ∷ es) (e ∷ put R k w es)) [
        | Less ↦ λ p. at_order _ _ _ _ _ (tied_itself o k)
        | Equal ↦ λ p. at_order _ _ _ _ _ p
        | Greater ↦ λ p. at_order _ _ _ _ _ p ∙ ap (λ l. e ∷ l) (put-put k v w es)
      ] refl

  -- what was put is found
  pub find-put_same : (k : K) (v : V) (es : List (K × V)) → find R k (put R k v es) ≡ Some v
  find-put_same k v es = find-put R o k k v es ∙ ap (λ r. cond (is_eq r) (Some v) (find R k es)) (tied_itself o k)

  -- removing a key that was not there before it was put gives the list back
  pub filter-put : (k : K) (v : V) (es : List (K × V)) → find R k es ≡ None → filter (λ e. not (is_eq (R k e.0))) (put R k v es) ≡ es
  filter-put k v [] none = ap (λ r. cond (not (is_eq r)) ((k, v) ∷ []) []) (tied_itself o k)
  filter-put k v (e ∷ es) none =
      let kept = without_none R o k (e ∷ es) none in
      elim (R k e.0) as (λ r. R k e.0 ≡ r → cond (is_eq r) (Some e.1) (find R k es) ≡ None → without R o k (by_order r ((k, v) ∷ e ∷ es) ((e.0, v) ∷ es) (e ∷ put R k v es)) ≡ e ∷ es) [
        | Less ↦ λ p _. ap (λ r. cond (not (is_eq r)) ((k, v) ∷ without R o k (e ∷ es)) (without R o k (e ∷ es))) (tied_itself o k) ∙ kept
        | Equal ↦ λ p h. absurd (cc)
        | Greater ↦ λ p h. ap (λ r. cond (not (is_eq r)) (e ∷ without R o k (put R k v es)) (without R o k (put R k v es))) p ∙ ap (λ l. e ∷ l) (filter-put k v es h)
      ] refl none

  -- a value that is put where it is found already changes nothing
  pub put_found : (k : K) (v : V) (es : List (K × V)) → is_sorted R es ≡ true → find R k es ≡ Some v → put R k v es ≡ es
  put_found k v [] sorted found = absurd (cc)
  put_found k v (e ∷ es) sorted found =
      elim (R k e.0) as (λ r. R k e.0 ≡ r → cond (is_eq r) (Some e.1) (find R k es) ≡ Some v → by_order r ((k, v) ∷ e ∷ es) ((e.0, v) ∷ es) (e ∷ put R k v es) ≡ e ∷ es) [
        | Less ↦ λ p h. absurd (none-some v (sym (none_below R o e.0 k es p (and_parts _ _ sorted).0) ∙ h))
        | Equal ↦ λ p h. ap (λ w. (e.0, w) ∷ es) (sym (same_Some _ _ h))
        | Greater ↦ λ p h. ap (λ l. e ∷ l) (put_found k v es (and_parts _ _ sorted).1 h)
      ] refl found
