-- What is added to a list: what was there before stays, and each other one is so.
use Rattle.std.proofs.Common.{◌⊎◌, inl, inr, ℕ, zero, suc, ◌<◌, List, [], ◌∷◌, ◌++◌, length, get_or, refl, sym, subst, arith}
use Rattle.std.specs.declared.cmp.Ordering.{Ordering}
use Rattle.std.specs.declared.cmp.Ordering.TheVariants.{Less, Equal, Greater}
use Rattle.std.specs.Ordering.{match_ordering}
use Rattle.std.specs.BTreeSet.{insert_key}
use Rattle.std.specs.List.{AllByRecursion}
use Rattle.index_ahead.specs.Added.{AddsOnly, IsIn}

all_of : {X : Type 0} (P Q : X → Type 0) → ((x : X) → P x → Q x) → (xs : List X) → AllByRecursion P xs → AllByRecursion Q xs
all_of P Q f [] each = tt
all_of P Q f (x ∷ xs) each = (f x each.0, all_of P Q f xs each.1)

module _ {X : Type 0} where
  pub all_there : (xs : List X) → AllByRecursion (IsIn xs) xs
  all_there [] = tt
  all_there (x ∷ xs) = (inl refl, all_of (IsIn xs) (IsIn (x ∷ xs)) (λ y there. inr there) xs (all_there xs))

  lookup : (P : X → Type 0) (xs : List X) (x : X) → AllByRecursion P xs → IsIn xs x → P x
  lookup P [] x each there = absurd there
  lookup P (y ∷ ys) x each (inl is) = subst P (sym is) each.0
  lookup P (y ∷ ys) x each (inr later) = lookup P ys x each.1 later

  pub one_at : (xs : List X) (i : ℕ) (x : X) → i < length xs → IsIn xs (get_or xs i x)
  one_at [] i x within = absurd (omega (arith, within))
  one_at (y ∷ ys) zero x within = inl refl
  one_at (y ∷ ys) (suc i) x within = inr (one_at ys i x (omega (arith, within)))

  module _ (Is : X → Type 0) where
    pub kept : (xs : List X) → AddsOnly Is xs xs
    kept xs = all_of (IsIn xs) (λ x. Is x ⊎ IsIn xs x) (λ x there. inr there) xs (all_there xs)

    further : (o : X) (old : List X) (x : X) → Is x ⊎ IsIn old x → Is x ⊎ IsIn (o ∷ old) x
    further o old x (inl own) = inl own
    further o old x (inr there) = inr (inr there)

    wider : (o : X) (old new : List X) → AddsOnly Is old new → AddsOnly Is (o ∷ old) new
    wider o old new h = all_of (λ x. Is x ⊎ IsIn old x) (λ x. Is x ⊎ IsIn (o ∷ old) x) (further o old) new h

    since : (a b : List X) → AddsOnly Is a b → (x : X) → Is x ⊎ IsIn b x → Is x ⊎ IsIn a x
    since a b h x (inl own) = inl own
    since a b h x (inr there) = lookup (λ y. Is y ⊎ IsIn a y) b x h there

    pub then_added : (a b c : List X) → AddsOnly Is a b → AddsOnly Is b c → AddsOnly Is a c
    then_added a b c h k = all_of (λ x. Is x ⊎ IsIn b x) (λ x. Is x ⊎ IsIn a x) (since a b h) c k

    pub inserted : (order : X → X → Ordering) (k : X) → Is k → (ks : List X) → AddsOnly Is ks (insert_key order ks k)
    inserted order k own [] = (inl own, tt)
    inserted order k own (x ∷ xs) = elim (order k x) as (λ r. AddsOnly Is (x ∷ xs) (match_ordering r (k ∷ x ∷ xs) (x ∷ xs) (x ∷ insert_key order xs k))) [
      | Less ↦ (inl own, kept (x ∷ xs))
      | Equal ↦ kept (x ∷ xs)
      | Greater ↦ (inr (inl refl), wider x xs (insert_key order xs k) (inserted order k own xs))
    ]

    pub pushed : (k : X) → Is k → (ks : List X) → AddsOnly Is ks (ks ++ k ∷ [])
    pushed k own [] = (inl own, tt)
    pushed k own (x ∷ xs) = (inr (inl refl), wider x xs (xs ++ k ∷ []) (pushed k own xs))

    none_before : (x : X) → Is x ⊎ IsIn [] x → Is x
    none_before x (inl own) = own
    none_before x (inr there) = absurd there

    pub all_added : (new : List X) → AddsOnly Is [] new → AllByRecursion Is new
    all_added new h = all_of (λ x. Is x ⊎ IsIn [] x) Is none_before new h

    module _ (As : X → Type 0) (because : (x : X) → Is x → As x) where
      as_so : (old : List X) (x : X) → Is x ⊎ IsIn old x → As x ⊎ IsIn old x
      as_so old x (inl own) = inl (because x own)
      as_so old x (inr there) = inr there

      pub added_as : (old new : List X) → AddsOnly Is old new → AddsOnly As old new
      added_as old new h = all_of (λ x. Is x ⊎ IsIn old x) (λ x. As x ⊎ IsIn old x) (as_so old) new h
