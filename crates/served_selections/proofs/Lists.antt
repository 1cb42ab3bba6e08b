-- What holds of one or of each of the items of a list.
use Rattle.std.proofs.Common.{Bool, true, false, cond, List, [], ◌∷◌, ◌++◌, map, inl, inr}
use Rattle.std.specs.List.{AllByRecursion, filter, flat_map}
use Rattle.sorted_index_laws.specs.Nodes.{AnyByRecursion}
use Rattle.sorted_index_laws.proofs.Ordered.{all_append}

module _ {X : Type 0} (P : X → Type 0) where
  pub any_left : (xs ys : List X) → AnyByRecursion P xs → AnyByRecursion P (xs ++ ys)
  any_left [] ys h = absurd h
  any_left (x ∷ xs) ys (inl own) = inl own
  any_left (x ∷ xs) ys (inr later) = inr (any_left xs ys later)

  pub any_right : (xs ys : List X) → AnyByRecursion P ys → AnyByRecursion P (xs ++ ys)
  any_right [] ys h = h
  any_right (x ∷ xs) ys h = inr (any_right xs ys h)

  pub any_of : (Q : X → Type 0) → ((x : X) → P x → Q x) → (xs : List X) → AnyByRecursion P xs → AnyByRecursion Q xs
  any_of Q f [] h = h
  any_of Q f (x ∷ xs) (inl own) = inl (f x own)
  any_of Q f (x ∷ xs) (inr later) = inr (any_of Q f xs later)

  -- of one of which the one holds, and of each of which the other
  pub any_with : (Q R : X → Type 0) → ((x : X) → P x → Q x → R x) → (xs : List X) → AllByRecursion Q xs → AnyByRecursion P xs → AnyByRecursion R xs
  any_with Q R f [] all h = h
  any_with Q R f (x ∷ xs) all (inl own) = inl (f x own all.0)
  any_with Q R f (x ∷ xs) all (inr later) = inr (any_with Q R f xs all.1 later)

  pub all_kept : (keep : X → Bool) (xs : List X) → AllByRecursion P xs → AllByRecursion P (filter keep xs)
  all_kept keep [] h = tt
  all_kept keep (x ∷ xs) h = elim (keep x) as (λ b. AllByRecursion P (cond b (x ∷ filter keep xs) (filter keep xs))) [
    | true ↦ (h.0, all_kept keep xs h.1)
    | false ↦ all_kept keep xs h.1
  ]

  pub all_through : {Y : Type 0} (Q : Y → Type 0) (f : Y → List X) → ((y : Y) → Q y → AllByRecursion P (f y)) → (ys : List Y) → AllByRecursion Q ys → AllByRecursion P (flat_map f ys)
  all_through Q f each [] h = tt
  all_through Q f each (y ∷ ys) h = all_append P (f y) (flat_map f ys) (each y h.0) (all_through Q f each ys h.1)

  pub all_mapped : {Y : Type 0} (f : Y → X) → ((y : Y) → P (f y)) → (ys : List Y) → AllByRecursion P (map f ys)
  all_mapped f each [] = tt
  all_mapped f each (y ∷ ys) = (each y, all_mapped f each ys)
