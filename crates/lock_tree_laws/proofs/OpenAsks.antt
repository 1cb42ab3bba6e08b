-- The list of what was asked while wants open and end.
use Rattle.std.proofs.Common.{◌≡◌, ℕ, ◌∷◌, [], Bool, true, false, List, refl, ◌∙◌, sym, ap, subst, ◌⊎◌, inl, inr}
use Rattle.std.specs.Prelude.{◌==◌, ◌||◌, not, if◌then◌else◌, is_some}
use Rattle.std.proofs.lemmas.Bool.{cases_Bool, eqb-true}
use Rattle.rdb_types.specs.declared.node.Node.{Node}
use Rattle.lock_needs.specs.declared.party.OpenWant.{OpenWant}
use Rattle.lock_needs.specs.declared.party.Asked.{Asked}
use Rattle.lock_needs.specs.Party.{Party}
use Rattle.lock_tree_laws.specs.Parties.{was_asked}
use Rattle.lock_tree_laws.specs.Order.{KeepsParty, asked_last, asks_cut, without_asks, opened_asks}

-- ---- wants of the others stay open

module _ (party next : ℕ → Party) (o : ℕ) (others : KeepsParty o party next) where
  same-open : (u : ℕ) → (u == o) ≡ false → is_some (next u).opened ≡ is_some (party u).opened
  same-open u d = ap (λ (p : Party). is_some p.opened) (others u d)

  -- the owner's want ends
  pub opened-ended : is_some (next o).opened ≡ false → (trail : List Asked) → opened_asks next trail ≡ without_asks o (opened_asks party trail)
  opened-ended shut [] = refl
  opened-ended shut (x ∷ xs) =
      elim (cases_Bool (x.owner == o)) [
        | inl t ↦
            let off : is_some (next x.owner).opened ≡ false = subst (λ (z : ℕ). is_some (next z).opened ≡ false) (sym (eqb-true x.owner o t)) shut in
            ap (λ (b : Bool). if b then x ∷ opened_asks next xs else opened_asks next xs) off
            ∙ (opened-ended shut xs ∙ sym (dropped (is_some (party x.owner).opened) t))
        | inr f ↦ ap (λ (b : Bool). if b then x ∷ opened_asks next xs else opened_asks next xs) (same-open x.owner f)
            ∙ (elim (is_some (party x.owner).opened) as (λ b. (if b then x ∷ opened_asks next xs else opened_asks next xs) ≡ without_asks o (if b then x ∷ opened_asks party xs else opened_asks party xs)) [
              | true ↦ ap (λ (ys : List Asked). x ∷ ys) (opened-ended shut xs) ∙ sym (ap (λ (b : Bool). if not b then x ∷ without_asks o (opened_asks party xs) else without_asks o (opened_asks party xs)) f)
              | false ↦ opened-ended shut xs
            ])
      ]
    where
      dropped : (b : Bool) → (x.owner == o) ≡ true → without_asks o (if b then x ∷ opened_asks party xs else opened_asks party xs) ≡ without_asks o (opened_asks party xs)
      dropped true t = ap (λ (c : Bool). if not c then x ∷ without_asks o (opened_asks party xs) else without_asks o (opened_asks party xs)) t
      dropped false t = refl

  -- a want opens that wasn't open, with what its owner was asked before forgotten
  pub opened-opens : is_some (party o).opened ≡ false → (trail : List Asked) → opened_asks next (without_asks o trail) ≡ opened_asks party trail
  opened-opens shut [] = refl
  opened-opens shut (x ∷ xs) =
      elim (cases_Bool (x.owner == o)) [
        | inl t ↦ ap (λ (b : Bool). opened_asks next (if not b then x ∷ without_asks o xs else without_asks o xs)) t
            ∙ (opened-opens shut xs
            ∙ sym (ap (λ (b : Bool). if b then x ∷ opened_asks party xs else opened_asks party xs) (subst (λ (z : ℕ). is_some (party z).opened ≡ false) (sym (eqb-true x.owner o t)) shut)))
        | inr f ↦ ap (λ (b : Bool). opened_asks next (if not b then x ∷ without_asks o xs else without_asks o xs)) f
            ∙ (ap (λ (b : Bool). if b then x ∷ opened_asks next (without_asks o xs) else opened_asks next (without_asks o xs)) (same-open x.owner f)
            ∙ ap (λ (ys : List Asked). if is_some (party x.owner).opened then x ∷ ys else ys) (opened-opens shut xs))
      ]

  -- the owner's open want is asked
  pub opened-asked : is_some (party o).opened ≡ true → is_some (next o).opened ≡ true → (n : Node) (trail : List Asked) → opened_asks next (asked_last trail o n) ≡ asked_last (opened_asks party trail) o n
  opened-asked was is n [] = ap (λ (b : Bool). if b then (record { owner = o; node = n }) ∷ [] else []) is
  opened-asked was is n (x ∷ xs) =
      ap (λ (b : Bool). if b then x ∷ opened_asks next (asked_last xs o n) else opened_asks next (asked_last xs o n)) (still (cases_Bool (x.owner == o)))
      ∙ elim (is_some (party x.owner).opened) as (λ b. (if b then x ∷ opened_asks next (asked_last xs o n) else opened_asks next (asked_last xs o n)) ≡ asked_last (if b then x ∷ opened_asks party xs else opened_asks party xs) o n) [
        | true ↦ ap (λ (ys : List Asked). x ∷ ys) (opened-asked was is n xs)
        | false ↦ opened-asked was is n xs
      ]
    where
      still : ((x.owner == o) ≡ true) ⊎ ((x.owner == o) ≡ false) → is_some (next x.owner).opened ≡ is_some (party x.owner).opened
      still (inl t) = subst (λ (z : ℕ). is_some (next z).opened ≡ is_some (party z).opened) (sym (eqb-true x.owner o t)) (is ∙ sym was)
      still (inr f) = same-open x.owner f

  each-open : is_some (next o).opened ≡ is_some (party o).opened → (u : ℕ) → is_some (next u).opened ≡ is_some (party u).opened
  each-open e u = elim (cases_Bool (u == o)) [
    | inl t ↦ subst (λ (z : ℕ). is_some (next z).opened ≡ is_some (party z).opened) (sym (eqb-true u o t)) e
    | inr f ↦ same-open u f
  ]

  -- the owner's want is open as it was
  pub opened-still : is_some (next o).opened ≡ is_some (party o).opened → (trail : List Asked) → opened_asks next trail ≡ opened_asks party trail
  opened-still e [] = refl
  opened-still e (x ∷ xs) =
      ap (λ (b : Bool). if b then x ∷ opened_asks next xs else opened_asks next xs) (each-open e x.owner)
      ∙ ap (λ (ys : List Asked). if is_some (party x.owner).opened then x ∷ ys else ys) (opened-still e xs)

  -- the owner's want ends as it is asked
  pub opened-noted : is_some (next o).opened ≡ false → (n : Node) (trail : List Asked) → opened_asks next (asked_last trail o n) ≡ without_asks o (opened_asks party trail)
  opened-noted shut n trail = dropped trail ∙ opened-ended shut trail
    where
      dropped : (xs : List Asked) → opened_asks next (asked_last xs o n) ≡ opened_asks next xs
      dropped [] = ap (λ (b : Bool). if b then (record { owner = o; node = n }) ∷ [] else []) shut
      dropped (x ∷ xs) = ap (λ (ys : List Asked). if is_some (next x.owner).opened then x ∷ ys else ys) (dropped xs)

-- a want that was asked nowhere
pub cut-fresh : (o : ℕ) (w : OpenWant) → ((n : Node) → was_asked w n ≡ false) → (trail : List Asked) → asks_cut o w trail ≡ without_asks o trail
cut-fresh o w never [] = refl
cut-fresh o w never (x ∷ xs) =
    ap (λ (b : Bool). if b then x ∷ asks_cut o w xs else asks_cut o w xs) (ap (λ (b : Bool). not (x.owner == o) || b) (never x.node) ∙ or-none (not (x.owner == o)))
    ∙ ap (λ (ys : List Asked). if not (x.owner == o) then x ∷ ys else ys) (cut-fresh o w never xs)
  where
    or-none : (b : Bool) → (b || false) ≡ b
    or-none true = refl
    or-none false = refl
