-- The search for a cycle: its trace, and why it misses none.
use Rattle.std.proofs.Common.{◌≡◌, ℕ, ◌+◌, ◌<◌, ◌≤◌, ◌++◌, ◌∷◌, [], ◌⊎◌, inl, inr, Bool, true, false, List, length, get_or, refl, ◌∙◌, sym, subst, arith, zero, suc}
use Rattle.std.specs.Prelude.{◌==◌, ◌||◌}
use Rattle.std.specs.List.{list_any, remove}
use Rattle.std.proofs.lemmas.Bool.{false≢true, cases_eq, or_cases, or_left, or_right, eqb-true, eq-eqb}
use Rattle.std.proofs.lemmas.List.{get_or_default}
use Rattle.std.proofs.lemmas.List.Folds.{list_any-append, list_any_at}
use Rattle.std.proofs.lemmas.Grind.{common_steps}
use Rattle.vms_locks.specs.declared.search.Reached.{Reached}
use Rattle.vms_locks.specs.Walks.{IsWalk}
use Rattle.vms_queues.specs.Owners.{is_owner}
use Rattle.vms_locks.specs.Search.{LeadsBack, IsWayBack, is_left, is_reached}

-- The first of those reached is the owner, and each other waits for the next on its way.
pub record IsTrace (waits : ℕ → ℕ → Type 0) (owner : ℕ) (rs : List Reached) : Type 0 where
  pub some : 0 < length rs
  pub first : (d : Reached) → (get_or rs 0 d).owner ≡ owner
  pub back : LeadsBack rs
  pub each : (k : ℕ) (d : Reached) → 0 < k → k < length rs → waits (get_or rs k d).owner (get_or rs (get_or rs k d).next d).owner

abbrev pub blank : Reached
blank = record { owner = 0; next = 0 }

-- the way back from a place begins with its owner
pub way-step : (rs : List Reached) (k : ℕ) (rest : List ℕ) → 0 < k → k < length rs → IsWayBack rs (get_or rs k blank).next rest → IsWayBack rs k ((get_or rs k blank).owner ∷ rest)
way-step rs k rest p q h =
    (p, λ d. subst (λ (x : Reached). (x.owner ≡ (get_or rs k blank).owner) × IsWayBack rs x.next rest) (get_or_default rs k blank d q) (refl, h))

-- the way back from a place is a walk to the owner
pub walk-back : (w : ℕ → ℕ → Type 0) (owner : ℕ) (rs : List Reached) → IsTrace w owner rs → (over : List ℕ) (k : ℕ) (x : ℕ) → k < length rs → IsWayBack rs k over → w x (get_or rs k blank).owner → IsWalk w x over owner
walk-back w owner rs t [] k x l z e =
    let at_first : w x (get_or rs 0 blank).owner = subst (λ (j : ℕ). w x (get_or rs j blank).owner) z e in
    subst (λ (o : ℕ). w x o) (t.first blank) at_first
walk-back w owner rs t (o ∷ os) k x l way e =
    let here = way.1 blank in
    let next : ℕ = (get_or rs k blank).next in
    let before : next < k = t.back k blank way.0 l in
    let inside : next < length rs = omega arith in
    (subst (λ (p : ℕ). w x p) here.0 e, walk-back w owner rs t os next o inside here.1 (subst (λ (p : ℕ). w p (get_or rs next blank).owner) here.0 (t.each k blank way.0 l)))

get_or-push_left : {X : Type 0} (xs : List X) (x : X) (k : ℕ) (d : X) → k < length xs → get_or (xs ++ x ∷ []) k d ≡ get_or xs k d
get_or-push_left xs x k d h = grind (arith, common_steps)

get_or-push_last : {X : Type 0} (xs : List X) (x : X) (k : ℕ) (d : X) → k ≡ length xs → get_or (xs ++ x ∷ []) k d ≡ x
get_or-push_last xs x k d h = grind (arith, common_steps)

pub length-push : {X : Type 0} (xs : List X) (x : X) → length (xs ++ x ∷ []) ≡ length xs + 1
length-push xs x = grind (arith, common_steps)

pub trace-one : (w : ℕ → ℕ → Type 0) (owner : ℕ) (x : Reached) → x.owner ≡ owner → IsTrace w owner (x ∷ [])
trace-one w owner x e = record {
  some = omega arith;
  first = λ d. e;
  back = λ k d p q. absurd (omega arith);
  each = λ k d p q. absurd (omega arith);
}

pub trace-more : (w : ℕ → ℕ → Type 0) (owner : ℕ) (rs : List Reached) (x : Reached) → IsTrace w owner rs → x.next < length rs → ((d : Reached) → w x.owner (get_or rs x.next d).owner) → IsTrace w owner (rs ++ x ∷ [])
trace-more w owner rs x t l e = record {
  some = omega (arith, length-push rs x);
  first = λ d. rw (get_or-push_left rs x 0 d t.some) (t.first d);
  back =
      λ k d p q. elim (cases_eq k (length rs)) [
        | inl last ↦ rw (get_or-push_last rs x k d last) (omega arith)
        | inr n ↦ let i : k < length rs = omega (arith, length-push rs x) in rw (get_or-push_left rs x k d i) (t.back k d p i)
      ];
  each =
      λ k d p q. elim (cases_eq k (length rs)) [
        | inl last ↦ rw (get_or-push_last rs x k d last, get_or-push_left rs x x.next d l) (e d)
        | inr n ↦
            let i : k < length rs = omega (arith, length-push rs x) in
            let y = get_or rs k d in
            let b : y.next < k = t.back k d p i in
            let j : y.next < length rs = omega arith in
            rw (get_or-push_left rs x k d i, get_or-push_left rs x y.next d j) (t.each k d p i)
      ];
}

is_reached-push : (rs : List Reached) (x : Reached) (a : ℕ) → is_reached (rs ++ x ∷ []) a ≡ (is_reached rs a || (x.owner == a || false))
is_reached-push rs x a = list_any-append (λ r. r.owner == a) rs (x ∷ [])

-- what one element less leaves
any-remove : {X : Type 0} (p : X → Bool) (xs : List X) (i : ℕ) (d : X) → i < length xs → list_any p xs ≡ true → (list_any p (remove xs i) ≡ true) ⊎ (p (get_or xs i d) ≡ true)
any-remove p [] i d l h = absurd (false≢true h)
any-remove p (x ∷ xs) zero d l h = elim (or_cases (p x) (list_any p xs) h) [ inl a ↦ inr a | inr b ↦ inl b ]
any-remove p (x ∷ xs) (suc i) d l h =
    elim (or_cases (p x) (list_any p xs) h) [
      | inl a ↦ inl (or_left (p x) _ a)
      | inr b ↦ elim (any-remove p xs i d (omega arith) b) [ inl k ↦ inl (or_right (p x) _ k) | inr k ↦ inr k ]
    ]

any-nothing : {X : Type 0} (p : X → Bool) (i : ℕ) → list_any p (remove [] i) ≡ true → false ≡ true
any-nothing p zero h = h
any-nothing p (suc i) h = h

pub any-from_remove : {X : Type 0} (p : X → Bool) (xs : List X) (i : ℕ) → list_any p (remove xs i) ≡ true → list_any p xs ≡ true
any-from_remove p [] i h = absurd (false≢true (any-nothing p i h))
any-from_remove p (x ∷ xs) zero h = or_right (p x) (list_any p xs) h
any-from_remove p (x ∷ xs) (suc i) h =
    elim (or_cases (p x) (list_any p (remove xs i)) h) [
      | inl a ↦ or_left (p x) (list_any p xs) a
      | inr b ↦ or_right (p x) (list_any p xs) (any-from_remove p xs i b)
    ]

-- each owner is left, or is reached and isn't the one who asks
abbrev pub CoversOwners : ℕ → List ℕ → List Reached → Type 0
CoversOwners owner left rs = (a : ℕ) → is_owner a ≡ true → (is_left left a ≡ true) ⊎ ((is_reached rs a ≡ true) × (a ≡ owner → ⊥))

-- nobody who is left waits for one of those before the place
abbrev pub PassedBy : (ℕ → ℕ → Type 0) → List ℕ → List Reached → ℕ → Type 0
PassedBy w left rs place = (k : ℕ) → k < place → (a : ℕ) → is_left left a ≡ true → w a (get_or rs k blank).owner → ⊥

reached-place : (rs : List Reached) (a : ℕ) → is_reached rs a ≡ true → (k : ℕ) × (k < length rs) × ((get_or rs k blank).owner ≡ a)
reached-place [] a h = absurd (false≢true h)
reached-place (r ∷ rs) a h =
    elim (or_cases (r.owner == a) (is_reached rs a) h) [
      | inl e ↦ (0, omega arith, eqb-true r.owner a e)
      | inr k ↦ let p = reached-place rs a k in (suc p.0, omega (arith, p.1), p.2)
    ]

owner-reached : (w : ℕ → ℕ → Type 0) (owner : ℕ) (rs : List Reached) → IsTrace w owner rs → is_reached rs owner ≡ true
owner-reached w owner [] t = absurd (omega (arith, t.some))
owner-reached w owner (r ∷ rs) t = or_left (r.owner == owner) (is_reached rs owner) (eq-eqb r.owner owner (t.first blank))

module _ (w : ℕ → ℕ → Type 0) (owner : ℕ) (left : List ℕ) (rs : List Reached) (ranges : (a b : ℕ) → w a b → is_owner a ≡ true) (cover : CoversOwners owner left rs) (place : ℕ) (passed : PassedBy w left rs place) (all : length rs ≤ place) where
  -- who waits for one reached is reached, and isn't the one who asks
  reached-step : (x y : ℕ) → is_reached rs y ≡ true → w x y → (is_reached rs x ≡ true) × (x ≡ owner → ⊥)
  reached-step x y r h =
      elim (cover x (ranges x y h)) [
        | inl l ↦
            let p = reached-place rs y r in
            absurd (passed p.0 (omega (arith, p.1, all)) x l (subst (λ (o : ℕ). w x o) (sym p.2) h))
        | inr k ↦ k
      ]

  reached-back : (x : ℕ) (zs : List ℕ) (y : ℕ) → is_reached rs y ≡ true → IsWalk w x zs y → (is_reached rs x ≡ true) × (x ≡ owner → ⊥)
  reached-back x [] y r h = reached-step x y r h
  reached-back x (z ∷ zs) y r h = reached-step x z (reached-back z zs y r h.1).0 h.0

  -- where nobody who is left waits for one reached, the one who asks is on no cycle
  pub search-ends : IsTrace w owner rs → (over : List ℕ) → IsWalk w owner over owner → ⊥
  search-ends t over h = (reached-back owner over owner (owner-reached w owner rs t) h).1 refl

-- one who is left is taken: it is reached, and isn't the one who asks
pub cover-step : (owner : ℕ) (left : List ℕ) (rs : List Reached) (i e : ℕ) (x : Reached) → i < length left → e ≡ get_or left i e → x.owner ≡ e → (e ≡ owner → ⊥) → CoversOwners owner left rs → CoversOwners owner (remove left i) (rs ++ x ∷ [])
cover-step owner left rs i e x l at same other cover a ranged =
    elim (cover a ranged) [
      | inl k ↦ elim (any-remove (λ o. o == a) left i e l k) [
        | inl m ↦ inl m
        | inr m ↦
            let mine : e ≡ a = eqb-true e a (subst (λ (o : ℕ). (o == a) ≡ true) (sym at) m) in
            inr (is_reached-push rs x a ∙ or_right (is_reached rs a) _ (or_left (x.owner == a) false (eq-eqb x.owner a (same ∙ mine))), λ z. other (mine ∙ z))
      ]
      | inr k ↦ inr (is_reached-push rs x a ∙ or_left (is_reached rs a) _ k.0, k.1)
    ]

pub passed-step : (w : ℕ → ℕ → Type 0) (left : List ℕ) (rs : List Reached) (i place : ℕ) (x : Reached) → place ≤ length rs → PassedBy w left rs place → PassedBy w (remove left i) (rs ++ x ∷ []) place
passed-step w left rs i place x l passed k below a h e =
    let inside : k < length rs = omega arith in
    passed k below a (any-from_remove (λ o. o == a) left i h) (subst (λ (r : Reached). w a r.owner) (get_or-push_left rs x k blank inside) e)

pub passed-more : (w : ℕ → ℕ → Type 0) (left : List ℕ) (rs : List Reached) (place : ℕ) → PassedBy w left rs place → ((a : ℕ) → is_left left a ≡ true → w a (get_or rs place blank).owner → ⊥) → PassedBy w left rs (place + 1)
passed-more w left rs place passed here k below a h e =
    elim (cases_eq k place) [
      | inl last ↦ here a h (subst (λ (j : ℕ). w a (get_or rs j blank).owner) last e)
      | inr n ↦ passed k (omega arith) a h e
    ]

pub left-at_place : (left : List ℕ) (i e : ℕ) → i < length left → e ≡ get_or left i e → is_left left e ≡ true
left-at_place left i e l at =
    list_any_at (λ o. o == e) left i e l (subst (λ (o : ℕ). (o == e) ≡ true) at (eq-eqb e e refl))
