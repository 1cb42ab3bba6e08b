-- Which changes of a relation close no cycle.
use Rattle.std.proofs.Common.{◌≡◌, ℕ, ◌++◌, ◌∷◌, [], ◌⊎◌, inl, inr, List, subst}
use Rattle.std.proofs.lemmas.Bool.{cases_eq}
use Rattle.vms_locks.specs.Walks.{IsWalk, IsCycle, IsAcyclic, IsOnNoCycle}

-- a relation among owners
abbrev pub Waits : Type 1
Waits = ℕ → ℕ → Type 0

-- where a walk begins, somebody is waited for
first_edge : (w : Waits) (x : ℕ) (zs : List ℕ) (y : ℕ) → IsWalk w x zs y → (z : ℕ) × w x z
first_edge w x [] y h = (y, h)
first_edge w x (z ∷ zs) y h = (z, h.0)

abbrev pub WaitsForNone : Waits → ℕ → Type 0
WaitsForNone w x = (z : ℕ) → w x z → ⊥

-- each new edge leads to one who waits for nobody
abbrev pub AddsOnlyEnds : Waits → Waits → Type 0
AddsOnlyEnds w v = (x y : ℕ) → v x y → w x y ⊎ WaitsForNone v y

-- a walk to one who waits for somebody uses no edge that leads to one who waits for nobody
walk_before : (w v : Waits) → AddsOnlyEnds w v → (x : ℕ) (zs : List ℕ) (y : ℕ) → ((z : ℕ) × v y z) → IsWalk v x zs y → IsWalk w x zs y
walk_before w v only x [] y out h = elim (only x y h) [ inl e ↦ e | inr n ↦ absurd (n out.0 out.1) ]
walk_before w v only x (z ∷ zs) y out h =
    let next = first_edge v z zs y h.1 in
    let here : w x z = elim (only x z h.0) [ inl e ↦ e | inr n ↦ absurd (n next.0 next.1) ] in
    (here, walk_before w v only z zs y out h.1)

pub acyclic-ends : (w v : Waits) → AddsOnlyEnds w v → IsAcyclic w → IsAcyclic v
acyclic-ends w v only acyclic x zs h = acyclic x zs (walk_before w v only x zs x (first_edge v x zs x h) h)

walk_join : (v : Waits) (x : ℕ) (us : List ℕ) (a : ℕ) (vs : List ℕ) (y : ℕ) → IsWalk v x us a → IsWalk v a vs y → IsWalk v x (us ++ a ∷ vs) y
walk_join v x [] a vs y h k = (h, k)
walk_join v x (u ∷ us) a vs y h k = (h.0, walk_join v u us a vs y h.1 k)

-- each new edge begins or ends at the owner
abbrev pub AddsOnlyAt : ℕ → Waits → Waits → Type 0
AddsOnlyAt a w v = (x y : ℕ) → v x y → w x y ⊎ ((x ≡ a) ⊎ (y ≡ a))

-- a walk either stands in the old relation or passes the owner
walk_cases : (a : ℕ) (w v : Waits) → AddsOnlyAt a w v → (x : ℕ) (zs : List ℕ) (y : ℕ) → (x ≡ a → ⊥) → (y ≡ a → ⊥) → IsWalk v x zs y → IsWalk w x zs y ⊎ ((us : List ℕ) × (vs : List ℕ) × IsWalk v x us a × IsWalk v a vs y)
walk_cases a w v only x [] y nx ny h =
    elim (only x y h) [ inl e ↦ inl e | inr n ↦ elim n [ inl p ↦ absurd (nx p) | inr p ↦ absurd (ny p) ] ]
walk_cases a w v only x (z ∷ zs) y nx ny h =
    elim (cases_eq z a) [
      | inl e ↦ inr ([], zs, subst (λ (k : ℕ). v x k) e h.0, subst (λ (k : ℕ). IsWalk v k zs y) e h.1)
      | inr nz ↦ elim (walk_cases a w v only z zs y nz ny h.1) [
        | inl k ↦ elim (only x z h.0) [ inl e ↦ inl (e, k) | inr n ↦ elim n [ inl p ↦ absurd (nx p) | inr p ↦ absurd (nz p) ] ]
        | inr k ↦ inr (z ∷ k.0, k.1, (h.0, k.2), k.3)
      ]
    ]

pub acyclic-at : (a : ℕ) (w v : Waits) → AddsOnlyAt a w v → IsAcyclic w → IsOnNoCycle v a → IsAcyclic v
acyclic-at a w v only acyclic none x zs h =
    elim (cases_eq x a) [
      | inl e ↦ none zs (subst (λ (k : ℕ). IsWalk v k zs k) e h)
      | inr n ↦ elim (walk_cases a w v only x zs x n n h) [
        | inl k ↦ acyclic x zs k
        | inr k ↦ none (k.1 ++ x ∷ k.0) (walk_join v a k.1 x k.0 a k.3 k.2)
      ]
    ]

-- a walk stands in each relation that has its edges
pub walk-within : (w v : Waits) → ((a b : ℕ) → w a b → v a b) → (x : ℕ) (zs : List ℕ) (y : ℕ) → IsWalk w x zs y → IsWalk v x zs y
walk-within w v within x [] y h = within x y h
walk-within w v within x (z ∷ zs) y h = (within x z h.0, walk-within w v within z zs y h.1)

pub cycle-within : (w v : Waits) → ((a b : ℕ) → w a b → v a b) → (owner : ℕ) (cycle : List ℕ) → IsCycle w owner cycle → IsCycle v owner cycle
cycle-within w v within owner cycle h = (h.0, walk-within w v within owner h.0 owner h.1, h.2)

pub no_cycle-within : (w v : Waits) → ((a b : ℕ) → v a b → w a b) → (owner : ℕ) → IsOnNoCycle w owner → IsOnNoCycle v owner
no_cycle-within w v within owner none over h = none over (walk-within v w within owner over owner h)
