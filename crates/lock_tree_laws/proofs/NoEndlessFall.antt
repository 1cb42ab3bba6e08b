-- No list of numbers starts an endless chain of lesser ones of its length, so the measure can't fall for ever.
use Rattle.std.proofs.Common.{◌≡◌, ℕ, zero, suc, ◌+◌, ◌<◌, sym, subst, refl, inl, inr, List, [], ◌∷◌, arith}
use Rattle.lock_tree_laws.specs.Forest.{State}
use Rattle.lock_tree_laws.specs.Progress.{IsLess, measure}

abbrev HasLength : ℕ → List ℕ → Type 0
HasLength zero [] = Unit {0}
HasLength (suc k) (x ∷ xs) = HasLength k xs
HasLength k xs = ⊥

-- each chain of lesser lists of this length that starts at the list ends
data Ends : ℕ → List ℕ → Type 0 where
  ends : {k : ℕ} {xs : List ℕ} → ((ys : List ℕ) → HasLength k ys → IsLess ys xs → Ends k ys) → Ends k xs

module _ (k x : ℕ) (smaller : (y : ℕ) (ys : List ℕ) → y < x → HasLength k ys → Ends (suc k) (y ∷ ys)) where
  lesser : (xs : List ℕ) → ((ys : List ℕ) → HasLength k ys → IsLess ys xs → Ends (suc k) (x ∷ ys)) → (ys : List ℕ) → HasLength (suc k) ys → IsLess ys (x ∷ xs) → Ends (suc k) ys
  lesser xs rest [] h l = absurd h
  lesser xs rest (y ∷ ys) h (inl f) = smaller y ys f h
  lesser xs rest (y ∷ ys) h (inr e) = subst (λ (z : ℕ). Ends (suc k) (z ∷ ys)) (sym e.0) (rest ys h e.1)

  cons-ends : (xs : List ℕ) → Ends k xs → Ends (suc k) (x ∷ xs)
  cons-ends xs (ends f) = ends (lesser xs (λ ys h l. cons-ends ys (f ys h l)))

below-ends : (k : ℕ) → ((xs : List ℕ) → HasLength k xs → Ends k xs) → (b x : ℕ) → x < b → (xs : List ℕ) → HasLength k xs → Ends (suc k) (x ∷ xs)
below-ends k each zero x f xs h = absurd (omega arith)
below-ends k each (suc b) x f xs h = cons-ends k x (λ y ys l g. below-ends k each b y (omega arith) ys g) xs (each xs h)

nothing-less : (ys : List ℕ) → IsLess ys [] → ⊥
nothing-less [] l = l
nothing-less (y ∷ ys) l = l

all-end : (k : ℕ) (xs : List ℕ) → HasLength k xs → Ends k xs
all-end zero [] h = ends (λ ys g l. absurd (nothing-less ys l))
all-end zero (x ∷ xs) h = absurd h
all-end (suc k) [] h = absurd h
all-end (suc k) (x ∷ xs) h = below-ends k (all-end k) (x + 1) x (omega arith) xs h

no-chain : (k : ℕ) (xs : List ℕ) → Ends k xs → (chain : ℕ → List ℕ) → ((i : ℕ) → HasLength k (chain i)) → ((i : ℕ) → IsLess (chain (i + 1)) (chain i)) → chain 0 ≡ xs → ⊥
no-chain k xs (ends f) chain long falls e =
    no-chain k (chain 1) (f (chain 1) (long 1) (subst (IsLess (chain 1)) e (falls 0))) (λ i. chain (i + 1)) (λ i. long (i + 1)) (λ i. falls (i + 1)) refl

-- the measure can't fall for ever
pub measure-ends : (us : List ℕ) (states : ℕ → State) → ((i : ℕ) → IsLess (measure us (states (i + 1))) (measure us (states i))) → ⊥
measure-ends us states falls = no-chain 5 (measure us (states 0)) (all-end 5 (measure us (states 0)) tt) (λ i. measure us (states i)) (λ i. tt) falls refl
