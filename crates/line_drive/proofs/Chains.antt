-- Where waits are without a cycle and each sleeper waits for another that lives, somebody who lives is awake.
use Rattle.std.proofs.Common.{◌≡◌, ◌≤◌, ◌<◌, ℕ, zero, suc, ◌+◌, ◌++◌, ◌∷◌, [], ◌==◌, ◌||◌, Bool, true, false, not, List, length, refl, ◌∙◌, sym, ap, subst, arith, ◌⊎◌, inl, inr}
use Rattle.std.specs.List.{list_any, filter}
use Rattle.std.proofs.lemmas.Bool.{false≢true, cases_Bool, eqb-true}
use Rattle.rdb_drive.specs.Orders.{upward}
use Rattle.vms_locks.specs.Walks.{IsWalk, IsAcyclic}

abbrev is_in : ℕ → List ℕ → Bool
is_in t xs = list_any (λ x. x == t) xs

abbrev without : ℕ → List ℕ → List ℕ
without t xs = filter (λ x. not (x == t)) xs

no-longer : (t : ℕ) (xs : List ℕ) → length (without t xs) ≤ length xs
no-longer t [] = omega arith
no-longer t (x ∷ xs) = by (x == t) refl (no-longer t xs)
  where
    by : (b : Bool) → (x == t) ≡ b → length (without t xs) ≤ length xs → length (without t (x ∷ xs)) ≤ suc (length xs)
    by true e k = rw e (omega (arith, k))
    by false e k = rw e (omega (arith, k))

shorter : (t : ℕ) (xs : List ℕ) → is_in t xs ≡ true → length (without t xs) < length xs
shorter t [] h = absurd (false≢true h)
shorter t (x ∷ xs) h = by (x == t) refl (λ k. shorter t xs k)
  where
    by : (b : Bool) → (x == t) ≡ b → (is_in t xs ≡ true → length (without t xs) < length xs) → length (without t (x ∷ xs)) < suc (length xs)
    by true e more = let k = no-longer t xs in rw e (omega (arith, k))
    by false e more = let k = more (sym (ap (λ (c : Bool). c || is_in t xs) e) ∙ h) in rw e (omega (arith, k))

in-some : (t : ℕ) (xs : List ℕ) → is_in t xs ≡ true → 1 ≤ length xs
in-some t [] h = absurd (false≢true h)
in-some t (x ∷ xs) h = omega arith

stays-in : (t u : ℕ) (xs : List ℕ) → (u == t) ≡ false → is_in u xs ≡ true → is_in u (without t xs) ≡ true
stays-in t u [] other h = h
stays-in t u (x ∷ xs) other h = by (x == t) refl (x == u) refl (λ k. stays-in t u xs other k)
  where
    clash : (x t u : ℕ) → (x == t) ≡ true → (x == u) ≡ true → (u == t) ≡ false → ⊥
    clash x t u e f g = grind arith

    by : (b : Bool) → (x == t) ≡ b → (c : Bool) → (x == u) ≡ c → (is_in u xs ≡ true → is_in u (without t xs) ≡ true) → is_in u (without t (x ∷ xs)) ≡ true
    by true e true f more = absurd (clash x t u e f other)
    by true e false f more = rw e (more (sym (ap (λ (c : Bool). c || is_in u xs) f) ∙ h))
    by false e true f more = rw e (rw f refl)
    by false e false f more = rw e (rw f (more (sym (ap (λ (c : Bool). c || is_in u xs) f) ∙ h)))

further : (first n t : ℕ) → first ≤ t → t < first + suc n → (first == t) ≡ false → (first + 1 ≤ t) × (t < (first + 1) + n)
further first n t low high other = (grind arith, omega (arith, high))

pub among : (first n t : ℕ) → first ≤ t → t < first + n → is_in t (upward first n) ≡ true
among first zero t low high = absurd (omega (arith, low, high))
among first (suc n) t low high = by (first == t) refl (λ l h. among (first + 1) n t l h)
  where
    by : (b : Bool) → (first == t) ≡ b → (first + 1 ≤ t → t < (first + 1) + n → is_in t (upward (first + 1) n) ≡ true) → is_in t (upward first (suc n)) ≡ true
    by true e more = rw e refl
    by false e more = let k = further first n t low high e in rw e (more k.0 k.1)

module _ (Waits : ℕ → ℕ → Type 0) (acyclic : IsAcyclic Waits) (Lives : ℕ → Type 0) (asleep : ℕ → Bool)
    (next : (s : ℕ) → Lives s → asleep s ≡ true → (t : ℕ) × (Waits s t × Lives t)) where
  abbrev Awake : Type 0
  Awake = (t : ℕ) × (Lives t × (asleep t ≡ false))

  walk-on : (x : ℕ) (over : List ℕ) (y z : ℕ) → IsWalk Waits x over y → Waits y z → IsWalk Waits x (over ++ y ∷ []) z
  walk-on x [] y z w v = (w, v)
  walk-on x (u ∷ us) y z w v = (w.0, walk-on u us y z w.1 v)

  -- from t one comes to s
  abbrev Comes : ℕ → ℕ → Type 0
  Comes t s = (t ≡ s) ⊎ ((over : List ℕ) × IsWalk Waits t over s)

  closes : (s t : ℕ) → Waits s t → Comes t s → ⊥
  closes s t w (inl e) = acyclic s [] (subst (λ (u : ℕ). Waits s u) e w)
  closes s t w (inr walk) = acyclic t (walk.0 ++ s ∷ []) (walk-on t walk.0 s t walk.1 w)

  comes-on : (u s t : ℕ) → Waits s t → Comes u s → Comes u t
  comes-on u s t w (inl e) = inr ([], subst (λ (v : ℕ). Waits v t) (sym e) w)
  comes-on u s t w (inr walk) = inr (walk.0 ++ s ∷ [], walk-on u walk.0 s t walk.1 w)

  -- whoever lives is one of these, or one comes from it to s
  abbrev Around : List ℕ → ℕ → Type 0
  Around rest s = (t : ℕ) → Lives t → (is_in t rest ≡ true) ⊎ Comes t s

  around-on : (rest : List ℕ) (s t : ℕ) → Waits s t → Around rest s → Around (without t rest) t
  around-on rest s t w all = λ u lives. elim (all u lives) [
    | inr back ↦ inr (comes-on u s t w back)
    | inl in-u ↦ elim (cases_Bool (u == t)) [
      | inl same ↦ inr (inl (eqb-true u t same))
      | inr other ↦ inl (stays-in t u rest other in-u)
    ]
  ]

  look : (rest : List ℕ) (s : ℕ) → Lives s → Around rest s → ((t : ℕ) → Lives t → Waits s t → is_in t rest ≡ true → Awake) → Awake
  look rest s lives all on = by (asleep s) refl
    where
      by : (b : Bool) → asleep s ≡ b → Awake
      by false e = (s, (lives, e))
      by true e =
          let t = next s lives e in
          elim (all t.0 t.1.1) [
            | inl in-rest ↦ on t.0 t.1.1 t.1.0 in-rest
            | inr back ↦ absurd (closes s t.0 t.1.0 back)
          ]

  find : (n : ℕ) (rest : List ℕ) (s : ℕ) → length rest ≤ n → Lives s → Around rest s → Awake
  find zero rest s few lives all = look rest s lives all (λ t l w in-rest. let k = in-some t rest in-rest in absurd (omega (arith, k, few)))
  find (suc n) rest s few lives all = look rest s lives all (λ t l w in-rest. let k = shorter t rest in-rest in find n (without t rest) t (omega (arith, k, few)) l (around-on rest s t w all))

  pub somebody-awake : (sessions s : ℕ) → Lives s → ((t : ℕ) → Lives t → (1 ≤ t) × (t ≤ sessions)) → Awake
  somebody-awake sessions s lives bounds = find (length (upward 1 sessions)) (upward 1 sessions) s (omega arith) lives (λ t l. let k = bounds t l in inl (among 1 sessions t k.0 (omega (arith, k))))
