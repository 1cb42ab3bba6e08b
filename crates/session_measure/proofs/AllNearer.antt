-- The numbers of all sessions, with the measure of the tree of locks behind them.
use Rattle.std.proofs.Common.{◌≡◌, ℕ, ◌∷◌, ◌++◌, [], List, true, length, length-append, refl, sym, subst, ◌∙◌, inl, inr, arith}
use Rattle.lock_tree_laws.specs.Progress.{measure, is_among, IsLess, Falls as LocksFall}
use Rattle.lock_tree_laws.proofs.Falling.{less-most}
use Rattle.rdb_drive.specs.Boards.{Less}
use Rattle.session_states.specs.declared.stage.Member.{Member}
use Rattle.session_measure.specs.Weights.{Beside, weight, sum_of}
use Rattle.session_measure.specs.Nearer.{Nears, Keeps}
use Rattle.session_measure.proofs.Falling.{sums-fall}

-- where the first part falls, whatever stands behind it
less-before : (xs ys ts us : List ℕ) → length ts ≡ length us → Less xs ys → Less (xs ++ ts) (ys ++ us)
less-before [] ys ts us e h = absurd h
less-before (x ∷ xs) [] ts us e h = absurd h
less-before (x ∷ xs) (y ∷ ys) ts us e (inl h) = inl (h.0, length-append xs ts ∙ (let f = h.1 in omega (arith, e, f)) ∙ sym (length-append ys us))
less-before (x ∷ xs) (y ∷ ys) ts us e (inr h) = inr (h.0, less-before xs ys ts us e h.1)

-- where the first part stays
less-behind : (xs ts us : List ℕ) → Less ts us → Less (xs ++ ts) (xs ++ us)
less-behind [] ts us h = h
less-behind (x ∷ xs) ts us h = inr (refl, less-behind xs ts us h)

-- lists of one length
less-of : (xs ys : List ℕ) → length xs ≡ length ys → IsLess xs ys → Less xs ys
less-of [] ys e h = absurd h
less-of (x ∷ xs) [] e h = absurd h
less-of (x ∷ xs) (y ∷ ys) e (inl h) = inl (h, omega (arith, e))
less-of (x ∷ xs) (y ∷ ys) e (inr h) = inr (h.0, less-of xs ys (omega (arith, e)) h.1)

module _ (k l s : ℕ) (c d : Beside) (m n : Member) (rest us : List ℕ) (long : length rest ≡ 8) where
  pub all-nearer : is_among s us ≡ true → Nears k l c d s m n → Less (sum_of (weight l d s n) rest ++ measure us d.locks) (sum_of (weight k c s m) rest ++ measure us c.locks)
  all-nearer has (inl falls) = less-before (sum_of (weight l d s n) rest) (sum_of (weight k c s m) rest) (measure us d.locks) (measure us c.locks) refl (sums-fall (weight l d s n) (weight k c s m) rest long falls)
  all-nearer has (inr stays) =
      subst (λ (ws : List ℕ). Less (sum_of ws rest ++ measure us d.locks) (sum_of (weight k c s m) rest ++ measure us c.locks)) (sym stays.0)
      (less-behind (sum_of (weight k c s m) rest) (measure us d.locks) (measure us c.locks) (less-of (measure us d.locks) (measure us c.locks) refl (stays.1 us has)))

  -- and then a lock of t comes down
  pub all-served : (e : Beside) (t : ℕ) → is_among s us ≡ true → is_among t us ≡ true → weight l e s n ≡ weight l d s n → LocksFall t d.locks e.locks → Keeps k l c d s m n →
      Less (sum_of (weight l e s n) rest ++ measure us e.locks) (sum_of (weight k c s m) rest ++ measure us c.locks)
  all-served e t has hers same served (inl falls) =
      subst (λ (ws : List ℕ). Less (sum_of ws rest ++ measure us e.locks) (sum_of (weight k c s m) rest ++ measure us c.locks)) (sym same)
      (less-before (sum_of (weight l d s n) rest) (sum_of (weight k c s m) rest) (measure us e.locks) (measure us c.locks) refl (sums-fall (weight l d s n) (weight k c s m) rest long falls))
  all-served e t has hers same served (inr stays) =
      subst (λ (ws : List ℕ). Less (sum_of ws rest ++ measure us e.locks) (sum_of (weight k c s m) rest ++ measure us c.locks)) (sym (same ∙ stays.0))
      (less-behind (sum_of (weight k c s m) rest) (measure us e.locks) (measure us c.locks)
      (less-of (measure us e.locks) (measure us c.locks) refl (less-most (measure us e.locks) (measure us d.locks) (measure us c.locks) (served us hers) (stays.1 us has))))
