-- Where one session comes nearer to its end the measure of all sessions falls.
use Rattle.std.proofs.Common.{◌≡◌, ◌<◌, ◌+◌, ◌==◌, ℕ, zero, suc, ◌∷◌, ◌++◌, [], List, true, false, length, refl, sym, ap, subst, ◌∙◌, arith, Some, slice_get, slice_set}
use Rattle.std.proofs.lemmas.Option.{none-some, same_Some}
use Rattle.std.proofs.lemmas.Bool.{or_left, or_right}
use Rattle.lock_tree_laws.specs.Progress.{measure, is_among, Falls as LocksFall}
use Rattle.rdb_drive.specs.Boards.{Less}
use Rattle.session_states.specs.declared.stage.Member.{Member}
use Rattle.session_measure.specs.Weights.{Beside, weight, sum_of}
use Rattle.session_measure.specs.Nearer.{Nears, Keeps}
use Rattle.session_measure.proofs.AllNearer.{all-nearer, all-served}
use Rattle.line_cluster.specs.Measured.{no_weight, weights_from, numbers_from, measure_by}

-- ---- sums

sum-long : (xs ys : List ℕ) → length xs ≡ length ys → length (sum_of xs ys) ≡ length ys
sum-long [] [] e = refl
sum-long [] (y ∷ ys) e = absurd (omega (arith, e))
sum-long (x ∷ xs) [] e = refl
sum-long (x ∷ xs) (y ∷ ys) e = let more = sum-long xs ys (omega (arith, e)) in omega (arith, more)

sum-none : (xs : List ℕ) → sum_of xs [] ≡ []
sum-none [] = refl
sum-none (x ∷ xs) = refl

sum-swap : (xs ys zs : List ℕ) → sum_of xs (sum_of ys zs) ≡ sum_of ys (sum_of xs zs)
sum-swap [] ys zs = sym (sum-none ys)
sum-swap (x ∷ xs) [] zs = refl
sum-swap (x ∷ xs) (y ∷ ys) [] = refl
sum-swap (x ∷ xs) (y ∷ ys) (z ∷ zs) =
    let e : x + (y + z) ≡ y + (x + z) = omega arith in
    ap (λ (n : ℕ). n ∷ sum_of xs (sum_of ys zs)) e ∙ ap (λ (ns : List ℕ). (y + (x + z)) ∷ ns) (sum-swap xs ys zs)

-- ---- one session and the others

-- the numbers of all but the one at this place
others : ℕ → ℕ → List Member → (ℕ → ℕ) → Beside → List ℕ
others s at [] rounds b = no_weight
others s zero (m ∷ ms) rounds b = weights_from (suc s) ms rounds b
others s (suc at) (m ∷ ms) rounds b = sum_of (weight (rounds s) b s m) (others (suc s) at ms rounds b)

module _ (rounds : ℕ → ℕ) (b : Beside) where
  pub weights-long : (s : ℕ) (ms : List Member) → length (weights_from s ms rounds b) ≡ 8
  weights-long s [] = refl
  weights-long s (m ∷ ms) = let more = weights-long (suc s) ms in sum-long (weight (rounds s) b s m) (weights_from (suc s) ms rounds b) (sym more) ∙ more

  others-long : (s at : ℕ) (ms : List Member) → length (others s at ms rounds b) ≡ 8
  unfolding others
  others-long s at [] = refl
  others-long s zero (m ∷ ms) = weights-long (suc s) ms
  others-long s (suc at) (m ∷ ms) = let more = others-long (suc s) at ms in sum-long (weight (rounds s) b s m) (others (suc s) at ms rounds b) (sym more) ∙ more

  -- the one, and the others
  split : (t s at : ℕ) (ms : List Member) (m : Member) → t ≡ s + at → slice_get ms at ≡ Some m → weights_from s ms rounds b ≡ sum_of (weight (rounds t) b t m) (others s at ms rounds b)
  unfolding others
  split t s at [] m is found = absurd (none-some m found)
  split t s zero (x ∷ ms) m is found =
      ap (λ (y : Member). sum_of (weight (rounds s) b s y) (weights_from (suc s) ms rounds b)) (same_Some x m found)
      ∙ ap (λ (u : ℕ). sum_of (weight (rounds u) b u m) (weights_from (suc s) ms rounds b)) (omega (arith, is))
  split t s (suc at) (x ∷ ms) m is found =
      ap (λ (ns : List ℕ). sum_of (weight (rounds s) b s x) ns) (split t (suc s) at ms m (omega (arith, is)) found)
      ∙ sum-swap (weight (rounds s) b s x) (weight (rounds t) b t m) (others (suc s) at ms rounds b)

-- ---- where the others stay

set-numbers : (s at : ℕ) (ms : List Member) (n : Member) → numbers_from s (slice_set ms at n) ≡ numbers_from s ms
set-numbers s at [] n = refl
set-numbers s zero (m ∷ ms) n = refl
set-numbers s (suc at) (m ∷ ms) n = ap (λ (ns : List ℕ). s ∷ ns) (set-numbers (suc s) at ms n)

pub set-found : (at : ℕ) (ms : List Member) (m n : Member) → slice_get ms at ≡ Some m → slice_get (slice_set ms at n) at ≡ Some n
set-found at [] m n found = absurd (none-some m found)
set-found zero (x ∷ ms) m n found = refl
set-found (suc at) (x ∷ ms) m n found = set-found at ms m n found

pub among-from : (t s at : ℕ) (ms : List Member) (m : Member) → t ≡ s + at → slice_get ms at ≡ Some m → is_among t (numbers_from s ms) ≡ true
among-from t s at [] m is found = absurd (none-some m found)
among-from t s zero (x ∷ ms) m is found = or_left (s == t) (is_among t (numbers_from (suc s) ms)) (grind (arith, is))
among-from t s (suc at) (x ∷ ms) m is found = or_right (s == t) (is_among t (numbers_from (suc s) ms)) (among-from t (suc s) at ms m (omega (arith, is)) found)

-- the numbers of each other session are what they were
abbrev pub StayApart : ℕ → (rounds behind : ℕ → ℕ) → (c d : Beside) → Type 0
StayApart t rounds behind c d = (u : ℕ) (m : Member) → (u == t) ≡ false → weight (behind u) d u m ≡ weight (rounds u) c u m

module _ (t : ℕ) (rounds behind : ℕ → ℕ) (c d : Beside) (apart : StayApart t rounds behind c d) where
  weights-apart : (s : ℕ) (ms : List Member) → t < s → weights_from s ms behind d ≡ weights_from s ms rounds c
  weights-apart s [] less = refl
  weights-apart s (m ∷ ms) less =
      ap (λ (ws : List ℕ). sum_of ws (weights_from (suc s) ms behind d)) (apart s m (grind (arith, less)))
      ∙ ap (λ (ns : List ℕ). sum_of (weight (rounds s) c s m) ns) (weights-apart (suc s) ms (omega (arith, less)))

  others-apart : (s at : ℕ) (ms : List Member) (n : Member) → t ≡ s + at → others s at (slice_set ms at n) behind d ≡ others s at ms rounds c
  unfolding others
  others-apart s at [] n is = refl
  others-apart s zero (m ∷ ms) n is = weights-apart (suc s) ms (omega (arith, is))
  others-apart s (suc at) (m ∷ ms) n is =
      ap (λ (ws : List ℕ). sum_of ws (others (suc s) at (slice_set ms at n) behind d)) (apart s m (grind (arith, is)))
      ∙ ap (λ (ns : List ℕ). sum_of (weight (rounds s) c s m) ns) (others-apart (suc s) at ms n (omega (arith, is)))

-- ---- the measure

module _ (t at : ℕ) (rounds behind : ℕ → ℕ) (c : Beside) (ms : List Member) (m n : Member) (is : t ≡ 1 + at) (found : slice_get ms at ≡ Some m) where
  before : weights_from 1 ms rounds c ≡ sum_of (weight (rounds t) c t m) (others 1 at ms rounds c)
  before = split rounds c t 1 at ms m is found

  then : (d : Beside) → StayApart t rounds behind c d → weights_from 1 (slice_set ms at n) behind d ≡ sum_of (weight (behind t) d t n) (others 1 at ms rounds c)
  then d apart = split behind d t 1 at (slice_set ms at n) n is (set-found at ms m n found) ∙ ap (λ (ns : List ℕ). sum_of (weight (behind t) d t n) ns) (others-apart t rounds behind c d apart 1 at ms n is)

  -- so both sums are of its own numbers and of what stays
  falls-with : (d : Beside) → StayApart t rounds behind c d →
      Less (sum_of (weight (behind t) d t n) (others 1 at ms rounds c) ++ measure (numbers_from 1 ms) d.locks) (sum_of (weight (rounds t) c t m) (others 1 at ms rounds c) ++ measure (numbers_from 1 ms) c.locks) →
      Less (measure_by false (slice_set ms at n) behind d) (measure_by false ms rounds c)
  falls-with d apart less =
      subst (λ (us : List ℕ). Less (weights_from 1 (slice_set ms at n) behind d ++ measure us d.locks) (weights_from 1 ms rounds c ++ measure (numbers_from 1 ms) c.locks)) (sym (set-numbers 1 at ms n))
      (subst (λ (ws : List ℕ). Less (ws ++ measure (numbers_from 1 ms) d.locks) (weights_from 1 ms rounds c ++ measure (numbers_from 1 ms) c.locks)) (sym (then d apart))
      (subst (λ (ws : List ℕ). Less (sum_of (weight (behind t) d t n) (others 1 at ms rounds c) ++ measure (numbers_from 1 ms) d.locks) (ws ++ measure (numbers_from 1 ms) c.locks)) (sym before) less))

  pub all-fall : (d : Beside) → StayApart t rounds behind c d → Nears (rounds t) (behind t) c d t m n → Less (measure_by false (slice_set ms at n) behind d) (measure_by false ms rounds c)
  all-fall d apart nears = falls-with d apart
      (all-nearer (rounds t) (behind t) t c d m n (others 1 at ms rounds c) (numbers_from 1 ms) (others-long rounds c 1 at ms) (among-from t 1 at ms m is found) nears)

  -- and then a lock of u comes down
  pub all-fall-served : (d e : Beside) (u : ℕ) → StayApart t rounds behind c e → is_among u (numbers_from 1 (slice_set ms at n)) ≡ true → weight (behind t) e t n ≡ weight (behind t) d t n → LocksFall u d.locks e.locks → Keeps (rounds t) (behind t) c d t m n → Less (measure_by false (slice_set ms at n) behind e) (measure_by false ms rounds c)
  all-fall-served d e u apart hers same served keeps = falls-with e apart
      (all-served (rounds t) (behind t) t c d m n (others 1 at ms rounds c) (numbers_from 1 ms) (others-long rounds c 1 at ms) e u (among-from t 1 at ms m is found) (subst (λ (us : List ℕ). is_among u us ≡ true) (set-numbers 1 at ms n) hers) same served keeps)
