-- What is set aside for sessions, one after another.
use Rattle.std.proofs.Common.{◌≡◌, ◌≤◌, ℕ, zero, suc, ◌+◌, ◌-◌, ◌==◌, if◌then◌else◌, Bool, true, false, Some, None, List, refl, ap, ◌∙◌, arith}
use Rattle.std.specs.Prelude.{slice_get}
use Rattle.disk_store.specs.declared.member.Member.{Member}
use Rattle.disk_store.specs.Preparing.{aside_of, aside_beside}

-- for one session beside s
abbrev pub aside_at : ℕ → List Member → ℕ → ℕ
aside_at s ms t = if t == s then 0 else aside_of (slice_get ms t)

-- those of the first so many sessions
abbrev pub below : (ℕ → ℕ) → ℕ → ℕ
below f zero = 0
below f (suc n) = below f n + f (suc n)

pub all-below : (s : ℕ) (ms : List Member) → below (aside_at s ms) 16 ≡ aside_beside s ms
all-below s ms = refl

-- they are no more than all
below-less : (f : ℕ → ℕ) (k n : ℕ) → below f k ≤ below f (k + n)
below-less f k zero = let e = ap (below f) (same k) in omega (arith, e)
  where
    same : (k : ℕ) → k + 0 ≡ k
    same k = omega arith
below-less f k (suc n) =
    let rest = below-less f (suc k) n in
    let at = ap (below f) (next k n) in
    omega (arith, rest, at)
  where
    next : (k n : ℕ) → suc k + n ≡ k + suc n
    next k n = omega arith

pub some-below : (s : ℕ) (ms : List Member) (k : ℕ) → k ≤ 16 → below (aside_at s ms) k ≤ aside_beside s ms
some-below s ms k within =
    let h = below-less (aside_at s ms) k (16 - k) in
    let at = ap (below (aside_at s ms)) (whole k within) in
    let all = all-below s ms in
    omega (arith, h, at, all)
  where
    whole : (k : ℕ) → k ≤ 16 → k + (16 - k) ≡ 16
    whole k within = omega (arith, within)

-- ---- one session more

pub next-below : (f : ℕ → ℕ) (place : ℕ) → 1 ≤ place → below f ((place + 1) - 1) ≡ below f (place - 1) + f place
next-below f place from = ap (below f) (at place from) ∙ ap (λ k. below f (place - 1) + f k) (back place from)
  where
    at : (p : ℕ) → 1 ≤ p → (p + 1) - 1 ≡ suc (p - 1)
    at p h = omega (arith, h)

    back : (p : ℕ) → 1 ≤ p → suc (p - 1) ≡ p
    back p h = omega (arith, h)

pub aside-mine : (s : ℕ) (ms : List Member) (t : ℕ) → (t == s) ≡ true → aside_at s ms t ≡ 0
aside-mine s ms t e = rw e refl

pub aside-nobody : (s : ℕ) (ms : List Member) (t : ℕ) → slice_get ms t ≡ None → aside_at s ms t ≡ 0
aside-nobody s ms t e = by (t == s)
  where
    by : (b : Bool) → ◌≡◌ {A = ℕ} (if b then 0 else aside_of (slice_get ms t)) 0
    by true = refl
    by false = ap aside_of e

pub aside-other : (s : ℕ) (ms : List Member) (t : ℕ) (m : Member) → (t == s) ≡ false → slice_get ms t ≡ Some m → aside_at s ms t ≡ aside_of (Some m)
aside-other s ms t m e is = rw e (ap aside_of is)
