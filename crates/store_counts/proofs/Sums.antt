-- Sums over the sessions, of which one has another part.
use Rattle.std.proofs.Common.{◌≡◌, ◌≤◌, ◌<◌, ℕ, zero, suc, ◌+◌, ◌==◌, [], ◌∷◌, Bool, true, false, List, cond, sum_by, refl, ap, subst, arith}
use Rattle.std.proofs.lemmas.List.Sums.{sum_by-cons}
use Rattle.rdb_account.specs.Lawful.{sessions}
use Rattle.line_store.specs.Seats.{IsMember}

-- ---- one part

abbrev mark : ℕ → ℕ → ℕ → ℕ
mark s d t = cond (t == s) d 0

abbrev up : ℕ → ℕ → List ℕ
up k zero = []
up k (suc n) = k ∷ up (k + 1) n

apart : (k s : ℕ) → s < k → (k == s) ≡ false
apart k s h = grind arith

marks-none : (s d k n : ℕ) → s < k → sum_by (mark s d) (up k n) ≡ 0
marks-none s d k zero h = refl
marks-none s d k (suc n) h =
    let first = sum_by-cons (mark s d) k (up (k + 1) n) in
    let none = ap (λ (b : Bool). cond b d 0) (apart k s h) in
    let rest = marks-none s d (k + 1) n (omega (arith, h)) in
    omega (arith, first, none, rest)

same-below : (a b : ℕ) → (a == b) ≡ true → b < a + 1
same-below a b e = grind arith

above : (a b : ℕ) → (a == b) ≡ false → a ≤ b → a + 1 ≤ b
above a b e h = grind arith

-- one of these
most-by : (s d k n : ℕ) → sum_by (mark s d) (up (k + 1) n) ≤ d → (b : Bool) → (k == s) ≡ b → mark s d k + sum_by (mark s d) (up (k + 1) n) ≤ d
most-by s d k n rest true e = let none = marks-none s d (k + 1) n (same-below k s e) in let one = ap (λ (b : Bool). cond b d 0) e in omega (arith, none, one)
most-by s d k n rest false e = let one = ap (λ (b : Bool). cond b d 0) e in omega (arith, rest, one)

marks-most : (s d k n : ℕ) → sum_by (mark s d) (up k n) ≤ d
marks-most s d k zero = omega arith
marks-most s d k (suc n) =
    let first = sum_by-cons (mark s d) k (up (k + 1) n) in
    let h = most-by s d k n (marks-most s d (k + 1) n) (k == s) refl in
    omega (arith, first, h)

all-by : (s d k n : ℕ) → ((k == s) ≡ false → d ≤ sum_by (mark s d) (up (k + 1) n)) → (b : Bool) → (k == s) ≡ b → d ≤ mark s d k + sum_by (mark s d) (up (k + 1) n)
all-by s d k n rest true e = let one = ap (λ (b : Bool). cond b d 0) e in omega (arith, one)
all-by s d k n rest false e = let one = rest e in omega (arith, one)

marks-all : (s d k n : ℕ) → k ≤ s → s < k + n → d ≤ sum_by (mark s d) (up k n)
marks-all s d k zero low high = omega (arith, low, high)
marks-all s d k (suc n) low high =
    let first = sum_by-cons (mark s d) k (up (k + 1) n) in
    let h = all-by s d k n (λ e. marks-all s d (k + 1) n (above k s e low) (next s k n high)) (k == s) refl in
    omega (arith, first, h)
  where
    next : (s k n : ℕ) → s < k + suc n → s < (k + 1) + n
    next s k n h = omega (arith, h)

-- ---- sums

sums-split : (f g h : ℕ → ℕ) → ((t : ℕ) → g t ≤ f t + h t) → (xs : List ℕ) → sum_by g xs ≤ sum_by f xs + sum_by h xs
sums-split f g h le [] = omega arith
sums-split f g h le (x ∷ xs) =
    let one = le x in
    let rest = sums-split f g h le xs in
    let a = sum_by-cons f x xs in
    let b = sum_by-cons g x xs in
    let c = sum_by-cons h x xs in
    omega (arith, one, rest, a, b, c)

sums-add : (f g h : ℕ → ℕ) → ((t : ℕ) → g t + h t ≤ f t) → (xs : List ℕ) → sum_by g xs + sum_by h xs ≤ sum_by f xs
sums-add f g h le [] = omega arith
sums-add f g h le (x ∷ xs) =
    let one = le x in
    let rest = sums-add f g h le xs in
    let a = sum_by-cons f x xs in
    let b = sum_by-cons g x xs in
    let c = sum_by-cons h x xs in
    omega (arith, one, rest, a, b, c)

pub sum-less : (f g : ℕ → ℕ) → ((t : ℕ) → g t ≤ f t) → sum_by g sessions ≤ sum_by f sessions
sum-less f g le = let h = sums-add f g (λ t. 0) (λ t. omega (arith, le t)) sessions in omega (arith, h)

same-at : (s t : ℕ) → (t == s) ≡ true → s ≡ t
same-at s t e = grind arith

-- the part of s is more by at most d
pub sum-more : (f g : ℕ → ℕ) (s d : ℕ) → ((t : ℕ) → (t == s) ≡ false → g t ≤ f t) → g s ≤ f s + d → sum_by g sessions ≤ sum_by f sessions + d
sum-more f g s d others mine =
    let a = sums-split f g (mark s d) (λ t. by t (t == s) refl) sessions in
    let b = marks-most s d 1 16 in
    omega (arith, a, b)
  where
    by : (t : ℕ) (b : Bool) → (t == s) ≡ b → g t ≤ f t + cond b d 0
    by t true e = subst (λ (u : ℕ). g u ≤ f u + d) (same-at s t e) mine
    by t false e = let h = others t e in omega (arith, h)

-- the part of a session is less by at least d
pub sum-fewer : (f g : ℕ → ℕ) (s d : ℕ) → IsMember s → ((t : ℕ) → (t == s) ≡ false → g t ≤ f t) → g s + d ≤ f s → sum_by g sessions + d ≤ sum_by f sessions
sum-fewer f g s d member others mine =
    let a = sums-add f g (mark s d) (λ t. by t (t == s) refl) sessions in
    let b = marks-all s d 1 16 member.first (last s member.last) in
    omega (arith, a, b)
  where
    last : (s : ℕ) → s ≤ 16 → s < 1 + 16
    last s h = omega (arith, h)

    by : (t : ℕ) (b : Bool) → (t == s) ≡ b → g t + cond b d 0 ≤ f t
    by t true e = subst (λ (u : ℕ). g u + d ≤ f u) (same-at s t e) mine
    by t false e = let h = others t e in omega (arith, h)

-- it is part of the sum
pub sum-part : (f : ℕ → ℕ) (s : ℕ) → IsMember s → f s ≤ sum_by f sessions
sum-part f s member = let h = sum-fewer f (λ t. 0) s (f s) member (λ t other. omega arith) (omega arith) in omega (arith, h)
