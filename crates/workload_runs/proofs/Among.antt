-- Who may die in a run of so many sessions.
use Rattle.std.proofs.Common.{◌≡◌, ◌≤◌, ◌<◌, ◌+◌, ◌&&◌, ◌||◌, ℕ, zero, suc, Bool, true, false, cond, nat_eq, nat_le, List, ◌∷◌, [], ◌⊎◌, inl, inr, refl, sym, subst, arith}
use Rattle.std.proofs.lemmas.Bool.{and_parts}
use Rattle.std.proofs.lemmas.Bool.Decides.{nat_tests}
use Rattle.std.proofs.lemmas.List.Elements.{All-contains, All-contains_itself, All-filter, Contains-append_cases, Contains-append_left, Contains-append_right, Contains-push, Contains-push_cases, filter_passes}
use Rattle.std.specs.List.{Contains, filter, list_any}
use Rattle.rdb_types.specs.declared.session.Cause.TheVariants.{Device, Gate, Memory}
use Rattle.rdb_account.specs.Places.{Opening}
use Rattle.rdb_drive.specs.Boards.{MayDie}
use Rattle.rdb_drive.specs.Orders.{upward}
use Rattle.line_runs.specs.line_cluster.Sound.{MayFail}
use Rattle.line_runs.specs.line_drive.Boards.{mortals_of}
use Rattle.workload_runs.specs.Among.{first_of, may_die_by}

in-none : (s : ℕ) → Contains [] s → ⊥
in-none s (k, below, is) = omega (arith, below)

in-one : (x s : ℕ) → Contains (x ∷ []) s → x ≡ s
in-one x s c = elim (Contains-push_cases [] x s c) [ inl none ↦ absurd (in-none s none) | inr e ↦ e ]

kept : (q : ℕ → Bool) (xs : List ℕ) (s : ℕ) → Contains xs s → q s ≡ true → Contains (filter q xs) s
kept q [] s c h = absurd (in-none s c)
kept q (x ∷ xs) s c h = elim (Contains-append_cases (x ∷ []) xs s c) [
  | inl one ↦
      let e = in-one x s one in
      let passes : q x ≡ true = subst (λ (y : ℕ). q y ≡ true) (sym e) h in
      subst (λ (b : Bool). Contains (cond b (x ∷ filter q xs) (filter q xs)) s) (sym passes)
      (subst (λ (y : ℕ). Contains (x ∷ filter q xs) y) e (Contains-append_left (x ∷ []) (filter q xs) x (Contains-push [] x)))
  | inr rest ↦
      let r = kept q xs s rest h in
      elim (q x) as (λ b. Contains (cond b (x ∷ filter q xs) (filter q xs)) s) [ true ↦ Contains-append_right (x ∷ []) (filter q xs) s r | false ↦ r ]
]

first-or : (first s : ℕ) → first ≤ s → (first ≡ s) ⊎ (first + 1 ≤ s)
first-or first s h = grind arith

numbered : (first n s : ℕ) → first ≤ s → s < first + n → Contains (upward first n) s
numbered first zero s low high = absurd (let no : ⊥ = omega (arith, low, high) in no)
numbered first (suc n) s low high = elim (first-or first s low) [
  | inl e ↦ subst (λ (y : ℕ). Contains (first ∷ upward (first + 1) n) y) e (Contains-append_left (first ∷ []) (upward (first + 1) n) first (Contains-push [] first))
  | inr more ↦ Contains-append_right (first ∷ []) (upward (first + 1) n) s (numbered (first + 1) n s more (omega (arith, high)))
]

below-next : (s n : ℕ) → nat_le s n ≡ true → s < 1 + n
below-next s n h = grind (arith, nat_tests)

at-least : (n s : ℕ) → nat_le n s ≡ true → n ≤ s
at-least n s h = grind (arith, nat_tests)

same-number : (n : ℕ) → nat_eq n n ≡ true
same-number n = grind (arith, nat_tests)

found : (xs : List ℕ) (s : ℕ) → Contains xs s → list_any (nat_eq s) xs ≡ true
found [] s c = absurd (in-none s c)
found (x ∷ xs) s c = elim (Contains-append_cases (x ∷ []) xs s c) [
  | inl one ↦ subst (λ (y : ℕ). list_any (nat_eq s) (y ∷ xs) ≡ true) (sym (in-one x s one)) (subst (λ (b : Bool). (b || list_any (nat_eq s) xs) ≡ true) (sym (same-number s)) refl)
  | inr rest ↦ elim (nat_eq s x) as (λ b. (b || list_any (nat_eq s) xs) ≡ true) [ true ↦ refl | false ↦ found xs s rest ]
]

-- Of those whom the gate has die, the sessions of a run may die in it.
pub among-die : (gate : List ℕ) (o : Opening) (n : ℕ) → o.may_die ≡ may_die_by gate → MayDie (first_of n gate) (mortals_of o n)
among-die gate o n lets s c =
    let within = and_parts (nat_le 1 s) (nat_le s n) (All-contains (λ t. nat_le 1 t && nat_le t n ≡ true) (first_of n gate) s (filter_passes (λ t. nat_le 1 t && nat_le t n) gate) c) in
    let there : Contains gate s = All-contains (Contains gate) (first_of n gate) s (All-filter (λ t. nat_le 1 t && nat_le t n) (Contains gate) gate (All-contains_itself gate)) c in
    let named : o.may_die s Gate ≡ true = subst (λ d. d s Gate ≡ true) (sym lets) (found gate s there) in
    kept (λ t. o.may_die t Gate) (upward 1 n) s (numbered 1 n s (at-least 1 s within.0) (below-next s n within.1)) named

-- Its clause at the gate of a run, where that was made.
pub among-made : (gate now : List ℕ) (o : Opening) (n m : ℕ) → now ≡ gate → m ≡ n → o.may_die ≡ may_die_by gate → MayDie (first_of m now) (mortals_of o n)
among-made gate now o n m same count lets =
    subst (λ (k : ℕ). MayDie (first_of k now) (mortals_of o n)) (sym count) (subst (λ (xs : List ℕ). MayDie (first_of n xs) (mortals_of o n)) (sym same) (among-die gate o n lets))

both-hold : (n s : ℕ) → 1 ≤ s → s ≤ n → nat_le 1 s && nat_le s n ≡ true
both-hold n s low high = grind (arith, nat_tests)

-- whom the gate has die is one of the run
pub dies-among : (n s : ℕ) (gate : List ℕ) → 1 ≤ s → s ≤ n → Contains gate s → Contains (first_of n gate) s
dies-among n s gate low high c = kept (λ t. nat_le 1 t && nat_le t n) gate s c (both-hold n s low high)

pub all-may-fail : (gate : List ℕ) (o : Opening) → o.may_die ≡ may_die_by gate → MayFail o
all-may-fail gate o lets s = (subst (λ d. d s Device ≡ true) (sym lets) refl, subst (λ d. d s Memory ≡ true) (sym lets) refl)
