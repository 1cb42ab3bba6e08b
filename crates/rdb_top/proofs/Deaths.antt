-- Who may die of the gate of a run.
use Rattle.std.proofs.Common.{◌≡◌, ◌≤◌, ◌<◌, ◌+◌, ℕ, zero, suc, Bool, true, false, ◌||◌, ◌==◌, cond, List, ◌++◌, ◌∷◌, [], Option, Some, None, ◌⊎◌, inl, inr, refl, sym, subst, ap, arith}
use Rattle.std.proofs.lemmas.Bool.Decides.{nat_tests}
use Rattle.std.proofs.lemmas.List.Elements.{All-contains, All-contains_itself, All-filter, Contains-append_cases, Contains-append_left, Contains-append_right, Contains-push, Contains-push_cases, filter_passes}
use Rattle.std.specs.List.{Contains, filter}
use Rattle.rdb_types.specs.declared.session.Cause.TheVariants.{Device, Gate, Memory}
use Rattle.rdb_account.specs.Places.{Opening}
use Rattle.rdb_drive.specs.Boards.{MayDie}
use Rattle.rdb_drive.specs.Orders.{upward}
use Rattle.workload_runs.specs.line_cluster.Sound.{MayFail}
use Rattle.workload_runs.specs.line_drive.Boards.{mortals_of}
use Rattle.session_states.specs.declared.item_queue.WholeScript.{WholeScript}
use Rattle.workload_runs.specs.line_runs.Openings.{said_to}
use Rattle.command_words.specs.Words.{MayBeOf}
use Rattle.command_words.specs.declared.deaths.Death.{Death}
use Rattle.rdb_top.specs.Deaths.{is_let_die, letting, sessions_dying}

-- ---- lists of sessions

in-none : (s : ℕ) → Contains [] s → ⊥
in-none s (k, below, is) = omega (arith, below)

in-one : (x s : ℕ) → Contains (x ∷ []) s → x ≡ s
in-one x s c = elim (Contains-push_cases [] x s c) [ inl none ↦ absurd (in-none s none) | inr e ↦ e ]

kept : (q : ℕ → Bool) (xs : List ℕ) (s : ℕ) → Contains xs s → q s ≡ true → Contains (filter q xs) s
kept q [] s c h = absurd (in-none s c)
kept q (x ∷ xs) s c h = elim (Contains-append_cases (x ∷ []) xs s c) [
  | inl one ↦
      let e = in-one x s one in
      let passes : q x ≡ true = subst (λ (y : ℕ). q y ≡ true) (sym e) h in
      subst (λ (b : Bool). Contains (cond b (x ∷ filter q xs) (filter q xs)) s) (sym passes)
      (subst (λ (y : ℕ). Contains (x ∷ filter q xs) y) e (Contains-append_left (x ∷ []) (filter q xs) x (Contains-push [] x)))
  | inr rest ↦
      let r = kept q xs s rest h in
      elim (q x) as (λ b. Contains (cond b (x ∷ filter q xs) (filter q xs)) s) [ true ↦ Contains-append_right (x ∷ []) (filter q xs) s r | false ↦ r ]
]

first-or : (first s : ℕ) → first ≤ s → (first ≡ s) ⊎ (first + 1 ≤ s)
first-or first s h = grind arith

numbered : (first n s : ℕ) → first ≤ s → s < first + n → Contains (upward first n) s
numbered first zero s low high = absurd (let no : ⊥ = omega (arith, low, high) in no)
numbered first (suc n) s low high = elim (first-or first s low) [
  | inl e ↦ subst (λ (y : ℕ). Contains (first ∷ upward (first + 1) n) y) e (Contains-append_left (first ∷ []) (upward (first + 1) n) first (Contains-push [] first))
  | inr more ↦ Contains-append_right (first ∷ []) (upward (first + 1) n) s (numbered (first + 1) n s more (omega (arith, high)))
]

-- ---- deaths

same-number : (n : ℕ) → (n == n) ≡ true
same-number n = grind (arith, nat_tests)

or-right : (a : Bool) → (a || true) ≡ true
or-right true = refl
or-right false = refl

more-may : (a b : Bool) → a ≡ true → (a || b) ≡ true
more-may true b h = refl
more-may false b h = cc

below-next : (s n : ℕ) → s ≤ n → s < 1 + n
below-next s n h = omega (arith, h)

named : (death : Option Death) (o : Opening) (n s : ℕ) → MayBeOf n death → Contains (sessions_dying death) s → Contains (filter (λ t. o.may_die t Gate || is_let_die death t Gate) (upward 1 n)) s
named None o n s h c = absurd (in-none s c)
named (Some death) o n s h c =
    let e = in-one death.session s c in
    subst (λ (y : ℕ). Contains (filter (λ t. o.may_die t Gate || (t == death.session)) (upward 1 n)) y) e
    (kept (λ t. o.may_die t Gate || (t == death.session)) (upward 1 n) death.session (numbered 1 n death.session h.0 (below-next death.session n h.1))
    (subst (λ (b : Bool). (o.may_die death.session Gate || b) ≡ true) (sym (same-number death.session)) (or-right (o.may_die death.session Gate))))

-- Beside whom the gate lets die, it is one of the sessions that the words name.
pub mortals : (death : Option Death) (gate : List ℕ) (o : Opening) (word : List ℕ) (scripts : List WholeScript) (n : ℕ) → MayBeOf n death → MayDie gate (mortals_of o n) →
    MayDie (sessions_dying death ++ gate) (mortals_of (said_to (letting death o) word scripts) n)
mortals death gate o word scripts n h dies s c = elim (Contains-append_cases (sessions_dying death) gate s c) [
  | inl own ↦ named death o n s h own
  | inr other ↦
      let m = dies s other in
      let lets : o.may_die s Gate ≡ true = All-contains (λ t. o.may_die t Gate ≡ true) (mortals_of o n) s (filter_passes (λ t. o.may_die t Gate) (upward 1 n)) m in
      let one : Contains (upward 1 n) s = All-contains (Contains (upward 1 n)) (mortals_of o n) s (All-filter (λ t. o.may_die t Gate) (Contains (upward 1 n)) (upward 1 n) (All-contains_itself (upward 1 n))) m in
      kept (λ t. o.may_die t Gate || is_let_die death t Gate) (upward 1 n) s one (more-may (o.may_die s Gate) (is_let_die death s Gate) lets)
]

pub may-fail : (death : Option Death) (o : Opening) (word : List ℕ) (scripts : List WholeScript) → MayFail o → MayFail (said_to (letting death o) word scripts)
may-fail death o word scripts h s = (more-may (o.may_die s Device) (is_let_die death s Device) (h s).0, more-may (o.may_die s Memory) (is_let_die death s Memory) (h s).1)

-- Who may die of a gate may die of it beside whom the words name.
pub dies-besides : (death : Option Death) (gate : List ℕ) (s : ℕ) → Contains gate s → Contains (sessions_dying death ++ gate) s
dies-besides death gate s held = Contains-append_right (sessions_dying death) gate s held
