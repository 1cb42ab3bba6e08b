-- Deaths and faults in the accounts of runs.
use Rattle.std.proofs.Common.{◌≡◌, ◌≤◌, ◌+◌, ◌||◌, ℕ, Bool, true, false, List, [], ◌∷◌, length, map, Option, Some, None, ◌⊎◌, inl, inr, refl, sym, subst, ◌∙◌, arith}
use Rattle.std.proofs.lemmas.Bool.{false≢true}
use Rattle.std.proofs.lemmas.Bool.Decides.{nat_tests}
use Rattle.std.proofs.lemmas.Option.{none-some}
use Rattle.rdb_outside.specs.Causes.{Rose}
use Rattle.rdb_account.specs.declared.event.Event.{Event as Declared}
use Rattle.rdb_account.specs.declared.event.Event.TheVariants as event
use Rattle.rdb_account.specs.Events.{Event, event_of}
use Rattle.line_opening.specs.declared.fault.OpeningFault.{OpeningFault}
use Rattle.line_opening.specs.declared.fault.OpeningFault.TheVariants as opening
use Rattle.line_store.specs.declared.answers.Fault.TheVariants as faulty
use Rattle.line_runs.specs.line_cluster.declared.sessions.Halt.{Halt}
use Rattle.line_runs.specs.line_cluster.declared.sessions.Halt.TheVariants as halts
use Rattle.line_runs.specs.line_cluster.Deaths.{RoseBy, device_deaths, failures}
use Rattle.workload_replies.specs.Replies.{has_death}
use Rattle.workload_runs.specs.Statuses.{deaths_of_last, have_death, is_run_status, last_of}
use Rattle.workload_runs.proofs.Chain.{InFront}

-- ---- nobody died

pub no-deaths : (es : List Declared) → has_death es ≡ false → device_deaths (map event_of es) ≡ 0
no-deaths [] h = refl
no-deaths (event.Began s kind ∷ es) h = no-deaths es h
no-deaths (event.Wanted s node mode at ∷ es) h = no-deaths es h
no-deaths (event.Got s node mode ∷ es) h = no-deaths es h
no-deaths (event.Demoted s node from to ∷ es) h = no-deaths es h
no-deaths (event.Said s item keys reply ∷ es) h = no-deaths es h
no-deaths (event.Committed s moment ∷ es) h = no-deaths es h
no-deaths (event.RolledBack s ∷ es) h = no-deaths es h
no-deaths (event.Died s cause ∷ es) h = absurd (false≢true (sym h))
no-deaths (event.Recovered s committed moment ∷ es) h = no-deaths es h

both-false : (a b : Bool) → a ≡ false → b ≡ false → (a || b) ≡ false
both-false a b h k = cc

pub lived-more : (e : List Declared) (es accounts : List (List Declared)) (status ended : ℕ) → InFront e es status accounts ended
    → has_death e ≡ false → (status ≡ 0 → have_death es ≡ false) → ended ≡ 0 → have_death accounts ≡ false
lived-more e es accounts status ended (inl (is, same)) here rest zero =
    subst (λ (xs : List (List Declared)). have_death xs ≡ false) (sym is) (both-false (has_death e) (have_death es) here (rest (sym same ∙ zero)))
lived-more e es accounts status ended (inr (is, same)) here rest zero = subst (λ (xs : List (List Declared)). have_death xs ≡ false) (sym is) refl

pub counted-more : (e : List Declared) (es accounts : List (List Declared)) (status ended n : ℕ) → InFront e es status accounts ended
    → (status ≡ 0 → length es ≡ n) → ended ≡ 0 → length accounts ≡ n + 1
counted-more e es accounts status ended n (inl (is, same)) rest zero =
    let more = rest (sym same ∙ zero) in
    subst (λ (xs : List (List Declared)). length xs ≡ n + 1) (sym is) (omega (arith, more))
counted-more e es accounts status ended n (inr (is, same)) rest zero = absurd (let no : ⊥ = omega (arith, same, zero) in no)

pub died-more : (e : List Declared) (es accounts : List (List Declared)) (status ended : ℕ) → InFront e es status accounts ended
    → (status ≡ 8 → has_death (last_of es) ≡ true) → ended ≡ 8 → has_death (last_of accounts) ≡ true
died-more e [] accounts status ended (inl (is, same)) rest eight = absurd (false≢true (rest (sym same ∙ eight)))
died-more e (d ∷ es) accounts status ended (inl (is, same)) rest eight =
    subst (λ (xs : List (List Declared)). has_death (last_of xs) ≡ true) (sym is) (rest (sym same ∙ eight))
died-more e es accounts status ended (inr (is, same)) rest eight = absurd (let no : ⊥ = omega (arith, same, eight) in no)

pub died-alone : (e : List Declared) (accounts : List (List Declared)) (status ended : ℕ) → InFront e [] status accounts ended
    → (status ≡ 8 → has_death e ≡ true) → ended ≡ 8 → has_death (last_of accounts) ≡ true
died-alone e accounts status ended (inl (is, same)) here eight =
    subst (λ (xs : List (List Declared)). has_death (last_of xs) ≡ true) (sym is) (here (sym same ∙ eight))
died-alone e accounts status ended (inr (is, same)) here eight = absurd (let no : ⊥ = omega (arith, same, eight) in no)

-- ---- faults

rose-fewer : (m n a b : ℕ) → m ≤ n → RoseBy n a b → RoseBy m a b
rose-fewer m n a b fewer rose = omega (arith, fewer, rose)

rose-since : (n a b c : ℕ) → RoseBy 0 a b → RoseBy n b c → RoseBy n a c
rose-since n a b c before rose = omega (arith, before, rose)

pub rose-until : (n a b c : ℕ) → RoseBy n a b → b ≤ c → RoseBy n a c
rose-until n a b c rose later = omega (arith, later, rose)

pub rose-past : (n a b c : ℕ) → a ≤ b → RoseBy n b c → RoseBy n a c
rose-past n a b c later rose = omega (arith, later, rose)

pub rose-none : (a b : ℕ) → a ≤ b → RoseBy 0 a b
rose-none a b later = omega (arith, later)

deaths-within : (events : List Event) (halt : Option Halt) → device_deaths events ≤ failures events halt
deaths-within events halt = omega arith

pub no-fewer : (events : List Event) (halt : Option Halt) (a b : ℕ) → RoseBy (failures events halt) a b → RoseBy 0 a b
no-fewer events halt a b rose = rose-fewer 0 (failures events halt) a b (omega arith) rose

-- the run whose account this is was the last: these were its faults
pub harmed-alone : (e : List Declared) (accounts : List (List Declared)) (status ended a b : ℕ) → InFront e [] status accounts ended
    → RoseBy (device_deaths (map event_of e)) a b → RoseBy (deaths_of_last accounts) a b
harmed-alone e accounts status ended a b (inl (is, same)) rose = subst (λ (xs : List (List Declared)). RoseBy (deaths_of_last xs) a b) (sym is) rose
harmed-alone e accounts status ended a b (inr (is, same)) rose = subst (λ (xs : List (List Declared)). RoseBy (deaths_of_last xs) a b) (sym is) (rose-fewer 0 (device_deaths (map event_of e)) a b (omega arith) rose)

pub stopped-alone : (e : List Declared) (accounts : List (List Declared)) (status ended a b : ℕ) → InFront e [] status accounts ended
    → (status ≡ 3 → RoseBy (device_deaths (map event_of e) + 1) a b) → ended ≡ 3 → RoseBy (deaths_of_last accounts + 1) a b
stopped-alone e accounts status ended a b (inl (is, same)) rose three = subst (λ (xs : List (List Declared)). RoseBy (deaths_of_last xs + 1) a b) (sym is) (rose (sym same ∙ three))
stopped-alone e accounts status ended a b (inr (is, same)) rose three = absurd (let no : ⊥ = omega (arith, same, three) in no)

-- a run in front of others, in which nobody died
pub harmed-more : (e : List Declared) (es accounts : List (List Declared)) (status ended a b c : ℕ) → InFront e es status accounts ended
    → has_death e ≡ false → RoseBy 0 a b → RoseBy (deaths_of_last es) b c → RoseBy (deaths_of_last accounts) a c
harmed-more e [] accounts status ended a b c (inl (is, same)) here before rose =
    subst (λ (xs : List (List Declared)). RoseBy (deaths_of_last xs) a c) (sym is)
    (subst (λ (n : ℕ). RoseBy n a c) (sym (no-deaths e here)) (rose-since 0 a b c before rose))
harmed-more e (d ∷ es) accounts status ended a b c (inl (is, same)) here before rose =
    subst (λ (xs : List (List Declared)). RoseBy (deaths_of_last xs) a c) (sym is) (rose-since (deaths_of_last (d ∷ es)) a b c before rose)
harmed-more e es accounts status ended a b c (inr (is, same)) here before rose =
    subst (λ (xs : List (List Declared)). RoseBy (deaths_of_last xs) a c) (sym is) (rose-since 0 a b c before (rose-fewer 0 (deaths_of_last es) b c (omega arith) rose))

pub stopped-more : (e : List Declared) (es accounts : List (List Declared)) (status ended a b c : ℕ) → InFront e es status accounts ended
    → has_death e ≡ false → RoseBy 0 a b → (status ≡ 3 → RoseBy (deaths_of_last es + 1) b c) → ended ≡ 3 → RoseBy (deaths_of_last accounts + 1) a c
stopped-more e [] accounts status ended a b c (inl (is, same)) here before rose three =
    subst (λ (xs : List (List Declared)). RoseBy (deaths_of_last xs + 1) a c) (sym is)
    (subst (λ (n : ℕ). RoseBy (n + 1) a c) (sym (no-deaths e here)) (rose-since 1 a b c before (rose (sym same ∙ three))))
stopped-more e (d ∷ es) accounts status ended a b c (inl (is, same)) here before rose three =
    subst (λ (xs : List (List Declared)). RoseBy (deaths_of_last xs + 1) a c) (sym is) (rose-since (deaths_of_last (d ∷ es) + 1) a b c before (rose (sym same ∙ three)))
stopped-more e es accounts status ended a b c (inr (is, same)) here before rose three = absurd (let no : ⊥ = omega (arith, same, three) in no)

-- ---- a run that ends the workload

pub left-over : (n m : ℕ) → is_run_status n ≡ true → (n ≡ 0 → ⊥) → (m ≡ n) ⊎ (m ≡ 5) → (m ≡ 3) ⊎ (m ≡ 4) ⊎ (m ≡ 5) ⊎ (m ≡ 8)
left-over n m is some same = grind (arith, nat_tests)

module _ (fault : Option OpeningFault) (halt : Option Halt) (e : List Declared) (accounts : List (List Declared)) (status ended a b : ℕ)
    (begun : fault ≡ None → InFront e [] status accounts ended)
    (unsaid : (fault ≡ None → ⊥) → (accounts ≡ []) × (ended ≡ status)) where
  harmed-at : (f : Option OpeningFault) → fault ≡ f → RoseBy (failures (map event_of e) halt) a b → RoseBy (deaths_of_last accounts) a b
  harmed-at None is rose = harmed-alone e accounts status ended a b (begun is) (rose-fewer (device_deaths (map event_of e)) (failures (map event_of e) halt) a b (deaths-within (map event_of e) halt) rose)
  harmed-at (Some x) is rose =
      subst (λ (xs : List (List Declared)). RoseBy (deaths_of_last xs) a b) (sym (unsaid (λ none. none-some x (sym none ∙ is))).0)
      (rose-fewer 0 (failures (map event_of e) halt) a b (omega arith) rose)

  pub harmed-by : RoseBy (failures (map event_of e) halt) a b → RoseBy (deaths_of_last accounts) a b
  harmed-by rose = harmed-at fault refl rose

  same-status : (f : Option OpeningFault) → fault ≡ f → (ended ≡ status) ⊎ (ended ≡ 5)
  same-status None is = elim (begun is) [ inl it ↦ inl it.1 | inr it ↦ inr it.1 ]
  same-status (Some x) is = inl (unsaid (λ none. none-some x (sym none ∙ is))).1

  pub ended-status : is_run_status status ≡ true → (status ≡ 0 → ⊥) → (ended ≡ 3) ⊎ (ended ≡ 4) ⊎ (ended ≡ 5) ⊎ (ended ≡ 8)
  ended-status is some = left-over status ended is some (same-status fault refl)

  three-is : ended ≡ 3 → status ≡ 3
  three-is three = elim (same-status fault refl) [ inl same ↦ sym same ∙ three | inr five ↦ absurd (let no : ⊥ = omega (arith, five, three) in no) ]

  eight-is : ended ≡ 8 → status ≡ 8
  eight-is eight = elim (same-status fault refl) [ inl same ↦ sym same ∙ eight | inr five ↦ absurd (let no : ⊥ = omega (arith, five, eight) in no) ]

  pub died-by : (status ≡ 8 → fault ≡ None) → (status ≡ 8 → has_death e ≡ true) → ended ≡ 8 → has_death (last_of accounts) ≡ true
  died-by opened here eight = died-alone e accounts status ended (begun (opened (eight-is eight))) here eight

  pub stopped-by : (status ≡ 3 → (fault ≡ Some opening.Failed) ⊎ ((fault ≡ None) × (halt ≡ Some (halts.Device faulty.Failed)))) → (fault ≡ Some opening.Failed → Rose a b)
      → RoseBy (failures (map event_of e) halt) a b → ended ≡ 3 → RoseBy (deaths_of_last accounts + 1) a b
  stopped-by causes failed rose three = elim (causes (three-is three)) [
    | inl unopened ↦
        subst (λ (xs : List (List Declared)). RoseBy (deaths_of_last xs + 1) a b) (sym (unsaid (λ none. none-some opening.Failed (sym none ∙ unopened))).0) (failed unopened)
    | inr (opened, halted) ↦ stopped-alone e accounts status ended a b (begun opened) (λ is. subst (λ (h : Option Halt). RoseBy (failures (map event_of e) h) a b) halted rose) three
  ]
