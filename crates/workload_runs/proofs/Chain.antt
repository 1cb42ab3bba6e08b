-- Accounts of runs, one in front of others.
use Rattle.std.proofs.Common.{◌≡◌, ℕ, List, [], ◌∷◌, length, map, Option, Some, None, ◌⊎◌, inl, inr, refl, sym, subst}
use Rattle.std.proofs.lemmas.Option.{none-some}
use Rattle.rdb_meaning.specs.declared.tables.Tables.{Tables}
use Rattle.rdb_account.specs.declared.event.Event.{Event as Declared}
use Rattle.rdb_account.specs.Events.{Event, event_of}
use Rattle.rdb_account.specs.Places.{Opening, place}
use Rattle.session_states.specs.declared.item_queue.WholeScript.{WholeScript}
use Rattle.line_runs.specs.line_cluster.Turned.{HaveAllEnded}
use Rattle.workload_runs.specs.Runs.{Frame, IsRun, AreRuns, EndIf}
use Rattle.workload_runs.specs.Statuses.{IsWhole}

pub no-run : (OfLast : Opening → ℕ → List Event → Type 0) (f : Frame) (t : Tables) (scripts : List (List WholeScript)) → AreRuns OfLast f t scripts []
no-run OfLast f t [] = tt
no-run OfLast f t (s ∷ ss) = tt

-- another thing is said of the last run
less-behind : (Was Is : Opening → ℕ → List Event → Type 0) → ((o : Opening) (n : ℕ) (es : List Event) → Was o n es → Is o n es)
    → (f : Frame) (t : Tables) (s : List WholeScript) (ss : List (List WholeScript)) (e : List Declared) (es : List (List Declared))
    → AreRuns Was f t (s ∷ ss) (e ∷ es) → ((next : Tables) → AreRuns Was f next ss es → AreRuns Is f next ss es) → AreRuns Is f t (s ∷ ss) (e ∷ es)
less-behind Was Is to f t s ss e [] are rest = (are.0, to are.0.opening (length s) (map event_of e) are.1)
less-behind Was Is to f t s ss e (d ∷ es) are rest = (are.0, are.1, rest (place are.0.opening (map event_of e)).tables are.2)

pub less : (Was Is : Opening → ℕ → List Event → Type 0) → ((o : Opening) (n : ℕ) (es : List Event) → Was o n es → Is o n es)
    → (f : Frame) (t : Tables) (ss : List (List WholeScript)) (es : List (List Declared)) → AreRuns Was f t ss es → AreRuns Is f t ss es
less Was Is to f t ss [] are = no-run Is f t ss
less Was Is to f t [] (e ∷ es) are = absurd are
less Was Is to f t (s ∷ ss) (e ∷ es) are = less-behind Was Is to f t s ss e es are (λ next more. less Was Is to f next ss es more)

-- an account in front of others with their status, or none for want of memory
abbrev pub InFront : List Declared → List (List Declared) → ℕ → List (List Declared) → ℕ → Type 0
InFront e es status accounts ended = ((accounts ≡ e ∷ es) × (ended ≡ status)) ⊎ ((accounts ≡ []) × (ended ≡ 5))

-- ---- a run that ends the workload

pub alone : (f : Frame) (t : Tables) (s : List WholeScript) (ss : List (List WholeScript)) (e : List Declared) (accounts : List (List Declared)) (status ended : ℕ)
    → InFront e [] status accounts ended
    → (run : IsRun f t s (map event_of e)) → (IsWhole status → HaveAllEnded run.opening (length s) (map event_of e))
    → AreRuns (EndIf (IsWhole ended)) f t (s ∷ ss) accounts
alone f t s ss e accounts status ended (inl (is, same)) run whole =
    subst (λ (es : List (List Declared)). AreRuns (EndIf (IsWhole ended)) f t (s ∷ ss) es) (sym is) (run, λ (w : IsWhole ended). whole (subst IsWhole same w))
alone f t s ss e accounts status ended (inr (is, same)) run whole =
    subst (λ (es : List (List Declared)). AreRuns (EndIf (IsWhole ended)) f t (s ∷ ss) es) (sym is) (no-run (EndIf (IsWhole ended)) f t (s ∷ ss))

-- one that wasn't begun has no account
pub ended-by : {A : Type 0} (fault : Option A) (f : Frame) (t : Tables) (s : List WholeScript) (ss : List (List WholeScript)) (e : List Declared) (accounts : List (List Declared)) (status ended : ℕ)
    → (fault ≡ None → InFront e [] status accounts ended)
    → ((fault ≡ None → ⊥) → (accounts ≡ []) × (ended ≡ status))
    → (run : IsRun f t s (map event_of e)) → (IsWhole status → HaveAllEnded run.opening (length s) (map event_of e))
    → AreRuns (EndIf (IsWhole ended)) f t (s ∷ ss) accounts
ended-by None f t s ss e accounts status ended begun unsaid run whole = alone f t s ss e accounts status ended (begun refl) run whole
ended-by (Some x) f t s ss e accounts status ended begun unsaid run whole =
    subst (λ (es : List (List Declared)). AreRuns (EndIf (IsWhole ended)) f t (s ∷ ss) es) (sym (unsaid (λ none. none-some x (sym none))).0) (no-run (EndIf (IsWhole ended)) f t (s ∷ ss))

-- ---- a run in front of the next ones

pub in-front : (OfLast : Opening → ℕ → List Event → Type 0) (f : Frame) (t : Tables) (s : List WholeScript) (ss : List (List WholeScript)) (e : List Declared) (es : List (List Declared))
    → (run : IsRun f t s (map event_of e)) → HaveAllEnded run.opening (length s) (map event_of e)
    → (es ≡ [] → OfLast run.opening (length s) (map event_of e))
    → AreRuns OfLast f (place run.opening (map event_of e)).tables ss es
    → AreRuns OfLast f t (s ∷ ss) (e ∷ es)
in-front OfLast f t s ss e [] run ended here more = (run, here refl)
in-front OfLast f t s ss e (d ∷ es) run ended here more = (run, ended, more)

pub before-more : (f : Frame) (t : Tables) (s : List WholeScript) (ss : List (List WholeScript)) (e : List Declared) (es accounts : List (List Declared)) (status ended : ℕ)
    → InFront e es status accounts ended
    → (run : IsRun f t s (map event_of e)) → HaveAllEnded run.opening (length s) (map event_of e)
    → AreRuns (EndIf (IsWhole status)) f (place run.opening (map event_of e)).tables ss es
    → AreRuns (EndIf (IsWhole ended)) f t (s ∷ ss) accounts
before-more f t s ss e es accounts status ended (inl (is, same)) run all more =
    subst (λ (xs : List (List Declared)). AreRuns (EndIf (IsWhole ended)) f t (s ∷ ss) xs) (sym is)
    (in-front (EndIf (IsWhole ended)) f t s ss e es run all (λ none whole. all) (subst (λ (n : ℕ). AreRuns (EndIf (IsWhole n)) f (place run.opening (map event_of e)).tables ss es) (sym same) more))
before-more f t s ss e es accounts status ended (inr (is, same)) run all more =
    subst (λ (xs : List (List Declared)). AreRuns (EndIf (IsWhole ended)) f t (s ∷ ss) xs) (sym is) (no-run (EndIf (IsWhole ended)) f t (s ∷ ss))
