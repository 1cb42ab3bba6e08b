-- Of what sessions died, by the accounts of their runs.
use Rattle.std.proofs.Common.{◌≡◌, ◌∙◌, ◌≤◌, ◌+◌, ℕ, Bool, true, false, cond, List, [], ◌∷◌, map, refl, sym, ap, subst, arith}
use Rattle.std.proofs.lemmas.Bool.{false≢true, and_parts}
use Rattle.std.proofs.lemmas.List.Sums.{sum_by-cons}
use Rattle.std.specs.List.{AllByRecursion}
use Rattle.rdb_types.specs.declared.session.Cause.{Cause}
use Rattle.rdb_types.specs.declared.session.Cause.TheVariants.{Device, Gate, Stop, Memory}
use Rattle.rdb_outside.specs.Causes.{Rose}
use Rattle.rdb_meaning.specs.declared.tables.Tables.{Tables}
use Rattle.rdb_account.specs.declared.event.Event.{Event as Declared}
use Rattle.rdb_account.specs.declared.event.Event.TheVariants as event
use Rattle.rdb_account.specs.Events.{Event, Began, Wanted, Got, Demoted, Said, Committed, RolledBack, Died, Recovered, event_of}
use Rattle.rdb_account.specs.Legal.{MayFollow, is_at_end, may_die_of}
use Rattle.rdb_account.specs.Places.{Opening, Place, after, next_item, place, start}
use Rattle.session_states.specs.declared.item_queue.WholeScript.{WholeScript}
use Rattle.line_runs.specs.line_cluster.Deaths.{RoseBy, device_deaths, is_device_death}
use Rattle.line_runs.specs.Openings.{stop_of}
use Rattle.workload_replies.specs.Replies.{has_death}
use Rattle.workload_runs.specs.Among.{may_die_by}
use Rattle.workload_runs.specs.Deaths.{DiesOf, HaveCauses, SomeDied}
use Rattle.workload_runs.specs.Runs.{Frame, AreRuns}
use Rattle.workload_runs.specs.Statuses.{deaths_of_last, last_of}

-- no script of these runs ends in a stop
abbrev pub AreStopless : List (List WholeScript) → Type 0
AreStopless = AllByRecursion (λ scripts. (s : ℕ) → stop_of scripts s ≡ false)

-- ---- one account

module _ (mortals : List ℕ) (Failed : Type 0) (o : Opening) (lets : o.may_die ≡ may_die_by mortals) (stopless : (s : ℕ) → o.stops s ≡ false) where
  -- one that may come here has its cause
  dies-of : (p : Place) (s : ℕ) (cause : Cause) → may_die_of o p s cause ≡ true → (cause ≡ Device → Failed) → DiesOf mortals Failed s cause
  dies-of p s Device may fell = fell refl
  dies-of p s Gate may fell = subst (λ (f : ℕ → Cause → Bool). f s Gate ≡ true) lets may
  dies-of p s Stop may fell = absurd (false≢true (sym (stopless s) ∙ (and_parts (o.stops s) (is_at_end (next_item o p s)) may).0))
  dies-of p s Memory may fell = tt

  -- of a device where one of these failed
  fell-here : (s : ℕ) (cause : Cause) (es : List Event) → (1 ≤ device_deaths (Died s cause ∷ es) → Failed) → cause ≡ Device → Failed
  fell-here s Device es fell is = fell (let one : device_deaths (Died s Device ∷ es) ≡ 1 + device_deaths es = sum_by-cons (λ e. cond (is_device_death e) 1 0) (Died s Device) es in omega (arith, one))
  fell-here s Gate es fell is = absurd (cc)
  fell-here s Stop es fell is = absurd (cc)
  fell-here s Memory es fell is = absurd (cc)

  behind-it : (e : Event) (es : List Event) → 1 ≤ device_deaths es → 1 ≤ device_deaths (e ∷ es)
  behind-it e es some = let more : device_deaths (e ∷ es) ≡ cond (is_device_death e) 1 0 + device_deaths es = sum_by-cons (λ x. cond (is_device_death x) 1 0) e es in omega (arith, more, some)

  pub causes-from : (p : Place) (es : List Event) → (1 ≤ device_deaths es → Failed) → MayFollow o p es → HaveCauses mortals Failed es
  causes-from p [] fell may = tt
  causes-from p (Began s kind ∷ es) fell may = (tt, causes-from (after o p (Began s kind)) es (λ some. fell (behind-it (Began s kind) es some)) may.1)
  causes-from p (Wanted s n asked ∷ es) fell may = (tt, causes-from (after o p (Wanted s n asked)) es (λ some. fell (behind-it (Wanted s n asked) es some)) may.1)
  causes-from p (Got s n ∷ es) fell may = (tt, causes-from (after o p (Got s n)) es (λ some. fell (behind-it (Got s n) es some)) may.1)
  causes-from p (Demoted s n from to ∷ es) fell may = (tt, causes-from (after o p (Demoted s n from to)) es (λ some. fell (behind-it (Demoted s n from to) es some)) may.1)
  causes-from p (Said s item choices reply ∷ es) fell may = (tt, causes-from (after o p (Said s item choices reply)) es (λ some. fell (behind-it (Said s item choices reply) es some)) may.1)
  causes-from p (Committed s moment ∷ es) fell may = (tt, causes-from (after o p (Committed s moment)) es (λ some. fell (behind-it (Committed s moment) es some)) may.1)
  causes-from p (RolledBack s ∷ es) fell may = (tt, causes-from (after o p (RolledBack s)) es (λ some. fell (behind-it (RolledBack s) es some)) may.1)
  causes-from p (Died s cause ∷ es) fell may = (
    dies-of p s cause may.0.1 (fell-here s cause es fell),
    causes-from (after o p (Died s cause)) es (λ some. fell (behind-it (Died s cause) es some)) may.1,
  )
  causes-from p (Recovered s committed moment ∷ es) fell may = (tt, causes-from (after o p (Recovered s committed moment)) es (λ some. fell (behind-it (Recovered s committed moment) es some)) may.1)

-- ---- the last of several

pub causes-of-last : (OfLast : Opening → ℕ → List Event → Type 0) (f : Frame) (mortals : List ℕ) (Failed : Type 0) (t : Tables) (ss : List (List WholeScript)) (accounts : List (List Declared))
    → f.may_die ≡ may_die_by mortals → AreStopless ss → (1 ≤ deaths_of_last accounts → Failed) → AreRuns OfLast f t ss accounts
    → HaveCauses mortals Failed (map event_of (last_of accounts))
causes-of-last OfLast f mortals Failed t ss [] lets stopless fell are = tt
causes-of-last OfLast f mortals Failed t [] (e ∷ es) lets stopless fell are = absurd are
causes-of-last OfLast f mortals Failed t (s ∷ ss) (e ∷ []) lets stopless fell are =
    let run = are.0 in
    causes-from mortals Failed run.opening (run.lets ∙ lets) (λ n. ap (λ (stops : ℕ → Bool). stops n) run.stops ∙ stopless.0 n)
    (start run.opening) (map event_of e) fell run.legal.steps
causes-of-last OfLast f mortals Failed t (s ∷ ss) (e ∷ d ∷ es) lets stopless fell are =
    causes-of-last OfLast f mortals Failed (place are.0.opening (map event_of e)).tables ss (d ∷ es) lets stopless.1 fell are.2

-- a device call failed where faults rose by some
pub fell-by : (n a b : ℕ) → RoseBy n a b → 1 ≤ n → Rose a b
fell-by n a b rose some = omega (arith, rose, some)

-- ---- where somebody died

one-more : (mortals : List ℕ) (Failed : Type 0) (e : Event) (es : List Event) → SomeDied mortals Failed es → SomeDied mortals Failed (e ∷ es)
one-more mortals Failed e es it = record {
  session = it.session;
  cause = it.cause;
  before = e ∷ it.before;
  behind = it.behind;
  is = ap (λ (xs : List Event). e ∷ xs) it.is;
  why = it.why;
}

pub some-died : (mortals : List ℕ) (Failed : Type 0) (es : List Declared) → has_death es ≡ true → HaveCauses mortals Failed (map event_of es) → SomeDied mortals Failed (map event_of es)
some-died mortals Failed [] has causes = absurd (false≢true has)
some-died mortals Failed (event.Began s kind ∷ es) has causes = one-more mortals Failed (event_of (event.Began s kind)) (map event_of es) (some-died mortals Failed es has causes.1)
some-died mortals Failed (event.Wanted s node mode at ∷ es) has causes = one-more mortals Failed (event_of (event.Wanted s node mode at)) (map event_of es) (some-died mortals Failed es has causes.1)
some-died mortals Failed (event.Got s node mode ∷ es) has causes = one-more mortals Failed (event_of (event.Got s node mode)) (map event_of es) (some-died mortals Failed es has causes.1)
some-died mortals Failed (event.Demoted s node from to ∷ es) has causes = one-more mortals Failed (event_of (event.Demoted s node from to)) (map event_of es) (some-died mortals Failed es has causes.1)
some-died mortals Failed (event.Said s item keys reply ∷ es) has causes = one-more mortals Failed (event_of (event.Said s item keys reply)) (map event_of es) (some-died mortals Failed es has causes.1)
some-died mortals Failed (event.Committed s moment ∷ es) has causes = one-more mortals Failed (event_of (event.Committed s moment)) (map event_of es) (some-died mortals Failed es has causes.1)
some-died mortals Failed (event.RolledBack s ∷ es) has causes = one-more mortals Failed (event_of (event.RolledBack s)) (map event_of es) (some-died mortals Failed es has causes.1)
some-died mortals Failed (event.Died s cause ∷ es) has causes = record {
  session = s.number;
  cause = cause;
  before = [];
  behind = map event_of es;
  is = refl;
  why = causes.0;
}
some-died mortals Failed (event.Recovered s committed moment ∷ es) has causes = one-more mortals Failed (event_of (event.Recovered s committed moment)) (map event_of es) (some-died mortals Failed es has causes.1)
