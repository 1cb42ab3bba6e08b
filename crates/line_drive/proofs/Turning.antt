-- A turn of the sessions is a step as drivers want it.
use Rattle.std.proofs.Common.{◌≡◌, ◌≤◌, ◌<◌, ◌-◌, if◌then◌else◌, ℕ, zero, suc, ◌+◌, ◌++◌, ◌∷◌, [], ◌&&◌, ◌||◌, not, Bool, true, false, List, length, refl, ◌∙◌, sym, ap, subst, arith, map, Some, slice_get, slice_set, ◌⊎◌, inl, inr, drop}
use Rattle.std.proofs.lemmas.Bool.{false≢true}
use Rattle.std.proofs.lemmas.Option.{same_Some}
use Rattle.rdb_account.specs.declared.event.Event.{Event as Declared}
use Rattle.rdb_account.specs.Events.{Event, event_of}
use Rattle.rdb_account.specs.Places.{Opening, place}
use Rattle.rdb_drive.specs.Boards.{answers, AtMost, Below, Board, IsSession, Less}
use Rattle.rdb_drive.specs.Steps.{StepOf, Goes, IsAwake, IsQuiet}
use Rattle.rdb_drive.specs.declared.driven.Step.{Step}
use Rattle.rdb_drive.specs.declared.driven.Step.TheVariants as step
use Rattle.rdb_types.specs.declared.session.Session.{Session}
use Rattle.lock_tree_laws.specs.Forest.{IsWhole}
use Rattle.line_store.specs.Seats.{Seat}
use Rattle.session_states.specs.declared.stage.Phase.{Phase}
use Rattle.session_states.specs.declared.stage.Phase.TheVariants.{Outside, Closing, Writing, Reading, Over}
use Rattle.session_states.specs.declared.stage.Life.TheVariants.{Alive}
use Rattle.session_states.specs.declared.stage.Member.{Member}
use Rattle.session_stands.specs.Sessions.{AreSeated, dead_in, member_at}
use Rattle.session_measure.specs.Weights.{life_left}
use Rattle.line_cluster.specs.declared.sessions.Turn.{Turn}
use Rattle.line_cluster.specs.declared.sessions.Turn.TheVariants as turn
use Rattle.line_cluster.specs.line_arms.Going.{is_done}
use Rattle.line_cluster.specs.lent_members.Going.{is_dead, is_over}
use Rattle.line_cluster.specs.stage_steps.Nearer.{is_patient_at}
use Rattle.line_cluster.specs.Deaths.{lives_in}
use Rattle.line_cluster.specs.Measured.{IsBounded}
use Rattle.line_cluster.specs.Turned.{Sessions, GoesFurther, Came, HasFallen, HasNothingLeft, IsAnother, Rests, IsAtEnd, mark_of}
use Rattle.line_cluster.proofs.Stepping.{has-work, work-alive}
use Rattle.line_cluster.proofs.Asleep.{at-number, blocked-sleeps, mourning}
use Rattle.line_cluster.proofs.Coming.{fallen-grows}
use Rattle.line_cluster.proofs.Room.{lives-moved}
use Rattle.line_cluster.specs.Asleep.{is_asleep, is_mourning}
use Rattle.line_drive.specs.Boards.{board_of, has_ended, lives_left, marks_of, RestsAt, RestsBehind}
use Rattle.line_drive.specs.Turns.{IsHeardOf, step_for}
use Rattle.line_drive.proofs.Awake.{awake, undead}
use Rattle.line_drive.proofs.Marks.{marks-grown, marks-since, length-marks, take-grown, take-all}

-- ---- sessions in their places

ended-stays : (stops : ℕ → Bool) (ms : List Member) (i : ℕ) (m n : Member) → slice_get ms i ≡ Some m → has_ended (stops i) (Some m) ≡ false → (j : ℕ) → has_ended (stops j) (slice_get ms j) ≡ true → has_ended (stops j) (slice_get (slice_set ms i n) j) ≡ true
ended-stays stops [] i m n got going j h = h
ended-stays stops (x ∷ xs) zero m n got going zero h = absurd (false≢true (sym going ∙ subst (λ (y : Member). has_ended (stops zero) (Some y) ≡ true) (same_Some x m got) h))
ended-stays stops (x ∷ xs) zero m n got going (suc j) h = h
ended-stays stops (x ∷ xs) (suc i) m n got going zero h = h
ended-stays stops (x ∷ xs) (suc i) m n got going (suc j) h = ended-stays (λ (k : ℕ). stops (suc k)) xs i m n got going j h

-- who hasn't ended is another, and who has ended has so
pub ended-beside : (stops : ℕ → Bool) (old new : List Member) (i : ℕ) (m n : Member) → slice_get old i ≡ Some m → has_ended (stops (suc i)) (Some m) ≡ false → new ≡ slice_set old i n → (t : ℕ) → has_ended (stops t) (member_at old t) ≡ true → has_ended (stops t) (member_at new t) ≡ true
ended-beside stops old new i m n got going is zero h = refl
ended-beside stops old new i m n got going is (suc j) h = subst (λ (ms : List Member). has_ended (stops (suc j)) (slice_get ms j) ≡ true) (sym is) (ended-stays (λ (k : ℕ). stops (suc k)) old i m n got going j h)

pub unfinished : (stops : Bool) (m : Member) → is_over stops m m.life ≡ false → has_ended stops (Some m) ≡ false
unfinished stops m h = ap (λ (b : Bool). b && not (is_dead m)) h

suc-minus : (s : ℕ) → 1 ≤ s → s ≡ suc (s - 1)
suc-minus s h = omega arith

-- by its number
pub unfinished-at : (stops : ℕ → Bool) (s : ℕ) (m : Member) → 1 ≤ s → is_over (stops s) m m.life ≡ false → has_ended (stops (suc (s - 1))) (Some m) ≡ false
unfinished-at stops s m first h = subst (λ (t : ℕ). has_ended (stops t) (Some m) ≡ false) (suc-minus s first) (unfinished (stops s) m h)

ended-on : (stops : ℕ → Bool) (s : ℕ) (old new : Sessions) → 1 ≤ s → GoesFurther stops s old new → (t : ℕ) → has_ended (stops t) (member_at old.members t) ≡ true → has_ended (stops t) (member_at new.members t) ≡ true
ended-on stops s old new first g t h = elim g.members [
  | inl same ↦ subst (λ (ms : List Member). has_ended (stops t) (member_at ms t) ≡ true) (sym same) h
  | inr a ↦ ended-beside stops old.members new.members (s - 1) a.before a.behind a.found (unfinished-at stops s a.before first a.going) a.is t h
]

-- ---- how much may still come

-- fewer may die or be recovered, or no session goes on
pub fewer-lives : (old new : Sessions) → IsBounded old.measure → IsBounded new.measure → old.halted ≡ false → (new.halted ≡ true) ⊎ (lives_in new.members < lives_in old.members) → Below (lives_left new ∷ new.measure) (lives_left old ∷ old.measure)
fewer-lives old new before bound going less = (bound.fits, inl (by old.halted going new.halted refl less, bound.long ∙ sym before.long))
  where
    by : (g : Bool) → g ≡ false → (h : Bool) → new.halted ≡ h → (new.halted ≡ true) ⊎ (lives_in new.members < lives_in old.members) → (if h then 0 else 1 + lives_in new.members) < (if g then 0 else 1 + lives_in old.members)
    by true none h e less = absurd (false≢true (sym none))
    by false none true e less = omega arith
    by false none false e (inl h) = absurd (false≢true (sym e ∙ h))
    by false none false e (inr l) = omega (arith, l)

-- as many may, and what the sessions have before them is less
pub nearer-lives : (old new : Sessions) → IsBounded old.measure → IsBounded new.measure → old.halted ≡ false → lives_in new.members ≡ lives_in old.members → Less new.measure old.measure → Below (lives_left new ∷ new.measure) (lives_left old ∷ old.measure)
nearer-lives old new before bound going same less = by new.halted refl
  where
    by : (h : Bool) → new.halted ≡ h → Below (lives_left new ∷ new.measure) (lives_left old ∷ old.measure)
    by true e = fewer-lives old new before bound going (inl e)
    by false e = (
      bound.fits,
      inr (
        ap (λ (b : Bool). if b then 0 else 1 + lives_in new.members) e ∙ (ap (λ (n : ℕ). 1 + n) same ∙ sym (ap (λ (b : Bool). if b then 0 else 1 + lives_in old.members) going)),
        less,
      ),
    )

-- a turn leaves as many
same-lives : (stops : ℕ → Bool) (s : ℕ) (old new : List Member) → (new ≡ old) ⊎ IsAnother stops s old new → lives_in new ≡ lives_in old
same-lives stops s old new (inl same) = ap lives_in same
same-lives stops s old new (inr a) =
    let e = lives-moved old (s - 1) a.before a.behind a.found in
    let f = ap life_left a.lives in
    let g = ap lives_in a.is in
    omega (arith, e, f, g)

-- a session that has something left to do lives
pub two-steps : (stops : Bool) (m : Member) → is_over stops m m.life ≡ false → life_left m.life ≡ 2
two-steps stops m h = ap life_left (work-alive stops m h)

-- and one fewer lives where it dies
fewer-fallen : (stops : ℕ → Bool) (s : ℕ) (old new : Sessions) → HasFallen stops s old new → lives_in new.members < lives_in old.members
fewer-fallen stops s old new d =
    let e = lives-moved old.members (s - 1) d.before d.behind d.found in
    let f = two-steps (stops s) d.before d.going in
    let g = ap lives_in d.is in
    let h = ap life_left d.died in
    omega (arith, e, f, g, h)

-- who waits has something left to do
patient-at : (m : Member) (x : Phase) → is_patient_at x ≡ true → is_done m.left x ≡ false
patient-at m (Writing w) h = refl
patient-at m Outside h = absurd (false≢true h)
patient-at m Closing h = absurd (false≢true h)
patient-at m (Reading r) h = absurd (false≢true h)
patient-at m Over h = absurd (false≢true h)

patient-going : (stops : Bool) (m : Member) → m.life ≡ Alive → is_patient_at m.phase ≡ true → is_over stops m m.life ≡ false
patient-going stops m lives h = has-work stops m lives (patient-at m m.phase h)

-- ---- steps

pub rests-grown : (o : Opening) (old new : List Declared) (more : List Event) → map event_of new ≡ map event_of old ++ more → (n t : ℕ) → n ≤ length (marks_of old) → RestsBehind o old n t → RestsBehind o new n t
rests-grown o old new more grown n t within rests =
    subst (λ (es : List Event). RestsAt o (place o es) t) (sym (take-grown n (map event_of old) (map event_of new) more grown (subst (λ (k : ℕ). n ≤ k) (length-marks old) within))) rests

pub rests-now : (o : Opening) (events : List Declared) (s : ℕ) → RestsAt o (place o (map event_of events)) s → RestsBehind o events (length (marks_of events)) s
rests-now o events s h = rw (length-marks events) (rw (take-all (map event_of events)) h)

goes : (told : Type 0) (o : Opening) (s : ℕ) (old new : Sessions) → 1 ≤ s → old.halted ≡ false → (g : GoesFurther o.stops s old new) → Goes (board_of told o old) (board_of told o new) (map mark_of g.events.more)
goes told o s old new first going g = record {
  marks = marks-grown old.events new.events g.events.more g.events.grown;
  rests = λ n t within rests given on. rests-grown o old.events new.events g.events.more g.events.grown n t within (rests given going);
  ended = ended-on o.stops s old new first g;
}

pub append-none : {A : Type 0} (xs : List A) → xs ++ [] ≡ xs
append-none [] = refl
append-none (x ∷ xs) = ap (λ ys. x ∷ ys) (append-none xs)

pub quiet : (s : ℕ) (b : Board) → IsQuiet s b b
quiet s b = record { asleep = λ t k h. h; ended = λ t k. refl; measure = inl refl }

-- of a turn whose job isn't lent it hears what it came to
pub heard-of : {P : Type 0} (t : Turn) (count : ℕ) (result : Step P) → result ≡ step_for t → IsHeardOf t count result
heard-of {P} t count result is = subst (λ (r : Step P). IsHeardOf t count r) (sym is) (by t)
  where
    by : (u : Turn) → IsHeardOf {P = P} u count (step_for u)
    by turn.Moved = refl
    by (turn.Asleep s) = refl
    by turn.Died = refl
    by turn.Frozen = refl
    by turn.Ended = refl
    by turn.Stopped = refl

module _ (P : Type 0) (told : Type 0) (o : Opening) (sessions s : ℕ) (old new : Sessions) (session : IsSession sessions s) (going : old.halted ≡ false) (before : IsBounded old.measure) (bound : IsBounded new.measure)
    (count : length new.members ≡ sessions) (seated : new.halted ≡ false → (stand : ℕ → Seat) × AreSeated stand new.locks new.members) (whole : IsWhole new.locks) where
  awake-then : IsAwake sessions (board_of told o new)
  awake-then = awake told o new sessions seated whole count

  pub moved : Came o.stops s old new turn.Moved → Less new.measure old.measure → StepOf {P = P} sessions s (board_of told o old) (board_of told o new) step.Moved
  moved g less = record {
    more = map mark_of g.events.more;
    goes = goes told o s old new session.0 going g;
    of_s = g.events.of_s;
    tells = (nearer-lives old new before bound going (same-lives o.stops s old.members new.members g.members) less, g.events.one);
    awake = awake-then;
  }

  -- and its job was lent
  pub lent : (job : P) → (g : Came o.stops s old new turn.Moved) → Less new.measure old.measure → answers (map mark_of g.events.more) ≡ 0 → StepOf {P = P} sessions s (board_of told o old) (board_of told o new) (step.Compute job)
  lent job g less none = record {
    more = map mark_of g.events.more;
    goes = goes told o s old new session.0 going g;
    of_s = g.events.of_s;
    tells = (nearer-lives old new before bound going (same-lives o.stops s old.members new.members g.members) less, none);
    awake = awake-then;
  }

  -- it died in its turn
  pub fell : Came o.stops s old new turn.Died → StepOf {P = P} sessions s (board_of told o old) (board_of told o new) step.Moved
  fell d =
      let g = fallen-grows o.stops s old new d in
      record {
        more = map mark_of g.more;
        goes = record {
          marks = marks-grown old.events new.events g.more g.grown;
          rests = λ n t within rests given on. rests-grown o old.events new.events g.more g.grown n t within (rests given going);
          ended = ended-beside o.stops old.members new.members (s - 1) d.before d.behind d.found (unfinished-at o.stops s d.before session.0 d.going) d.is;
        };
        of_s = g.of_s;
        tells = (fewer-lives old new before bound going (inr (fewer-fallen o.stops s old new d)), g.one);
        awake = awake-then;
      }

  pub stopped : Came o.stops s old new turn.Stopped → StepOf {P = P} sessions s (board_of told o old) (board_of told o new) step.Stopped
  stopped h = record {
    more = map mark_of h.1.events.more;
    goes = goes told o s old new session.0 going h.1;
    of_s = h.1.events.of_s;
    tells = (h.0, inr (fewer-lives old new before bound going (inl h.0)));
    awake = awake-then;
  }

  -- nothing changed
  same-goes : new ≡ old → Goes (board_of told o old) (board_of told o new) []
  same-goes same = subst (λ (c : Sessions). Goes (board_of told o old) (board_of told o c) []) (sym same)
      (record { marks = sym (append-none (marks_of old.events)); rests = λ n t within rests. rests; ended = λ t e. e })

  same-quiet : new ≡ old → IsQuiet s (board_of told o old) (board_of told o new)
  same-quiet same = subst (λ (c : Sessions). IsQuiet s (board_of told o old) (board_of told o c)) (sym same) (quiet s (board_of told o old))

  pub slept : (t : Session) → (h : Came o.stops s old new (turn.Asleep t)) → (told → Rests o s old (turn.Asleep t)) → StepOf {P = P} sessions s (board_of told o old) (board_of told o new) step.Asleep
  slept t h rests = record {
    more = [];
    goes = same-goes h.0;
    of_s = tt;
    tells = (
      (λ given on. subst (λ (c : Sessions). RestsBehind o c.events (length (marks_of c.events)) s) (sym h.0) (rests-now o old.events s (inl (t.number, rests given)))),
      subst (λ (c : Sessions). (not (c.halted || is_mourning c) && is_asleep c s) ≡ true) (sym h.0) asleep-now,
      subst (λ (c : Sessions). has_ended (o.stops s) (member_at c.members s) ≡ false) (sym h.0)
          (ap (has_ended (o.stops s)) (at-number old.members s session.0 ∙ h.1.found) ∙ unfinished (o.stops s) h.1.member (patient-going (o.stops s) h.1.member h.1.lives h.1.patient)),
      same-quiet h.0,
      refl,
    );
    awake = awake-then;
  }
    where
      asleep-now : (not (old.halted || is_mourning old) && is_asleep old s) ≡ true
      asleep-now = blocked-sleeps old s h.1.member session.0 h.1.going h.1.mourns_none h.1.found h.1.patient t.number h.1.blocked

  pub at-end : (h : Came o.stops s old new turn.Ended) → (told → new.halted ≡ false → IsAtEnd o.stops s new → HasNothingLeft o (place o (map event_of new.events)) s) →
      StepOf {P = P} sessions s (board_of told o old) (board_of told o new) step.Ended
  at-end h rests = record {
    more = [];
    goes = same-goes h.0;
    of_s = tt;
    tells = (
      (λ given on. rests-now o new.events s (inr (rests given on (subst (λ (c : Sessions). IsAtEnd o.stops s c) (sym h.0) h.1)))),
      ap (has_ended (o.stops s)) (at-number old.members s session.0 ∙ h.1.found) ∙ (ap (λ (b : Bool). b && not (is_dead h.1.member)) h.1.over ∙ ap not (undead old.members (s - 1) h.1.member h.2 h.1.found)),
      same-quiet h.0,
      refl,
    );
    awake = awake-then;
  }

  pub froze : (h : Came o.stops s old new turn.Frozen) → StepOf {P = P} sessions s (board_of told o old) (board_of told o new) step.Frozen
  froze h = record {
    more = [];
    goes = same-goes h.0;
    of_s = tt;
    tells = (subst (λ (c : Sessions). is_mourning c ≡ true) (sym h.0) (mourning (dead_in old.members) h.1), subst (λ (c : Sessions). AtMost (board_of told o c).measure (board_of told o old).measure) (sym h.0) (inl refl), refl);
    awake = awake-then;
  }

  pub turned : (t : Turn) → Came o.stops s old new t → (t ≡ turn.Moved → Less new.measure old.measure) → (told → Rests o s old t) →
      (told → new.halted ≡ false → IsAtEnd o.stops s new → HasNothingLeft o (place o (map event_of new.events)) s) → StepOf {P = P} sessions s (board_of told o old) (board_of told o new) (step_for t)
  turned turn.Moved came nearer rests over = moved came (nearer refl)
  turned (turn.Asleep t) came nearer rests over = slept t came rests
  turned turn.Died came nearer rests over = fell came
  turned turn.Frozen came nearer rests over = froze came
  turned turn.Ended came nearer rests over = at-end came over
  turned turn.Stopped came nearer rests over = stopped came

  pub heard : (t : Turn) (count : ℕ) (result : Step P) → IsHeardOf t count result → count ≡ answers (marks_of (drop (length old.events) new.events)) → Came o.stops s old new t → (t ≡ turn.Moved → Less new.measure old.measure) → (told → Rests o s old t) →
      (told → new.halted ≡ false → IsAtEnd o.stops s new → HasNothingLeft o (place o (map event_of new.events)) s) → StepOf {P = P} sessions s (board_of told o old) (board_of told o new) result
  heard t count (step.Compute job) is counted came nearer rests over =
      let g : Came o.stops s old new turn.Moved = subst (λ (u : Turn). Came o.stops s old new u) is.0 came in
      lent job g (nearer is.0) (ap answers (sym (marks-since old.events new.events g.events.more g.events.grown)) ∙ (sym counted ∙ is.1))
  heard t count step.Moved is counted came nearer rests over = rw is (turned t came nearer rests over)
  heard t count step.Asleep is counted came nearer rests over = rw is (turned t came nearer rests over)
  heard t count step.Frozen is counted came nearer rests over = rw is (turned t came nearer rests over)
  heard t count step.Ended is counted came nearer rests over = rw is (turned t came nearer rests over)
  heard t count step.Stopped is counted came nearer rests over = rw is (turned t came nearer rests over)

-- no session goes on
pub spent : (P : Type 0) (told : Type 0) (o : Opening) (sessions s : ℕ) (c : Sessions) → c.halted ≡ true → length c.members ≡ sessions →
    (c.halted ≡ false → (stand : ℕ → Seat) × AreSeated stand c.locks c.members) → IsWhole c.locks → StepOf {P = P} sessions s (board_of told o c) (board_of told o c) step.Stopped
spent P told o sessions s c stops count seated whole = record {
  more = [];
  goes = record { marks = sym (append-none (marks_of c.events)); rests = λ n t within rests. rests; ended = λ t e. e };
  of_s = tt;
  tells = (stops, inl refl);
  awake = awake told o c sessions seated whole count;
}
