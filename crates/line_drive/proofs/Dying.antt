-- Deaths, recoveries and the end are what drivers want of them.
use Rattle.std.proofs.Common.{◌≡◌, ◌≤◌, ◌<◌, ◌-◌, ◌+◌, ℕ, zero, suc, ◌∷◌, [], ◌&&◌, not, nat_lt, Bool, true, false, List, length, refl, ◌∙◌, sym, ap, subst, arith, map, Some, slice_get, slice_set, ◌⊎◌, inl, inr}
use Rattle.std.specs.List.{AllByRecursion, Contains, filter}
use Rattle.std.proofs.lemmas.Bool.{false≢true, and_parts}
use Rattle.std.proofs.lemmas.List.Elements.{All-contains, All-from_recursion}
use Rattle.rdb_types.specs.declared.session.Cause.{Cause}
use Rattle.rdb_types.specs.declared.session.Cause.TheVariants.{Gate}
use Rattle.rdb_account.specs.Events.{Died, event_of}
use Rattle.rdb_account.specs.Places.{Opening, place}
use Rattle.rdb_drive.specs.Boards.{AllEnded, AtMost, Does, Less}
use Rattle.rdb_drive.specs.Orders.{upward}
use Rattle.rdb_drive.specs.Steps.{DeathOf, Goes, IsAwake, IsQuiet, RecoveryOf}
use Rattle.rdb_drive.specs.declared.driven.Step.TheVariants as step
use Rattle.lock_tree_laws.specs.Forest.{IsWhole}
use Rattle.line_store.specs.Seats.{Seat}
use Rattle.session_states.specs.declared.stage.Life.{Life}
use Rattle.session_states.specs.declared.stage.Life.TheVariants.{Alive, Dead, Gone}
use Rattle.session_states.specs.declared.stage.Member.{Member}
use Rattle.session_stands.specs.Sessions.{AreSeated, member_at}
use Rattle.session_measure.specs.Weights.{life_left}
use Rattle.line_cluster.specs.declared.sessions.Turn.{Turn}
use Rattle.line_cluster.specs.declared.sessions.Turn.TheVariants as turn
use Rattle.line_cluster.specs.Deaths.{is_stop, lives_in}
use Rattle.line_cluster.specs.lent_members.Going.{is_alive_life, is_dead, is_dead_life, is_over, with_life}
use Rattle.line_cluster.specs.Measured.{IsBounded}
use Rattle.line_cluster.specs.Turned.{Sessions, DeathCame, HasNothingLeft, HaveEnded, IsAtEnd, IsDeath, IsHalt, IsRecovery, RecoveryCame, mark_of}
use Rattle.line_drive.specs.Boards.{board_of, has_ended, marks_of, mortals_of}
use Rattle.line_drive.specs.Turns.{step_for}
use Rattle.line_cluster.proofs.Room.{lives-moved}
use Rattle.line_drive.proofs.Awake.{awake}
use Rattle.line_drive.proofs.Counting.{set-here}
use Rattle.line_drive.proofs.Marks.{marks-grown}
use Rattle.line_drive.proofs.Turning.{append-none, ended-beside, fewer-lives, nearer-lives, rests-grown, rests-now, quiet, two-steps, unfinished-at}

-- ---- how much may still come

fewer-behind : (stops : ℕ → Bool) (s : ℕ) (cause : Cause) (old new : Sessions) → IsDeath stops s cause old new → lives_in new.members < lives_in old.members
fewer-behind stops s cause old new d =
    let e = lives-moved old.members (s - 1) d.before (with_life Dead d.before) d.found in
    let f = two-steps (stops s) d.before d.unfinished in
    let g = ap lives_in d.is in
    omega (arith, e, f, g)

-- one that awaits its recovery hasn't ended
dead-unfinished : (stops : Bool) (m : Member) → m.life ≡ Dead → has_ended stops (Some m) ≡ false
dead-unfinished stops m h = ap (λ (l : Life). is_over stops m l && not (is_dead_life l)) h

module _ (told : Type 0) (o : Opening) (sessions : ℕ) (old new : Sessions) (before : IsBounded old.measure) (bound : IsBounded new.measure)
    (count : length new.members ≡ sessions) (seated : new.halted ≡ false → (stand : ℕ → Seat) × AreSeated stand new.locks new.members) (whole : IsWhole new.locks) where
  awake-now : IsAwake sessions (board_of told o new)
  awake-now = awake told o new sessions seated whole count

  -- nothing changed
  same-goes : new ≡ old → Goes (board_of told o old) (board_of told o new) []
  same-goes same = subst (λ (c : Sessions). Goes (board_of told o old) (board_of told o c) []) (sym same)
      (record { marks = sym (append-none (marks_of old.events)); rests = λ n t within rests. rests; ended = λ t e. e })

  halt-goes : IsHalt old new → Goes (board_of told o old) (board_of told o new) []
  halt-goes h = record {
    marks = ap marks_of h.events ∙ sym (append-none (marks_of old.events));
    rests = λ n t within rests given on. absurd (false≢true (sym on ∙ h.halted));
    ended = λ t e. ap (λ (ms : List Member). has_ended (o.stops t) (member_at ms t)) h.members ∙ e;
  }

  -- ---- deaths

  module _ (s : ℕ) (first : 1 ≤ s) (cause : Cause) (over : told → new.halted ≡ false → IsAtEnd o.stops s new → HasNothingLeft o (place o (map event_of new.events)) s) where
    same-less : new ≡ old → IsQuiet s (board_of told o old) (board_of told o new)
    same-less same = subst (λ (c : Sessions). IsQuiet s (board_of told o old) (board_of told o c)) (sym same) (quiet s (board_of told o old))

    died-not : new ≡ old → IsAtEnd o.stops s old → DeathOf sessions s (board_of told o old) (board_of told o new)
    died-not same end = record {
      more = [];
      goes = same-goes same;
      of_s = tt;
      none = refl;
      rests_now = λ given on. rests-now o new.events s (inr (over given on (subst (λ (c : Sessions). IsAtEnd o.stops s c) (sym same) end)));
      less = inr (same-less same);
      awake = awake-now;
    }

    died-stopped : new ≡ old → old.halted ≡ true → DeathOf sessions s (board_of told o old) (board_of told o new)
    died-stopped same stopped = record {
      more = [];
      goes = same-goes same;
      of_s = tt;
      none = refl;
      rests_now = λ given on. absurd (false≢true (sym on ∙ (ap (λ (c : Sessions). c.halted) same ∙ stopped)));
      less = inr (same-less same);
      awake = awake-now;
    }

    died : IsDeath o.stops s cause old new → DeathOf sessions s (board_of told o old) (board_of told o new)
    died d = record {
      more = Does s ∷ [];
      goes = record {
        marks = marks-grown old.events new.events (Died s cause ∷ []) d.grown;
        rests = λ n t within rests given on. rests-grown o old.events new.events (Died s cause ∷ []) d.grown n t within (rests given d.going);
        ended = ended-beside o.stops old.members new.members (s - 1) d.before (with_life Dead d.before) d.found (unfinished-at o.stops s d.before first d.unfinished) d.is;
      };
      of_s = (refl, tt);
      none = refl;
      rests_now = λ given on. rests-now o new.events s (inr (over given on (record {
        member = with_life Dead d.before;
        found = subst (λ (ms : List Member). slice_get ms (s - 1) ≡ Some (with_life Dead d.before)) (sym d.is) (set-here old.members (s - 1) (with_life Dead d.before) d.before d.found);
        over = refl;
      })));
      less = inl (fewer-lives old new before bound d.going (inr (fewer-behind o.stops s cause old new d)));
      awake = awake-now;
    }

    pub dies : DeathCame o.stops s cause old new → DeathOf sessions s (board_of told o old) (board_of told o new)
    dies (inl (same, inl stopped)) = died-stopped same stopped
    dies (inl (same, inr end)) = died-not same end
    dies (inr d) = died d

  -- ---- recoveries

  -- who is recovered has ended, and else its recovery goes on
  gone-or-dead : (r : IsRecovery old new) → (l : Life) → r.life ≡ l → is_alive_life l ≡ false → (lives_in new.members < lives_in old.members) ⊎ (lives_in new.members ≡ lives_in old.members)
  gone-or-dead r l is dead =
      let e = lives-moved old.members r.at r.before (with_life r.life r.before) r.found in
      let f = ap life_left r.died in
      let g = ap lives_in r.is in
      by l is dead e f g
    where
      by : (l : Life) → r.life ≡ l → is_alive_life l ≡ false → lives_in (slice_set old.members r.at (with_life r.life r.before)) + life_left r.before.life ≡ lives_in old.members + life_left r.life → life_left r.before.life ≡ 1 →
          lives_in new.members ≡ lives_in (slice_set old.members r.at (with_life r.life r.before)) → (lives_in new.members < lives_in old.members) ⊎ (lives_in new.members ≡ lives_in old.members)
      by Alive is dead e f g = absurd (false≢true (sym dead))
      by Dead is dead e f g = let h = ap life_left is in inr (omega (arith, e, f, g, h))
      by Gone is dead e f g = let h = ap life_left is in inl (omega (arith, e, f, g, h))

  pub recovers : {P : Type 0} → old.halted ≡ false → IsRecovery old new → Less new.measure old.measure → RecoveryOf {P = P} sessions (board_of told o old) (board_of told o new) step.Moved
  recovers going r less = record {
    more = map mark_of r.more;
    goes = record {
      marks = marks-grown old.events new.events r.more r.grown;
      rests = λ n t within rests given on. rests-grown o old.events new.events r.more r.grown n t within (rests given going);
      ended = ended-beside o.stops old.members new.members r.at r.before (with_life r.life r.before) r.found (dead-unfinished (o.stops (suc r.at)) r.before r.died) r.is;
    };
    nobodys = r.nobodys;
    tells = elim (gone-or-dead r r.life refl r.dead) [
      | inl fewer ↦ fewer-lives old new before bound going (inr fewer)
      | inr same ↦ nearer-lives old new before bound going same less
    ];
    awake = awake-now;
  }

  pub recovers-none : {P : Type 0} → RecoveryCame old new turn.Ended → RecoveryOf {P = P} sessions (board_of told o old) (board_of told o new) step.Ended
  recovers-none h = record {
    more = [];
    goes = same-goes h.0;
    nobodys = tt;
    tells = (ap (λ (n : ℕ). nat_lt 0 n) h.1, subst (λ (c : Sessions). AtMost (board_of told o c).measure (board_of told o old).measure) (sym h.0) (inl refl));
    awake = awake-now;
  }

  pub recovery-halts : {P : Type 0} → old.halted ≡ false → IsHalt old new → RecoveryOf {P = P} sessions (board_of told o old) (board_of told o new) step.Stopped
  recovery-halts going h = record {
    more = [];
    goes = halt-goes h;
    nobodys = tt;
    tells = (h.halted, inr (fewer-lives old new before bound going (inl h.halted)));
    awake = awake-now;
  }

  pub recovered : {P : Type 0} → (t : Turn) → old.halted ≡ false → RecoveryCame old new t → (t ≡ turn.Moved → Less new.measure old.measure) → RecoveryOf {P = P} sessions (board_of told o old) (board_of told o new) (step_for t)
  recovered turn.Moved going came nearer = recovers going came (nearer refl)
  recovered (turn.Asleep t) going came nearer = absurd came
  recovered turn.Died going came nearer = absurd came
  recovered turn.Frozen going came nearer = absurd came
  recovered turn.Ended going came nearer = recovers-none came
  recovered turn.Stopped going came nearer = recovery-halts going came

-- no session goes on
pub recovery-spent : {P : Type 0} (told : Type 0) (o : Opening) (sessions : ℕ) (c : Sessions) → c.halted ≡ true → length c.members ≡ sessions →
    (c.halted ≡ false → (stand : ℕ → Seat) × AreSeated stand c.locks c.members) → IsWhole c.locks → RecoveryOf {P = P} sessions (board_of told o c) (board_of told o c) step.Stopped
recovery-spent told o sessions c stops count seated whole = record {
  more = [];
  goes = record { marks = sym (append-none (marks_of c.events)); rests = λ n t within rests. rests; ended = λ t e. e };
  nobodys = tt;
  tells = (stops, inl refl);
  awake = awake told o c sessions seated whole count;
}

-- ---- the end

got-within : {A : Type 0} (xs : List A) (i : ℕ) (x : A) → slice_get xs i ≡ Some x → suc i ≤ length xs
got-within [] i x h = cc h
got-within (y ∷ ys) zero x h = omega arith
got-within (y ∷ ys) (suc i) x h = let k = got-within ys i x h in omega (arith, k)

pub not-true : (b : Bool) → not b ≡ true → b ≡ false
not-true true h = absurd (false≢true h)
not-true false h = refl

pub all-ended : (told : Type 0) (o : Opening) (c : Sessions) (sessions : ℕ) → length c.members ≡ sessions → AllEnded sessions (board_of told o c) → HaveEnded o.stops c.members
all-ended told o c sessions count ended i m found =
    let k = got-within c.members i m found in
    let e = and_parts (is_over (o.stops (suc i)) m m.life) (not (is_dead m)) (ap (has_ended (o.stops (suc i))) (sym found) ∙ ended (suc i) (omega arith) (subst (λ (n : ℕ). suc i ≤ n) count k)) in
    (e.0, not-true (is_dead m) e.1)

-- ---- who may die

passing : (p : ℕ → Bool) (xs : List ℕ) → AllByRecursion (λ x. p x ≡ true) (filter p xs)
passing p [] = tt
passing p (x ∷ xs) = by (p x) refl (passing p xs)
  where
    by : (b : Bool) → p x ≡ b → AllByRecursion (λ x. p x ≡ true) (filter p xs) → AllByRecursion (λ x. p x ≡ true) (filter p (x ∷ xs))
    by true e more = rw e (e, more)
    by false e more = rw e more

pub may-die : (o : Opening) (sessions s : ℕ) → Contains (mortals_of o sessions) s → (o.may_die s Gate && not (is_stop Gate)) ≡ true
may-die o sessions s mortal =
    ap (λ (b : Bool). b && true) (All-contains (λ t. o.may_die t Gate ≡ true) (mortals_of o sessions) s (All-from_recursion (λ t. o.may_die t Gate ≡ true) (mortals_of o sessions) (passing (λ t. o.may_die t Gate) (upward 1 sessions))) mortal)
