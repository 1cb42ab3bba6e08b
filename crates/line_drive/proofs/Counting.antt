-- The answers of each session are counted.
use Rattle.std.proofs.Common.{◌≡◌, ◌≤◌, ◌<◌, ℕ, zero, suc, ◌+◌, ◌++◌, ◌∷◌, [], ◌==◌, Bool, false, List, length, refl, ◌∙◌, sym, ap, subst, arith, Some, slice_get, slice_set, slice_index_or, drop, map, inl, inr}
use Rattle.std.proofs.lemmas.Bool.{cases_Bool, eqb-true}
use Rattle.std.proofs.lemmas.Option.{same_Some}
use Rattle.rdb_types.specs.declared.session.Cause.{Cause}
use Rattle.rdb_account.specs.declared.event.Event.{Event as Declared}
use Rattle.rdb_account.specs.Events.{Event, Died, event_of}
use Rattle.rdb_drive.specs.Boards.{Mark, Says, Does, Other, AllNobodys, IsSession, answers, answers_by}
use Rattle.line_cluster.specs.declared.sessions.Turn.{Turn}
use Rattle.line_cluster.specs.declared.sessions.Turn.TheVariants as turn
use Rattle.line_cluster.specs.Turned.{Sessions, Came, DeathCame, Grows, RecoveryCame, mark_of}
use Rattle.line_cluster.proofs.Coming.{fallen-grows, still}
use Rattle.line_drive.specs.Boards.{marks_of}
use Rattle.line_drive.specs.Turns.{AreCounted, IsDriven}
use Rattle.line_drive.proofs.Marks.{count-few, count-more, count-other, count-own, length-events, length-marks, marks-since}

came-grows : (stops : ℕ → Bool) (s : ℕ) (old new : Sessions) (t : Turn) → Came stops s old new t → Grows s old.events new.events
came-grows stops s old new turn.Moved g = g.events
came-grows stops s old new turn.Stopped g = g.1.events
came-grows stops s old new turn.Died d = fallen-grows stops s old new d
came-grows stops s old new (turn.Asleep u) g = (still stops s old new (ap (λ (c : Sessions). c.members) g.0) (ap (λ (c : Sessions). c.events) g.0)).events
came-grows stops s old new turn.Frozen g = (still stops s old new (ap (λ (c : Sessions). c.members) g.0) (ap (λ (c : Sessions). c.events) g.0)).events
came-grows stops s old new turn.Ended g = (still stops s old new (ap (λ (c : Sessions). c.members) g.0) (ap (λ (c : Sessions). c.events) g.0)).events

length-append : {A : Type 0} (xs ys : List A) → length (xs ++ ys) ≡ length xs + length ys
length-append [] ys = omega arith
length-append (x ∷ xs) ys = let more = length-append xs ys in omega (arith, more)

-- no event goes
pub no-fewer : (stops : ℕ → Bool) (s : ℕ) (old new : Sessions) (t : Turn) → Came stops s old new t → length old.events ≤ length new.events
no-fewer stops s old new t came =
    let g = came-grows stops s old new t came in
    let e = length-events new.events in
    let f = length-events old.events in
    let h = ap length g.grown in
    let k = length-append (map event_of old.events) g.more in
    omega (arith, e, f, h, k)

index-got : (xs : List ℕ) (i x : ℕ) → slice_get xs i ≡ Some x → slice_index_or xs i 0 ≡ x
index-got [] i x h = cc h
index-got (y ∷ ys) zero x h = same_Some y x h
index-got (y ∷ ys) (suc i) x h = index-got ys i x h

pub counted-at : (sessions s : ℕ) (counts : List ℕ) (events : List Declared) → IsSession sessions s → AreCounted sessions counts events → slice_index_or counts s 0 ≡ answers_by s (marks_of events)
counted-at sessions s counts events session all = index-got counts s (answers_by s (marks_of events)) (all s session)

pub set-here : {A : Type 0} (xs : List A) (i : ℕ) (x y : A) → slice_get xs i ≡ Some y → slice_get (slice_set xs i x) i ≡ Some x
set-here [] i x y h = cc h
set-here (z ∷ zs) zero x y h = refl
set-here (z ∷ zs) (suc i) x y h = set-here zs i x y h

set-there : {A : Type 0} (xs : List A) (i j : ℕ) (x : A) → (i == j) ≡ false → slice_get (slice_set xs i x) j ≡ slice_get xs j
set-there [] i j x h = refl
set-there (z ∷ zs) zero zero x h = absurd (same h)
  where
    same : (0 == 0) ≡ false → ⊥
    same h = grind arith
set-there (z ∷ zs) zero (suc j) x h = refl
set-there (z ∷ zs) (suc i) zero x h = refl
set-there (z ∷ zs) (suc i) (suc j) x h = set-there zs i j x (less i j h)
  where
    less : (i j : ℕ) → (suc i == suc j) ≡ false → (i == j) ≡ false
    less i j h = grind arith

pub driven-on : (stops : ℕ → Bool) (sessions s : ℕ) (counts : List ℕ) (old new : Sessions) (t : Turn) (n : ℕ) → IsSession sessions s → IsDriven sessions counts old → Came stops s old new t → n ≡ answers (marks_of (drop (length old.events) new.events)) →
    IsDriven sessions (slice_set counts s (slice_index_or counts s 0 + n)) new
driven-on stops sessions s counts old new t n session d came is = record {
  few = d.few;
  counted = λ u in-run. elim (cases_Bool (s == u)) [
    | inl same ↦ subst (λ (v : ℕ). slice_get (slice_set counts s (slice_index_or counts s 0 + n)) v ≡ Some (answers_by v (marks_of new.events))) (eqb-true s u same) mine
    | inr other ↦ (set-there counts s u (slice_index_or counts s 0 + n) other ∙ (d.counted u in-run ∙ ap Some (theirs u other)))
  ];
}
  where
    g : Grows s old.events new.events
    g = came-grows stops s old new t came

    since : n ≡ answers (map mark_of g.more)
    since = is ∙ ap answers (marks-since old.events new.events g.more g.grown)

    mine-count : slice_index_or counts s 0 + n ≡ answers_by s (marks_of new.events)
    mine-count =
        let a = counted-at sessions s counts old.events session d.counted in
        let b = count-more s old.events new.events g.more g.grown in
        let c = count-own s (map mark_of g.more) g.of_s in
        let e = since in
        omega (arith, a, b, c, e)

    mine : slice_get (slice_set counts s (slice_index_or counts s 0 + n)) s ≡ Some (answers_by s (marks_of new.events))
    mine = set-here counts s (slice_index_or counts s 0 + n) (answers_by s (marks_of old.events)) (d.counted s session) ∙ ap Some mine-count

    theirs : (u : ℕ) → (s == u) ≡ false → answers_by u (marks_of old.events) ≡ answers_by u (marks_of new.events)
    theirs u other =
        let b = count-more u old.events new.events g.more g.grown in
        let c = count-other s u (map mark_of g.more) g.of_s other in
        omega (arith, b, c)

-- a count is a number of events
pub count-fits : (stops : ℕ → Bool) (sessions s : ℕ) (counts : List ℕ) (old new : Sessions) (t : Turn) (n bound : ℕ) → IsSession sessions s → IsDriven sessions counts old → Came stops s old new t → n ≡ answers (marks_of (drop (length old.events) new.events)) →
    length new.events < bound → slice_index_or counts s 0 + n < bound
count-fits stops sessions s counts old new t n bound session d came is few =
    let g = came-grows stops s old new t came in
    let a = counted-at sessions s counts old.events session d.counted in
    let b = count-more s old.events new.events g.more g.grown in
    let c = count-own s (map mark_of g.more) g.of_s in
    let e = is ∙ ap answers (marks-since old.events new.events g.more g.grown) in
    let f = count-few s (marks_of new.events) in
    let h = length-marks new.events in
    let k = length-events new.events in
    omega (arith, a, b, c, e, f, h, k, few)

-- ---- what is no answer counts for nobody

counted-grown : (sessions : ℕ) (counts : List ℕ) (old new : List Declared) (more : List Event) → map event_of new ≡ map event_of old ++ more → ((u : ℕ) → answers_by u (map mark_of more) ≡ 0) → AreCounted sessions counts old → AreCounted sessions counts new
counted-grown sessions counts old new more grown none counted u in-run =
    let e : answers_by u (marks_of old) ≡ answers_by u (marks_of new) = (let a = count-more u old new more grown in let b = none u in omega (arith, a, b)) in
    counted u in-run ∙ ap Some e

counted-same : (sessions : ℕ) (counts : List ℕ) (old new : List Declared) → new ≡ old → AreCounted sessions counts old → AreCounted sessions counts new
counted-same sessions counts old new same counted = subst (λ (es : List Declared). AreCounted sessions counts es) (sym same) counted

nobodys-count : (u : ℕ) (ms : List Mark) → AllNobodys ms → answers_by u ms ≡ 0
nobodys-count u [] h = refl
nobodys-count u (Says t ∷ ms) h = absurd h.0
nobodys-count u (Does t ∷ ms) h = absurd h.0
nobodys-count u (Other ∷ ms) h = let more = nobodys-count u ms h.1 in omega (arith, more)

events-same : (old new : Sessions) → new ≡ old → new.events ≡ old.events
events-same old new same = ap (λ (c : Sessions). c.events) same

pub driven-dying : (stops : ℕ → Bool) (sessions s : ℕ) (cause : Cause) (counts : List ℕ) (old new : Sessions) → IsDriven sessions counts old → DeathCame stops s cause old new → IsDriven sessions counts new
driven-dying stops sessions s cause counts old new d came = record { few = d.few; counted = by came }
  where
    by : DeathCame stops s cause old new → AreCounted sessions counts new.events
    by (inl h) = counted-same sessions counts old.events new.events (events-same old new h.0) d.counted
    by (inr h) = counted-grown sessions counts old.events new.events (Died s cause ∷ []) h.grown (λ u. refl) d.counted

pub driven-recovering : (sessions : ℕ) (counts : List ℕ) (old new : Sessions) (t : Turn) → IsDriven sessions counts old → RecoveryCame old new t → IsDriven sessions counts new
driven-recovering sessions counts old new t d came = record { few = d.few; counted = by t came }
  where
    by : (t : Turn) → RecoveryCame old new t → AreCounted sessions counts new.events
    by turn.Moved r = counted-grown sessions counts old.events new.events r.more r.grown (λ u. nobodys-count u (map mark_of r.more) r.nobodys) d.counted
    by (turn.Asleep u) r = absurd r
    by turn.Died r = absurd r
    by turn.Frozen r = absurd r
    by turn.Ended r = counted-same sessions counts old.events new.events (events-same old new r.0) d.counted
    by turn.Stopped r = counted-same sessions counts old.events new.events r.events d.counted
