-- What the store shows behind a call.
use Rattle.std.proofs.Common.{◌≡◌, ℕ, true, false, [], Option, Some, None, refl, sym, ap, subst, ◌∙◌, arith, Result, Ok, Err}
use Rattle.line_store.specs.declared.answers.Progress.TheVariants.{Done}
use Rattle.line_store.specs.declared.answers.ReadStop.TheVariants.{NoMemory}
use Rattle.line_store.specs.declared.answers.Fault.{Fault}
use Rattle.line_store.specs.declared.answers.Stepped.{Stepped}
use Rattle.line_store.specs.declared.answers.Stepped.TheVariants.{More, Done as HasDone, Committed, Recovered}
use Rattle.line_store.specs.Seats.{Seat, outside, writing, prepared, committing, rolling_back, closing, IsWriting, IsPrepared, IsAlive, prepared_by, given_back, committing_by, rolled_back, done_at, copied_at, begun}
use Rattle.line_store.specs.Shelves.{Shelf}
use Rattle.line_store.specs.Calls.{Moves, IsCommitted}
use Rattle.line_store.specs.Sights.{Behind, Does, Stays, IsSame, IsBackedBy, Reads, Steps, MayAnswer, stepped_to, bare, seat_or, copier_behind}
use Rattle.line_store.proofs.Begun.{begun-same, done-begins, copier-none}
use Rattle.std.specs.Prelude.{slice_get, is_some}
use Rattle.std.proofs.lemmas.Bool.{true≢false}
use Rattle.rdb_types.specs.declared.session.Moment.{Moment}
use Rattle.memory_store.specs.declared.seat.Seat.{Seat as Held}
use Rattle.memory_store.specs.declared.seat.Seat.TheVariants as held
use Rattle.memory_store.specs.Kept.{Kept, StepsTo, seat_of, seat_at, shelf_of, sight_of, with_seat, copier_of}
use Rattle.memory_store.proofs.Seating.{seat-here, moves-twice, copier-put-twice}
use Rattle.memory_store.proofs.Stepping.{stepped}

pub behind : (k new : Kept) (number : Option ℕ) (R : Shelf → Shelf → Type 0) (h : Shelf) → h ≡ shelf_of k → R (shelf_of k) (shelf_of new) → Behind (sight_of k) (sight_of new) number R h
behind k new number R h is related = record {
  shelf = shelf_of new;
  shown = refl;
  related = subst (λ (x : Shelf). R x (shelf_of new)) (sym is) related;
  lasts = record { since = λ t lines early left. absurd left };
  opens = λ t early was lines left. absurd left;
  backed = λ n t lines early apart was some left. absurd left;
}

-- a crash leaves nothing that could lack a backup
pub is-backed : (k new : Kept) (s : ℕ) → IsBackedBy s (sight_of k) (sight_of new)
is-backed k new s = λ h g number start shown told copies last lines left. absurd left

-- session s moves, and begins the backup of this number or none
pub moved-by : (k new : Kept) (s : ℕ) (seat there : Seat) (R : Shelf → Shelf → Type 0) → Moves s seat (shelf_of k) (shelf_of new) → bare seat ≡ bare there →
    ((n : ℕ) → copier_of new n ≡ copier_behind s (begun (seat_at k.seats s) there) (copier_of k) n) → R (shelf_of k) (shelf_of new) → Does s there R (sight_of k) (sight_of new)
moved-by k new s seat there R moves same copier related = record {
  mine = ap bare moves.mine ∙ same;
  others = λ t apart. ap bare (moves.others.seat t apart);
  steps = λ t apart. refl;
  copier = copier;
  each = λ h shown. behind k new (begun (seat_at k.seats s) there) R h shown related;
}

-- it begins none
pub moved : (k new : Kept) (s : ℕ) (seat there : Seat) (R : Shelf → Shelf → Type 0) → Moves s seat (shelf_of k) (shelf_of new) → bare seat ≡ bare there →
    ((n : ℕ) → copier_of new n ≡ copier_of k n) → begun (seat_at k.seats s) there ≡ None → R (shelf_of k) (shelf_of new) → Does s there R (sight_of k) (sight_of new)
moved k new s seat there R moves same alike none related =
    moved-by k new s seat there R moves same (λ n. alike n ∙ sym (copier-none s (begun (seat_at k.seats s) there) (copier_of k) n none)) related

-- no session's seat changes
pub seated : (k new : Kept) (s : ℕ) (R : Shelf → Shelf → Type 0) → ((t : ℕ) → seat_at new.seats t ≡ seat_at k.seats t) → ((n : ℕ) → copier_of new n ≡ copier_of k n) → R (shelf_of k) (shelf_of new) → Does s (seat_at k.seats s) R (sight_of k) (sight_of new)
seated k new s R same alike related = record {
  mine = ap bare (same s);
  others = λ t apart. ap bare (same t);
  steps = λ t apart. refl;
  copier = λ n. alike n ∙ sym (copier-none s (begun (seat_at k.seats s) (seat_at k.seats s)) (copier_of k) n (begun-same (copied_at (seat_at k.seats s))));
  each = λ h shown. behind k new (begun (seat_at k.seats s) (seat_at k.seats s)) R h shown related;
}

pub stays : (k new : Kept) (s : ℕ) → shelf_of new ≡ shelf_of k → ((n : ℕ) → copier_of new n ≡ copier_of k n) → Stays s (sight_of k) (sight_of new)
stays k new s is alike = seated k new s IsSame (λ t. ap (λ (h : Shelf). h.seat t) is) alike is

still : (k : Kept) (s : ℕ) → Moves s (seat_at k.seats s) (shelf_of k) (shelf_of k)
still k s = record {
  now = refl;
  mine = refl;
  others = record { seat = λ t apart. refl; steps = λ t apart. refl; later = record { later = omega arith; no_fewer = omega arith } };
  space = record { limits = refl; taken = λ file page. refl; snaps = omega arith; slots = omega arith };
}

pub is-read : (k : Kept) (s : ℕ) → Does s (seat_at k.seats s) (Reads s (Ok Done)) (sight_of k) (sight_of k)
is-read k s = seated k k s (Reads s (Ok Done)) (λ t. refl) (λ n. refl) (still k s)

pub is-unread : (k : Kept) (s : ℕ) → Does s (seat_at k.seats s) (Reads s (Err NoMemory)) (sight_of k) (sight_of k)
is-unread k s = seated k k s (Reads s (Err NoMemory)) (λ t. refl) (λ n. refl) (still k s)

-- ---- seats without lines

pub bare-prepared : (seat : Seat) → IsWriting seat → bare (prepared_by seat) ≡ prepared []
bare-prepared (writing ws) h = refl
bare-prepared _ h = absurd h

pub bare-given-back : (seat : Seat) → IsPrepared seat → bare (given_back seat) ≡ writing []
bare-given-back (prepared ws) h = refl
bare-given-back _ h = absurd h

pub bare-commits : (seat : Seat) → IsPrepared seat → bare (committing_by seat) ≡ committing []
bare-commits (prepared ws) h = refl
bare-commits _ h = absurd h

pub bare-undone : (seat : Seat) → IsWriting seat → bare (rolled_back seat) ≡ rolling_back []
bare-undone (writing ws) h = refl
bare-undone _ h = absurd h

-- ---- steps

pub landed : (k new : Kept) (s : ℕ) (moment : Moment) → IsCommitted s moment.number (shelf_of k) (shelf_of new) → ((n : ℕ) → copier_of new n ≡ copier_of k n) → Does s closing (Steps s (Ok (Committed moment))) (sight_of k) (sight_of new)
landed k new s moment is alike = record {
  mine = ap bare is.commits.mine;
  others = λ t apart. ap bare (is.commits.others.seat t apart);
  steps = λ t apart. refl;
  copier = alike;
  each = λ h shown. behind k new None (Steps s (Ok (Committed moment))) h shown is;
}

module _ (k mid new : Kept) (s : ℕ) (was h : Held) where
  pub may-answer : (answer : Stepped) → slice_get k.seats s ≡ Some was → StepsTo (seat_of was) (seat_of h) answer → MayAnswer (seat_at k.seats s) (Ok answer)
  may-answer More had steps = absurd steps
  may-answer HasDone had steps = ap is_some (ap done_at (seat-here k.seats s was had) ∙ steps)
  may-answer (Committed moment) had steps = absurd steps
  may-answer (Recovered is_committed moment) had steps = λ alive. subst (λ (x : Seat). IsAlive x) (seat-here k.seats s was had ∙ steps.3.2) alive

  pub came : (answer : Stepped) → slice_get k.seats s ≡ Some was → StepsTo (seat_of was) (seat_of h) answer → mid ≡ with_seat s held.Outside k → new ≡ with_seat s h mid → slice_get new.seats s ≡ Some h →
      Does s (stepped_to (seat_at k.seats s) (Ok answer)) (Steps s (Ok answer)) (sight_of k) (sight_of new)
  came More had steps first then here = absurd steps
  came HasDone had steps first then here =
      moved k new s (seat_of h) (seat_or (seat_at k.seats s) (done_at (seat_at k.seats s))) (Steps s (Ok HasDone)) (moves-twice k mid new s h (seat_of h) first then here refl)
      (ap (λ (x : Option Seat). bare (seat_or (seat_at k.seats s) x)) (sym (ap done_at (seat-here k.seats s was had) ∙ steps)))
      (copier-put-twice k mid new s held.Outside h first then) (done-begins (seat_at k.seats s))
      (stepped k mid new s was h HasDone had steps first then here)
  came (Committed moment) had steps first then here = absurd steps
  came (Recovered true moment) had steps first then here = absurd (true≢false steps.0)
  came (Recovered false moment) had steps first then here =
      moved k new s outside outside (Steps s (Ok (Recovered false moment))) (moves-twice k mid new s h outside first then here steps.2) refl
      (copier-put-twice k mid new s held.Outside h first then) refl
      (stepped k mid new s was h (Recovered false moment) had steps first then here)

-- no step answers that there is more to do
same-answer : (a b : Stepped) → ◌≡◌ {A = Result Stepped Fault} (Ok a) (Ok b) → a ≡ b
same-answer a b same = ap (answer-or a) same
  where
    answer-or : Stepped → Result Stepped Fault → Stepped
    answer-or other (Ok x) = x
    answer-or other (Err fault) = other

pub never-more : (old new : Seat) (answer : Stepped) → StepsTo old new answer → ◌≡◌ {A = Result Stepped Fault} (Ok answer) (Ok More) → ⊥
never-more old new answer steps more = subst (λ (x : Stepped). StepsTo old new x) (same-answer answer More more) steps
