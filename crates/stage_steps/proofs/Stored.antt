-- The store works for a session, in scenes.
use Rattle.std.proofs.Common.{◌≡◌, ℕ, Bool, [], List, Ok, Option, Some, true, false, refl, subst}
use Rattle.std.specs.Prelude.{is_some}
use Rattle.std.proofs.lemmas.Bool.{false≢true}
use Rattle.line_store.specs.Seats.{Seat, outside, beginning, writing, changing, broken, prepared, committing, rolling_back, closing, reading, copying, dead, done_at, is_changing, is_committing, IsAlive, IsUnderWay}
use Rattle.line_store.specs.Shelves.{Shelf}
use Rattle.line_store.specs.Calls.{Moves, GoesOn, Fails, IsDone, IsCommitted}
use Rattle.line_store.specs.Sights.{Sight, Agrees, Does, Steps, IsLess, seat_or, stepped_to}
use Rattle.line_store.specs.declared.answers.Fault.{Fault}
use Rattle.line_store.specs.declared.answers.Progress.{Progress}
use Rattle.line_store.specs.declared.answers.Progress.TheVariants as progress
use Rattle.line_store.specs.declared.answers.Stepped.{Stepped}
use Rattle.line_store.specs.declared.answers.Stepped.TheVariants as stepped
use Rattle.lock_tree_laws.specs.Forest.{State}
use Rattle.rdb_types.specs.declared.session.Moment.{Moment}
use Rattle.session_jobs.specs.Records.{Model, IsOrderly}
use Rattle.session_limits.specs.session_states.declared.stage.Phase.{Phase}
use Rattle.session_limits.specs.session_states.declared.stage.Life.TheVariants.{Alive}
use Rattle.session_limits.proofs.of_session_states.Parting.{goes-on}
use Rattle.session_measure.specs.Nearer.{takes_next, has_out}
use Rattle.session_measure.proofs.Nearer.{nearer-by-steps}
use Rattle.stage_steps.specs.declared.happening.Happening.TheVariants.{Quiet, Failed}
use Rattle.stage_steps.specs.Scenes.{Goes, ComesIn, scene, beside}
use Rattle.stage_steps.specs.Stores.{HasGoneOn, worked_to}
use Rattle.stage_steps.specs.Turns.{shared, Comes}
use Rattle.stage_steps.proofs.Failing.{fault-moves, plain-shown}
use Rattle.stage_steps.proofs.Goes.{goes, has-failed}
use Rattle.stage_steps.proofs.Seated.{sits-on}

-- what is told to be done is under way
pub under-way : (seat : Seat) → is_some (done_at seat) ≡ true → IsUnderWay seat
under-way outside h = absurd (false≢true h)
under-way beginning h = tt
under-way (writing ws) h = absurd (false≢true h)
under-way (changing ws) h = tt
under-way (broken ws) h = absurd (false≢true h)
under-way (prepared ws) h = absurd (false≢true h)
under-way (committing ws) h = absurd (false≢true h)
under-way (rolling_back ws) h = tt
under-way closing h = tt
under-way (reading start) h = absurd (false≢true h)
under-way (copying number start) h = tt
under-way (dead commits ws) h = absurd (false≢true h)

pub commits-under-way : (seat : Seat) → is_committing seat ≡ true → IsUnderWay seat
commits-under-way outside h = absurd (false≢true h)
commits-under-way beginning h = tt
commits-under-way (writing ws) h = absurd (false≢true h)
commits-under-way (changing ws) h = tt
commits-under-way (broken ws) h = absurd (false≢true h)
commits-under-way (prepared ws) h = absurd (false≢true h)
commits-under-way (committing ws) h = tt
commits-under-way (rolling_back ws) h = tt
commits-under-way closing h = tt
commits-under-way (reading start) h = absurd (false≢true h)
commits-under-way (copying number start) h = absurd (false≢true h)
commits-under-way (dead commits ws) h = tt

pub dead-under-way : (seat : Seat) → (IsAlive seat → ⊥) → IsUnderWay seat
dead-under-way outside h = absurd (h tt)
dead-under-way beginning h = tt
dead-under-way (writing ws) h = absurd (h tt)
dead-under-way (changing ws) h = tt
dead-under-way (broken ws) h = absurd (h tt)
dead-under-way (prepared ws) h = absurd (h tt)
dead-under-way (committing ws) h = tt
dead-under-way (rolling_back ws) h = tt
dead-under-way closing h = tt
dead-under-way (reading start) h = absurd (h tt)
dead-under-way (copying number start) h = tt
dead-under-way (dead commits ws) h = tt

-- ---- what a step of the store came to

pub when-done : (s : ℕ) (seat : Seat) (a b : Sight) (x : Progress) → x ≡ progress.Done → Does s (worked_to seat (Ok x)) (HasGoneOn s (Ok x)) a b → Does s (seat_or seat (done_at seat)) (IsDone s) a b
when-done s seat a b x e d = subst (λ (y : Progress). Does s (worked_to seat (Ok y)) (HasGoneOn s (Ok y)) a b) e d

pub when-more : (s : ℕ) (seat : Seat) (a b : Sight) (x : Progress) → x ≡ progress.More → Does s (worked_to seat (Ok x)) (HasGoneOn s (Ok x)) a b → Does s seat (GoesOn s) a b
when-more s seat a b x e d = subst (λ (y : Progress). Does s (worked_to seat (Ok y)) (HasGoneOn s (Ok y)) a b) e d

pub when-committed : (s : ℕ) (seat : Seat) (a b : Sight) (x : Stepped) (m : Moment) → x ≡ stepped.Committed m → Does s (stepped_to seat (Ok x)) (Steps s (Ok x)) a b → Does s closing (IsCommitted s m.number) a b
when-committed s seat a b x m e d = subst (λ (y : Stepped). Does s (stepped_to seat (Ok y)) (Steps s (Ok y)) a b) e d

pub when-goes-on : (s : ℕ) (seat : Seat) (a b : Sight) (x : Stepped) → x ≡ stepped.More → Does s (stepped_to seat (Ok x)) (Steps s (Ok x)) a b → Does s seat (GoesOn s) a b
when-goes-on s seat a b x e d = subst (λ (y : Stepped). Does s (stepped_to seat (Ok y)) (Steps s (Ok y)) a b) e d

pub when-recovered : (s : ℕ) (seat : Seat) (a b : Sight) (x : Stepped) (committed : Bool) (m : Moment) → x ≡ stepped.Recovered committed m → Does s (stepped_to seat (Ok x)) (Steps s (Ok x)) a b → Does s outside (Steps s (Ok (stepped.Recovered committed m))) a b
when-recovered s seat a b x committed m e d = subst (λ (y : Stepped). Does s (stepped_to seat (Ok y)) (Steps s (Ok y)) a b) e d

pub when-laid : (s : ℕ) (seat : Seat) (a b : Sight) (x : Stepped) → x ≡ stepped.Done → Does s (stepped_to seat (Ok x)) (Steps s (Ok x)) a b → Does s (seat_or seat (done_at seat)) (IsDone s) a b
when-laid s seat a b x e d = subst (λ (y : Stepped). Does s (stepped_to seat (Ok y)) (Steps s (Ok y)) a b) e d

-- what is undone is no change
pub undoes-plain : (seat : Seat) → done_at seat ≡ Some outside → is_changing seat ≡ false
undoes-plain outside h = refl
undoes-plain beginning h = refl
undoes-plain (writing ws) h = refl
undoes-plain (changing ws) h = cc h
undoes-plain (broken ws) h = refl
undoes-plain (prepared ws) h = refl
undoes-plain (committing ws) h = refl
undoes-plain (rolling_back ws) h = refl
undoes-plain closing h = refl
undoes-plain (reading start) h = refl
undoes-plain (copying number start) h = refl
undoes-plain (dead commits ws) h = refl

-- ---- the phase stands

module _ (M : Model) (orderly : IsOrderly M) (s : ℕ) (word : List ℕ) (locks : State) (a b : Sight) (x : Phase) where
  on-move : {N : Type 0} (R : Shelf → Shelf → Type 0) → ((h g : Shelf) → a.shows h → R h g → Moves s (h.seat s) h g) → N → Does s (a.stand s) R a b →
      Goes s x Alive x Alive (λ h g. (dead : ℕ) → Comes M s (shared word h locks dead) x (shared word g locks dead) x []) N (scene word a locks) (scene word b locks)
  on-move R moves nearer d =
      goes s x Alive x Alive R _ (a.stand s) (scene word a locks) (scene word b locks) (λ e f. sits-on a.stand b.stand locks s x e f) (λ u other. refl) nearer
      (λ h g shown told r dead left total. goes-on M orderly s (shared word h locks dead) g left total x (moves h g shown r)) d

  -- the store has more to do, and fewer steps for it
  pub on-more : takes_next x ≡ false → has_out x ≡ false → IsLess s a b → Does s (a.stand s) (GoesOn s) a b → ComesIn M s (scene word a locks) x (scene word b locks) x Quiet
  on-more none kept fewer d = on-move (GoesOn s) (λ h g shown r. r.moves) (nearer-by-steps s (beside (scene word a locks)) (beside (scene word b locks)) x x refl refl none kept refl refl refl fewer) d

  -- a device call failed, and no change was under way
  pub on-fault : Agrees a → is_changing (a.stand s) ≡ false → (fault : Fault) → Does s (a.stand s) (Fails s fault) a b → ComesIn M s (scene word a locks) x (scene word b locks) x (Failed fault)
  on-fault agrees plain fault d =
      on-move (Fails s fault) (λ h g shown r. fault-moves s fault h g (plain-shown s a agrees plain h shown) r) (λ left total. has-failed s (a.stand s) (Fails s fault) fault a b (λ h g r. r) d) d
