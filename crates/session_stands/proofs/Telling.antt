-- A shelf is shown behind a step, with which all that was true of sessions is so.
use Rattle.std.proofs.Common.{◌≡◌, ◌≤◌, ℕ, zero, suc, ◌+◌, ◌++◌, ◌∷◌, [], List, length, refl, ◌∙◌, sym, ap, subst, Some, None, slice_get, slice_set}
use Rattle.std.proofs.lemmas.Option.{same_Some}
use Rattle.rdb_account.specs.Events.{Event}
use Rattle.rdb_account.specs.Places.{Opening, Place, place, place_from, start}
use Rattle.rdb_account.specs.Backups.{backups}
use Rattle.rdb_account.proofs.Growth.{place-grown}
use Rattle.lock_tree_laws.specs.Forest.{State}
use Rattle.session_jobs.specs.Records.{Model, IsOrderly}
use Rattle.line_store.specs.Seats.{Seat, begun}
use Rattle.line_store.specs.Shelves.{Shelf}
use Rattle.line_store.specs.Calls.{KeepsOthers, Lasts}
use Rattle.line_store.specs.Sights.{Sight, Behind, Does, Stands}
use Rattle.session_states.specs.line_steps.Images.{AreLeft}
use Rattle.session_states.proofs.of_line_steps.Crashes.{left-goes-on}
use Rattle.session_states.specs.declared.stage.Life.TheVariants.{Alive}
use Rattle.session_states.specs.declared.stage.Member.{Member}
use Rattle.session_states.specs.Kept.{AreKept}
use Rattle.session_states.specs.Steps.{AreAt, Step, Fall}
use Rattle.session_states.proofs.Standing.{kept, fell}
use Rattle.session_stands.specs.Sessions.{AreSeated, IsTold, KeepsBackups, dead_in, one_dead, sharing}
use Rattle.session_stands.proofs.Backing.{backed-on, backups-still}
use Rattle.session_stands.proofs.Commits.{is-new, no-fewer}
use Rattle.session_stands.proofs.InFlight.{stand-now}

-- as many are dead where one lives that lived
pub dead-same : (ms : List Member) (i : ℕ) (m n : Member) → slice_get ms i ≡ Some m → one_dead n.life ≡ one_dead m.life → dead_in (slice_set ms i n) ≡ dead_in ms
dead-same [] i m n found same = refl
dead-same (x ∷ xs) zero m n found same = ap (λ k. k + dead_in xs) (same ∙ ap (λ (y : Member). one_dead y.life) (sym (same_Some x m found)))
dead-same (x ∷ xs) (suc i) m n found same = ap (λ k. one_dead x.life + k) (dead-same xs i m n found same)

module _ (M : Model) (orderly : IsOrderly M) (o : Opening) (word then : List ℕ) (old new : Sight) (locks behind : State) (members : List Member) (events es : List Event) (i : ℕ) (m n : Member) (there : Seat) (found : slice_get members i ≡ Some m)
    (stands : Stands new) (was : AreSeated old.stand locks members) (is : AreSeated new.stand behind (slice_set members i n)) where
  -- what a crash might have left goes on standing for what was committed
  left-on : (k : IsTold M o word old locks members events) (shelf : Shelf) → new.shows shelf → Lasts old.left new.left k.shelf shelf → ((t : ℕ) → t ≤ k.shelf.clock.time → old.opens t → new.opens t) → KeepsOthers (suc i) k.shelf shelf → AreAt shelf.clock.time es →
      AreKept M o (sharing then shelf behind (dead_in (slice_set members i n))) (slice_set members i n) (events ++ es) → AreLeft M o (events ++ es) new.left new.opens shelf.clock.time
  left-on k shelf shown lasts opens others at kept =
      let grown : place o (events ++ es) ≡ place_from o (place o events) es = place-grown o (start o) events es in
      left-goes-on M orderly o events es old.left new.left old.opens new.opens k.shelf shelf (stands shelf shown) lasts opens others.later.later
      (stand-now M o (sharing word k.shelf locks (dead_in members)) members events k.kept old.stand was orderly)
      (stand-now M o (sharing then shelf behind (dead_in (slice_set members i n))) (slice_set members i n) (events ++ es) kept new.stand is orderly)
      (λ j c e. is-new o (place o events) es shelf.clock.time at j c (ap (λ (p : Place). slice_get p.commits j) (sym grown) ∙ e))
      (subst (λ (p : Place). length (place o events).commits ≤ length p.commits) (sym grown) (no-fewer o (place o events) es shelf.clock.time at))
      k.images

  pub steps : dead_in members ≡ 0 → m.life ≡ Alive → n.life ≡ Alive → Does (suc i) there (λ h g. (dead : ℕ) → Step M (suc i) (sharing word h locks dead) m (sharing then g behind dead) n es) old new →
      KeepsBackups M o word then old new locks behind members events es i m n (begun (old.stand (suc i)) there) →
      IsTold M o word old locks members events → IsTold M o then new behind (slice_set members i n) (events ++ es)
  steps none lived lives does goes k =
      let it : Behind old new (begun (old.stand (suc i)) there) (λ h g. (dead : ℕ) → Step M (suc i) (sharing word h locks dead) m (sharing then g behind dead) n es) k.shelf = does.each k.shelf k.shown in
      let same : dead_in (slice_set members i n) ≡ dead_in members = dead-same members i m n found (ap one_dead lives ∙ sym (ap one_dead lived)) in
      let still = kept M orderly o (sharing word k.shelf locks (dead_in members)) (sharing then it.shelf behind (dead_in (slice_set members i n))) members events es i m n none k.kept found
      (subst (λ (d : ℕ). Step M (suc i) (sharing word k.shelf locks (dead_in members)) m (sharing then it.shelf behind d) n es) (sym same) (it.related (dead_in members))) in
      let step = it.related 0 in
      record {
        shelf = it.shelf;
        shown = it.shown;
        kept = still;
        images = left-on k it.shelf it.shown it.lasts it.opens step.others.store step.moments still;
        backups = backed-on M (suc i) (begun (old.stand (suc i)) there) (backups o events) (backups o (events ++ es)) old new k.shelf.clock.time it.shelf.clock.time
            step.others.store.later.later does.copier it.backed (goes k.shelf it.shelf k.shown it.shown it.related k.kept k.backups) k.backups;
      }

  pub falls : Does (suc i) there (λ h g. Fall M o (suc i) (sharing word h locks (dead_in members)) m (sharing then g behind (dead_in (slice_set members i n))) n es) old new →
      begun (old.stand (suc i)) there ≡ None → backups o (events ++ es) ≡ backups o events →
      IsTold M o word old locks members events → IsTold M o then new behind (slice_set members i n) (events ++ es)
  falls does begins same k =
      let it : Behind old new (begun (old.stand (suc i)) there) (λ h g. Fall M o (suc i) (sharing word h locks (dead_in members)) m (sharing then g behind (dead_in (slice_set members i n))) n es) k.shelf = does.each k.shelf k.shown in
      let still = fell M orderly o (sharing word k.shelf locks (dead_in members)) (sharing then it.shelf behind (dead_in (slice_set members i n))) members events es i m n k.kept found it.related in
      record {
        shelf = it.shelf;
        shown = it.shown;
        kept = still;
        images = left-on k it.shelf it.shown it.lasts it.opens it.related.others.store it.related.moments still;
        backups = backed-on M (suc i) (begun (old.stand (suc i)) there) (backups o events) (backups o (events ++ es)) old new k.shelf.clock.time it.shelf.clock.time
            it.related.others.store.later.later does.copier it.backed
            (backups-still M (suc i) (begun (old.stand (suc i)) there) (backups o events) (backups o (events ++ es)) new it.shelf.clock.time begins same) k.backups;
      }
