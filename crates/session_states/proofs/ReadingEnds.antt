-- A read-only transaction ends, at once.
use Rattle.std.proofs.Common.{◌≡◌, ℕ, ◌∷◌, [], ◌==◌, ◌&&◌, not, Bool, true, false, List, length, map, refl, ◌∙◌, sym, ap, subst, arith, Option, Some, None}
use Rattle.rdo_ast.specs.declared.reply.Reply.TheVariants.{Done, NoMemory}
use Rattle.rdo_ast.specs.declared.reply.Standing.{Standing}
use Rattle.rdo_ast.specs.declared.syntax.Item.{Item}
use Rattle.rdo_ast.specs.Tree.{Uttered, said, commit, rollback}
use Rattle.rdo_ast.specs.Views.{uttered_of}
use Rattle.rdb_account.specs.Events.{Said, Committed, RolledBack}
use Rattle.rdb_account.specs.Places.{Place, Transaction, Line, after, leaves_none}
use Rattle.rdb_account.specs.Legal.{ends_by}
use Rattle.line_view.specs.Held.{Held, knows, nothing}
use Rattle.line_steps.specs.session_jobs.Records.{Model, IsOrderly}
use Rattle.line_steps.proofs.of_line_history.Transactions.{reader-excused}
use Rattle.line_store.specs.Seats.{outside as seat_outside, set_aside}
use Rattle.line_store.specs.Shelves.{Shelf}
use Rattle.line_store.specs.Calls.{Moves}
use Rattle.line_steps.specs.lock_ties.Ties.{IsTiedTo, needs_at}
use Rattle.lock_tree_laws.specs.Forest.{opened_of}
use Rattle.line_steps.specs.Members.{member, outside, reading}
use Rattle.line_steps.specs.Right.{Desk, Ground, Reads, with_desk, at_end}
use Rattle.line_steps.specs.Steps.{Here, Steps}
use Rattle.line_steps.proofs.Reading.{takes-up-reading, reader-commits}
use Rattle.line_steps.proofs.Starting.{start-refused}
use Rattle.line_steps.proofs.Ending.{rolls-back, ends}
use Rattle.line_steps.proofs.Kept.{arrives, in-turn, elapses}
use Rattle.session_states.specs.declared.stage.ReaderStage.{ReaderStage}
use Rattle.session_states.specs.declared.stage.ReaderStage.TheVariants.{Between}
use Rattle.session_states.specs.declared.stage.Phase.TheVariants.{Outside, Reading, Over}
use Rattle.session_states.specs.States.{reader, reader_item, session}
use Rattle.session_states.specs.Shared.{Shared, with_shelf, RestsWith}
use Rattle.session_states.specs.Fits.{has_said}
use Rattle.session_states.specs.Steps.{Step}
use Rattle.session_states.proofs.Basics.{at_time}
use Rattle.session_states.proofs.Ending.{is-open}
use Rattle.session_states.proofs.Ends.{rolled-place, committed-place, then-said, start-gone, start-unasked, gone-tied}
use Rattle.session_states.proofs.Forgoing.{and-undone}
use Rattle.line_steps.proofs.of_lock_ties.Places.{at-same}
use Rattle.store_counts.proofs.Kept.{counted-events}
use Rattle.session_states.proofs.Counting.{counted-over, counted-ended, reader-committed}
use Rattle.session_states.proofs.Resting.{found-here, none-dead, time-later}

-- it had no lock
pub lockless : (p : Place) (c : Shared) (s : ℕ) → IsTiedTo p c.locks → needs_at p s ≡ [] → opened_of c.locks s ≡ None → RestsWith s [] c.locks c.locks
lockless p c s tied needless closed = record { others = λ u other. refl; ended = closed; needs = sym (tied.needs s) ∙ needless; trail = refl }

module _ (M : Model) (orderly : IsOrderly M) where
  abbrev pub last_desk : Ground → Desk
  last_desk g = record { known = knows nothing; writes = []; start = g.now }

  pub reader-commits-on : (s : ℕ) (c : Shared) (shelf : Shelf) (item : Item) (left : List Item) (total : ℕ) (standing : Standing) (known : Held) (spoken : Bool) → uttered_of item ≡ said commit → Moves s seat_outside c.shelf shelf →
      Step M s c (session (item ∷ left) total (Reading (reader standing known spoken Between))) (with_shelf shelf c) (session left total Outside) (Committed s shelf.clock.time ∷ Said s (said commit) [] (Done []) ∷ [])
  reader-commits-on s c shelf item left total standing known spoken is moves = record {
    word = refl;
    others = record { store = moves.others; locks = λ u other. refl };
    moments = (refl, (tt, tt));
    leaves = λ o p g f.
        let items = map uttered_of left in
        let i = uttered_of item in
        let time = shelf.clock.time in
        let m = member (i ∷ items) (reading standing None) total in
        let n = member items (reading standing (Some i)) total in
        let e = member items outside total in
        let es = Committed s time ∷ Said s (said commit) [] (Done []) ∷ [] in
        let k : Ground = at_time time g in
        let h : Ground = with_desk s (last_desk g) k in
        let w : Reads M p g s standing None = f.here.stands.state in
        let none = none-dead M orderly o p g s m f.here in
        let later = time-later M orderly o p g s c shelf (item ∷ left) total (Reading (reader standing known spoken Between)) moves.others f in
        let a : Steps M o p g s n g [] = takes-up-reading M orderly o p g s i items total standing f.here in
        let at_a : Here M o a.to g s n = arrives M orderly o p g g s m n [] none f.here a in
        let b : Steps M o a.to g s n k [] = elapses M orderly o a.to g s items (reading standing (Some i)) total time (found-here M orderly o a.to g s n at_a) later in
        let at_b : Here M o b.to k s n = arrives M orderly o a.to g k s n n [] none at_a b in
        let last : Steps M o b.to k s e h es = reader-commits M orderly o b.to k s items total standing (last_desk g) time
        (subst (λ u. Here M o b.to k s (member items (reading standing (Some u)) total)) is at_b) at_b.fit.past (omega arith) in
        let ab : Steps M o a.to g s e h es = in-turn M orderly o a.to g k h s n e [] es b last in
        let one = committed-place o p s w.transaction time w.is_open in
        let two = then-said o p (after o p (Committed s time)) s (said commit) [] (Done []) one.0 one.1 in
        record {
          ground = h;
          steps = in-turn M orderly o p g g h s n e [] es a ab;
          fits = record {
            ground = record { now = f.fits.ground.now ∙ sym moves.now; time = refl; dead = f.fits.ground.dead };
            tied = gone-tied p (after o (after o p (Committed s time)) (Said s (said commit) [] (Done []))) c.locks c.locks s f.fits.tied (lockless p c s f.fits.tied f.fits.phase.needless f.fits.phase.wants)
                (λ t. ap (λ (x : ℕ → Option Transaction). x t) two.0) two.1;
            phase = (moves.mine, f.fits.phase.wants);
          };
          counted = counted-over o (after o (after o p (Committed s time)) (Said s (said commit) [] (Done []))) s seat_outside c.shelf shelf moves refl (ap (λ (x : ℕ → Option Transaction). x s) two.0 ∙ at-same s None p.transaction)
              (counted-events o (after o p (Committed s time)) (Said s (said commit) [] (Done []) ∷ []) c.shelf (tt, tt) (reader-committed o p s time w.transaction c.shelf w.is_open w.reads (ap set_aside f.fits.phase.seat) (λ t. ap (λ (x : ℕ → Option Transaction). x t) one.0) f.counted));
        };
  }

  pub reader-rolls-on : (s : ℕ) (c : Shared) (shelf : Shelf) (item : Item) (left : List Item) (total : ℕ) (standing : Standing) (known : Held) (spoken : Bool) → uttered_of item ≡ said rollback → Moves s seat_outside c.shelf shelf →
      Step M s c (session (item ∷ left) total (Reading (reader standing known spoken Between))) (with_shelf shelf c) (session left total Outside) (RolledBack s ∷ Said s (said rollback) [] (Done []) ∷ [])
  reader-rolls-on s c shelf item left total standing known spoken is moves = record {
    word = refl;
    others = record { store = moves.others; locks = λ u other. refl };
    moments = (tt, (tt, tt));
    leaves = λ o p g f.
        let items = map uttered_of left in
        let i = uttered_of item in
        let w : Reads M p g s standing None = f.here.stands.state in
        let one = rolled-place o p s in
        let two = then-said o p (after o p (RolledBack s)) s (said rollback) [] (Done []) one.0 one.1 in
        record {
          ground = at_end s g.now (last_desk g) shelf.clock.time g;
          steps = rolls-back M orderly o p g s (member (i ∷ items) (reading standing None) total) items (last_desk g) shelf.clock.time f.here (ap (λ u. u ∷ items) is) f.here.stands.lives (is-open (p.transaction s) w.transaction w.is_open)
              (time-later M orderly o p g s c shelf (item ∷ left) total (Reading (reader standing known spoken Between)) moves.others f);
          fits = record {
            ground = record { now = f.fits.ground.now ∙ sym moves.now; time = refl; dead = f.fits.ground.dead };
            tied = gone-tied p (after o (after o p (RolledBack s)) (Said s (said rollback) [] (Done []))) c.locks c.locks s f.fits.tied (lockless p c s f.fits.tied f.fits.phase.needless f.fits.phase.wants)
                (λ t. ap (λ (x : ℕ → Option Transaction). x t) two.0) two.1;
            phase = (moves.mine, f.fits.phase.wants);
          };
          counted = counted-ended o p (RolledBack s ∷ Said s (said rollback) [] (Done []) ∷ []) s seat_outside c.shelf shelf (λ y e. (e, (tt, tt))) refl (ap (λ (x : ℕ → Option Transaction). x s) two.0 ∙ at-same s None p.transaction) moves f.counted;
        };
  }

  -- the script is at its end
  pub reader-leaves-on : (s : ℕ) (c : Shared) (shelf : Shelf) (total : ℕ) (standing : Standing) (known : Held) (spoken : Bool) → Moves s seat_outside c.shelf shelf →
      Step M s c (session [] total (Reading (reader standing known spoken Between))) (with_shelf shelf c) (session [] total Over) (RolledBack s ∷ [])
  reader-leaves-on s c shelf total standing known spoken moves = record {
    word = refl;
    others = record { store = moves.others; locks = λ u other. refl };
    moments = (tt, tt);
    leaves = λ o p g f.
        let w : Reads M p g s standing None = f.here.stands.state in
        let one = rolled-place o p s in
        record {
          ground = at_end s g.now (last_desk g) shelf.clock.time g;
          steps = ends M orderly o p g s (member [] (reading standing None) total) (last_desk g) shelf.clock.time f.here refl f.here.stands.lives (is-open (p.transaction s) w.transaction w.is_open)
              (time-later M orderly o p g s c shelf [] total (Reading (reader standing known spoken Between)) moves.others f);
          fits = record {
            ground = record { now = f.fits.ground.now ∙ sym moves.now; time = refl; dead = f.fits.ground.dead };
            tied = gone-tied p (after o p (RolledBack s)) c.locks c.locks s f.fits.tied (lockless p c s f.fits.tied f.fits.phase.needless f.fits.phase.wants) (λ t. ap (λ (x : ℕ → Option Transaction). x t) one.0) one.1;
            phase = (moves.mine, f.fits.phase.wants);
          };
          counted = counted-ended o p (RolledBack s ∷ []) s seat_outside c.shelf shelf (λ y e. (e, tt)) refl (ap (λ (x : ℕ → Option Transaction). x s) one.0 ∙ at-same s None p.transaction) moves f.counted;
        };
  }

  -- no memory was found for a START_TRANSACTION, which leaves no transaction
  pub reader-unstarted-on : (s : ℕ) (c : Shared) (shelf : Shelf) (left : List Item) (total : ℕ) (standing : Standing) (known : Held) (item : Item) (stage : ReaderStage) → reader_item stage ≡ Some (uttered_of item) → leaves_none (uttered_of item) ≡ true → Moves s seat_outside c.shelf shelf →
      Step M s c (session left total (Reading (reader standing known false stage))) (with_shelf shelf c) (session left total Outside) (Said s (uttered_of item) [] NoMemory ∷ RolledBack s ∷ [])
  reader-unstarted-on s c shelf left total standing known item stage is starts moves = record {
    word = refl;
    others = record { store = moves.others; locks = λ u other. refl };
    moments = (tt, (tt, tt));
    leaves = λ o p g f.
        let items = map uttered_of left in
        let i = uttered_of item in
        let m = member items (reading standing (Some i)) total in
        let here : Here M o p g s m = subst (λ (u : Option Uttered). Here M o p g s (member items (reading standing u) total)) is f.here in
        let w : Reads M p g s standing (Some i) = here.stands.state in
        let x = w.transaction in
        let l : Line = record { item = i; choices = []; reply = NoMemory } in
        let silent : not (length x.lines == 0) ≡ false = sym (ap has_said w.is_open) ∙ f.fits.phase.spoken in
        record {
          ground = at_time shelf.clock.time (with_desk s (last_desk g) g);
          steps = start-refused M orderly o p g s m items x l (last_desk g) shelf.clock.time
              (time-later M orderly o p g s c shelf left total (Reading (reader standing known false stage)) moves.others f) here w.is_open refl here.stands.lives
              (first (length x.lines == 0) (leaves_none i) silent starts) (and-undone (ends_by i))
              (rw w.reads (reader-excused M orderly o.word o p s (g.desk s).start x.base x.lines (g.desk s).known l refl w.is refl (λ t sound. tt) refl));
          fits = record {
            ground = record { now = f.fits.ground.now ∙ sym moves.now; time = refl; dead = f.fits.ground.dead };
            tied = gone-tied p (after o (after o p (Said s i [] NoMemory)) (RolledBack s)) c.locks c.locks s f.fits.tied (lockless p c s f.fits.tied f.fits.phase.needless f.fits.phase.wants) (start-gone o p s x l w.is_open) (start-unasked o p s l);
            phase = (moves.mine, f.fits.phase.wants);
          };
          counted = counted-ended o p (Said s i [] NoMemory ∷ RolledBack s ∷ []) s seat_outside c.shelf shelf (λ y e. (tt, (e, tt))) refl (start-gone o p s x l w.is_open s ∙ at-same s None p.transaction) moves f.counted;
        };
  }
    where
      first : (a l : Bool) → not a ≡ false → l ≡ true → (a && (l && true)) ≡ true
      first a l h k = grind arith
