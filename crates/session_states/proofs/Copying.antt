-- An online backup: a read-only transaction of its own, in which the store copies the lines at its start.
use Rattle.std.proofs.Common.{◌≡◌, ℕ, ◌∷◌, [], ◌==◌, not, Bool, true, false, List, length, map, refl, ◌∙◌, sym, ap, subst, arith, Option, Some, None, is_some}
use Rattle.std.proofs.lemmas.Bool.{false≢true}
use Rattle.rdo_ast.specs.declared.reply.Reply.TheVariants.{Done}
use Rattle.rdo_ast.specs.declared.reply.Standing.{Standing}
use Rattle.rdo_ast.specs.declared.reply.Standing.TheVariants.{Closed, ReadOnly}
use Rattle.rdo_ast.specs.declared.syntax.Item.{Item}
use Rattle.rdo_ast.specs.Tree.{Uttered, said, back_up}
use Rattle.rdo_ast.specs.Views.{uttered_of}
use Rattle.rdb_account.specs.Events.{Began, Committed, Said}
use Rattle.rdb_account.specs.Places.{Place, Transaction, after, backup_of, begins, begun}
use Rattle.rdb_account.specs.Lawful.{got_of}
use Rattle.line_view.specs.Held.{Held, knows, nothing}
use Rattle.line_steps.specs.session_jobs.Records.{Model, IsOrderly}
use Rattle.line_store.specs.Seats.{writes_of, set_aside, outside as seat_outside, copying as seat_copying}
use Rattle.line_store.specs.Shelves.{Shelf}
use Rattle.line_store.specs.Calls.{Moves}
use Rattle.line_steps.proofs.of_lock_ties.Places.{at-same}
use Rattle.line_steps.specs.Members.{member, outside, reading}
use Rattle.line_steps.specs.Right.{Desk, Ground, Reads, with_desk}
use Rattle.line_steps.specs.Steps.{Here, Steps}
use Rattle.line_steps.proofs.Common.{desk-same}
use Rattle.line_steps.proofs.Reading.{begins-reading, reader-copies}
use Rattle.line_steps.proofs.Kept.{arrives, in-turn, elapses}
use Rattle.session_states.specs.declared.stage.ReaderWork.TheVariants.{Copying}
use Rattle.session_states.specs.declared.stage.ReaderStage.TheVariants.{Working}
use Rattle.session_states.specs.declared.stage.Phase.TheVariants.{Outside, Reading}
use Rattle.session_states.specs.States.{reader, seat_of_reader, session}
use Rattle.session_states.specs.Shared.{Shared, with_shelf}
use Rattle.session_states.specs.Fits.{has_said}
use Rattle.session_states.specs.Steps.{Step}
use Rattle.session_states.proofs.Basics.{at_time}
use Rattle.session_states.proofs.Ends.{committed-place, then-said, gone-tied}
use Rattle.session_states.proofs.Parting.{nothing-agrees, begun-needs}
use Rattle.session_states.proofs.ReaderSeats.{backup-is, reader-aside}
use Rattle.session_states.proofs.Reading.{first_desk}
use Rattle.session_states.proofs.ReadingEnds.{last_desk, lockless}
use Rattle.session_states.proofs.ReaderStarts.{closed-first}
use Rattle.session_states.proofs.Resting.{found-here, none-dead, time-later}
use Rattle.store_counts.proofs.Kept.{counted-events, counted-begins}
use Rattle.session_states.proofs.Counting.{counted-over, reader-committed}

some-of : (x : Option ℕ) → is_some x ≡ true → (n : ℕ) × (x ≡ Some n)
some-of None h = absurd (false≢true h)
some-of (Some n) h = (n, refl)

silent-none : (b : Bool) → not b ≡ false → b ≡ true
silent-none true h = refl
silent-none false h = sym h

module _ (M : Model) (orderly : IsOrderly M) where
  pub begins-to-copy : (s : ℕ) (c : Shared) (shelf : Shelf) (item : Item) (left : List Item) (total n : ℕ) → uttered_of item ≡ said (back_up n) → Moves s (seat_copying n c.shelf.now) c.shelf shelf →
      Step M s c (session (item ∷ left) total Outside) (with_shelf shelf c) (session left total (Reading (reader Closed nothing false (Working item Copying)))) (Began s ReadOnly ∷ [])
  begins-to-copy s c shelf item left total n is moves = record {
    word = refl;
    others = record { store = moves.others; locks = λ u other. refl };
    moments = (tt, tt);
    leaves = λ o p g f.
        let items = map uttered_of left in
        let i = uttered_of item in
        let m = member (i ∷ items) outside total in
        let e = member items (reading Closed (Some i)) total in
        let h : Ground = with_desk s (first_desk M orderly g) g in
        let k : Ground = at_time shelf.clock.time h in
        let a : Steps M o p g s e h (Began s ReadOnly ∷ []) = begins-reading M orderly o p g s i items total (knows nothing) f.here (ap begins is) (nothing-agrees g.now) in
        let b : Steps M o a.to h s e k [] = elapses M orderly o a.to h s items (reading Closed (Some i)) total shelf.clock.time
        (found-here M orderly o a.to h s e (arrives M orderly o p g h s m e (Began s ReadOnly ∷ []) (none-dead M orderly o p g s m f.here) f.here a)) (time-later M orderly o p g s c shelf (item ∷ left) total Outside moves.others f) in
        let same = desk-same s (first_desk M orderly g) g in
        record {
          ground = k;
          steps = in-turn M orderly o p g h k s e e (Began s ReadOnly ∷ []) [] a b;
          fits = record {
            ground = record { now = f.fits.ground.now ∙ sym moves.now; time = refl; dead = f.fits.ground.dead };
            tied = record { needs = λ t. begun-needs p s ReadOnly f.here.stands.state t ∙ f.fits.tied.needs t; asks = f.fits.tied.asks; wants = f.fits.tied.wants };
            phase = record {
              known = ap (λ (x : Desk). x.known) same;
              seat = moves.mine ∙ (ap (seat_copying n) (sym f.fits.ground.now) ∙ (ap (λ (x : Desk). seat_copying n x.start) (sym same) ∙ ap (λ (u : Uttered). seat_of_reader (backup_of u) (k.desk s).start) (sym is)));
              spoken = ap has_said (at-same s (Some (begun ReadOnly p.tables)) p.transaction);
              needless = ap got_of (at-same s (Some (begun ReadOnly p.tables)) p.transaction);
              stage = (refl, ap (λ (u : Uttered). is_some (backup_of u)) is);
              wants = f.fits.phase.1;
            };
          };
          counted = counted-begins o p s ReadOnly shelf f.here.stands.state (ap writes_of moves.mine) (counted-over o p s (seat_copying n c.shelf.now) c.shelf shelf moves refl f.here.stands.state f.counted);
        };
  }

  -- the lines are copied, and the transaction ends with that
  pub copied-on : (s : ℕ) (c : Shared) (shelf : Shelf) (left : List Item) (total : ℕ) (standing : Standing) (known : Held) (spoken : Bool) (item : Item) → Moves s seat_outside c.shelf shelf →
      Step M s c (session left total (Reading (reader standing known spoken (Working item Copying)))) (with_shelf shelf c) (session left total Outside) (Committed s shelf.clock.time ∷ Said s (uttered_of item) [] (Done []) ∷ [])
  copied-on s c shelf left total standing known spoken item moves = record {
    word = refl;
    others = record { store = moves.others; locks = λ u other. refl };
    moments = (refl, (tt, tt));
    leaves = λ o p g f.
        let items = map uttered_of left in
        let i = uttered_of item in
        let time = shelf.clock.time in
        let found = some-of (backup_of i) f.fits.phase.stage.1 in
        let n = found.0 in
        let is : i ≡ said (back_up n) = backup-is i n found.1 in
        let m = member items (reading standing (Some i)) total in
        let e = member items outside total in
        let es = λ (u : Uttered). Committed s time ∷ Said s u [] (Done []) ∷ [] in
        let k : Ground = at_time time g in
        let h : Ground = with_desk s (last_desk M orderly g) k in
        let w : Reads M p g s standing (Some i) = f.here.stands.state in
        let b : Steps M o p g s m k [] = elapses M orderly o p g s items (reading standing (Some i)) total time (found-here M orderly o p g s m f.here) (time-later M orderly o p g s c shelf left total (Reading (reader standing known spoken (Working item Copying))) moves.others f) in
        let at_b : Here M o b.to k s m = arrives M orderly o p g k s m m [] (none-dead M orderly o p g s m f.here) f.here b in
        let none : (length w.transaction.lines == 0) ≡ true = silent-none (length w.transaction.lines == 0) (sym (ap has_said w.is_open) ∙ (f.fits.phase.spoken ∙ f.fits.phase.stage.0)) in
        let closed : standing ≡ Closed = sym w.has_standing ∙ closed-first w.transaction.lines none in
        let last : Steps M o b.to k s e h (es (said (back_up n))) = reader-copies M orderly o b.to k s items total n (last_desk M orderly g) time
        (subst (λ (u : Standing). Here M o b.to k s (member items (reading u (Some (said (back_up n)))) total)) closed (subst (λ (u : Uttered). Here M o b.to k s (member items (reading standing (Some u)) total)) is at_b)) at_b.fit.past (omega arith) in
        let one = committed-place o p s w.transaction time w.is_open in
        let two = then-said o p (after o p (Committed s time)) s i [] (Done []) one.0 one.1 in
        record {
          ground = h;
          steps = in-turn M orderly o p g k h s m e [] (es i) b (subst (λ (u : Uttered). Steps M o b.to k s e h (es u)) (sym is) last);
          fits = record {
            ground = record { now = f.fits.ground.now ∙ sym moves.now; time = refl; dead = f.fits.ground.dead };
            tied = gone-tied p (after o (after o p (Committed s time)) (Said s i [] (Done []))) c.locks c.locks s f.fits.tied (lockless p c s f.fits.tied f.fits.phase.needless f.fits.phase.wants)
                (λ t. ap (λ (x : ℕ → Option Transaction). x t) two.0) two.1;
            phase = (moves.mine, f.fits.phase.wants);
          };
          counted = counted-over o (after o (after o p (Committed s time)) (Said s i [] (Done []))) s seat_outside c.shelf shelf moves refl (ap (λ (x : ℕ → Option Transaction). x s) two.0 ∙ at-same s None p.transaction)
              (counted-events o (after o p (Committed s time)) (Said s i [] (Done []) ∷ []) c.shelf (tt, tt) (reader-committed o p s time w.transaction c.shelf w.is_open w.reads (ap set_aside f.fits.phase.seat ∙ reader-aside (backup_of i) (g.desk s).start) (λ t. ap (λ (x : ℕ → Option Transaction). x t) one.0) f.counted));
        };
  }
