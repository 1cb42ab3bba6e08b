-- A read-only transaction: it wants no lock, and reads the lines that were committed at its start.
use Rattle.std.proofs.Common.{◌≡◌, ℕ, ◌∷◌, [], ◌==◌, ◌&&◌, ◌||◌, not, Bool, true, false, List, length, map, refl, ◌∙◌, sym, ap, subst, arith, Option, Some, None}
use Rattle.rdo_ast.specs.declared.reply.Reply.{Reply}
use Rattle.rdo_ast.specs.declared.reply.Reply.TheVariants.{NoMemory}
use Rattle.rdo_ast.specs.declared.reply.Standing.{Standing}
use Rattle.rdo_ast.specs.declared.reply.Standing.TheVariants.{Closed, ReadOnly}
use Rattle.rdo_ast.specs.declared.syntax.Item.{Item}
use Rattle.rdo_ast.specs.Tree.{Uttered}
use Rattle.rdo_ast.specs.Views.{uttered_of}
use Rattle.lock_tree_laws.specs.Forest.{opened_of}
use Rattle.rdb_account.specs.Events.{Began, Said}
use Rattle.rdb_account.specs.Places.{Opening, Place, Transaction, Line, after, backup_of, begins, begun, leaves_none, is_done, is_first_refused}
use Rattle.rdb_account.specs.Lawful.{got_of}
use Rattle.rdb_account.specs.Legal.{ends_by, ends_its_own}
use Rattle.line_view.specs.Held.{Held, knows, nothing}
use Rattle.line_view.specs.Knowledge.{Lines, IsInOrder, Agrees}
use Rattle.line_steps.specs.session_jobs.Records.{Model, IsOrderly, IsRight}
use Rattle.line_steps.specs.session_jobs.Jobs.{IsFound, worked_of}
use Rattle.line_steps.specs.session_jobs.declared.jobs.TxRecord.{TxRecord}
use Rattle.line_steps.specs.session_jobs.declared.jobs.Found.TheVariants.{Done}
use Rattle.line_store.specs.Seats.{Seat, writes_of, reading as seat_reading}
use Rattle.line_store.specs.Shelves.{Shelf, seen_from, seen_by}
use Rattle.line_store.specs.Calls.{Moves, KeepsOthers, KeepsSpace}
use Rattle.line_steps.specs.lock_ties.Ties.{IsTiedTo}
use Rattle.line_steps.proofs.of_lock_ties.Places.{at-same}
use Rattle.line_steps.proofs.of_lock_ties.Got.{ended-tied}
use Rattle.line_steps.specs.Members.{member, outside, reading}
use Rattle.line_steps.specs.Right.{Desk, Ground, Reads, with_desk}
use Rattle.line_steps.specs.Steps.{Here, Steps}
use Rattle.line_steps.proofs.Common.{desk-same}
use Rattle.line_steps.proofs.Reading.{begins-reading, takes-up-reading, learns-reading}
use Rattle.line_steps.proofs.Saying.{answers-reading, refuses-reading}
use Rattle.line_steps.proofs.Kept.{arrives, in-turn, elapses}
use Rattle.session_states.specs.declared.stage.ReaderWork.TheVariants.{Due, Out}
use Rattle.session_states.specs.declared.stage.ReaderStage.{ReaderStage}
use Rattle.session_states.specs.declared.stage.ReaderStage.TheVariants.{Between, Working}
use Rattle.session_states.specs.declared.stage.Phase.TheVariants.{Outside, Reading}
use Rattle.session_states.specs.States.{copies_at, reader, reader_item, seat_of_reader, session}
use Rattle.session_states.specs.Shared.{Shared, with_shelf}
use Rattle.session_states.specs.Fits.{has_said, ReaderFits, ReaderStageFits, ReadsOn}
use Rattle.session_states.specs.Steps.{Step}
use Rattle.session_states.proofs.Basics.{at_time}
use Rattle.session_states.proofs.Forgoing.{and-undone}
use Rattle.session_states.proofs.Parting.{nothing-agrees, begun-needs, begins-stays}
use Rattle.session_states.proofs.Resting.{leaves-others, rests-by, found-here, none-dead, time-later}
use Rattle.session_states.proofs.Storing.{said-needs, said-more}
use Rattle.session_states.proofs.ReaderSeats.{copies-none, own-none, reader-sees}
use Rattle.session_states.proofs.ReaderStarts.{reader-stays, reader-undone}
use Rattle.store_counts.proofs.Kept.{counted-same, counted-events, counted-begins}
use Rattle.session_states.proofs.Counting.{counted-over}

-- Its transaction stays open behind a reply: something was said in it, or the reply is done, or it isn't of a START_TRANSACTION.
stays-open : (x : Option Transaction) (spoken : Bool) (item : Uttered) (reply : Reply) → has_said x ≡ spoken → (spoken || not (leaves_none item && not (is_done reply))) ≡ true → is_first_refused x item reply ≡ false
stays-open None spoken item reply says may = refl
stays-open (Some t) spoken item reply says may = by (length t.lines == 0) spoken (leaves_none item) (is_done reply) says may
  where
    by : (a b l d : Bool) → not a ≡ b → (b || not (l && not d)) ≡ true → (a && (l && not d)) ≡ false
    by a b l d h k = grind arith

none-ends : (own b : Bool) → own ≡ false → (own && b) ≡ false
none-ends own b h = grind arith

spoken-ends : (own spoken : Bool) → spoken ≡ true → (own && not spoken) ≡ false
spoken-ends own spoken h = grind arith

module _ (M : Model) (orderly : IsOrderly M) where
  -- ---- it begins

  abbrev pub first_desk : Ground → Desk
  first_desk g = record { known = knows nothing; writes = []; start = g.now }

  pub begins-to-read : (s : ℕ) (c : Shared) (shelf : Shelf) (item : Item) (left : List Item) (total : ℕ) → begins (uttered_of item) ≡ Some ReadOnly → backup_of (uttered_of item) ≡ None → Moves s (seat_reading c.shelf.now) c.shelf shelf →
      Step M s c (session (item ∷ left) total Outside) (with_shelf shelf c) (session left total (Reading (reader Closed nothing false (Working item Due)))) (Began s ReadOnly ∷ [])
  begins-to-read s c shelf item left total so plain moves = record {
    word = refl;
    others = record { store = moves.others; locks = λ u other. refl };
    moments = (tt, tt);
    leaves = λ o p g f.
        let items = map uttered_of left in
        let i = uttered_of item in
        let m = member (i ∷ items) outside total in
        let n = member items (reading Closed (Some i)) total in
        let h : Ground = with_desk s (first_desk g) g in
        let k : Ground = at_time shelf.clock.time h in
        let a : Steps M o p g s n h (Began s ReadOnly ∷ []) = begins-reading M orderly o p g s i items total (knows nothing) f.here so (nothing-agrees g.now) in
        let b : Steps M o a.to h s n k [] = elapses M orderly o a.to h s items (reading Closed (Some i)) total shelf.clock.time
        (found-here M orderly o a.to h s n (arrives M orderly o p g h s m n (Began s ReadOnly ∷ []) (none-dead M orderly o p g s m f.here) f.here a)) (time-later M orderly o p g s c shelf (item ∷ left) total Outside moves.others f) in
        record {
          ground = k;
          steps = in-turn M orderly o p g h k s n n (Began s ReadOnly ∷ []) [] a b;
          fits = record {
            ground = record { now = f.fits.ground.now ∙ sym moves.now; time = refl; dead = f.fits.ground.dead };
            tied = record { needs = λ t. begun-needs p s ReadOnly f.here.stands.state t ∙ f.fits.tied.needs t; asks = f.fits.tied.asks; wants = f.fits.tied.wants };
            phase = record {
              known = ap (λ (x : Desk). x.known) (desk-same s (first_desk g) g);
              seat = moves.mine ∙ (ap seat_reading (sym f.fits.ground.now) ∙ ap (λ (x : Desk). seat_reading x.start) (sym (desk-same s (first_desk g) g)));
              spoken = ap has_said (at-same s (Some (begun ReadOnly p.tables)) p.transaction);
              needless = ap got_of (at-same s (Some (begun ReadOnly p.tables)) p.transaction);
              stage = (begins-stays i ReadOnly so, none-ends (ends_its_own i) true (own-none i (begins-stays i ReadOnly so) plain));
              wants = f.fits.phase.1;
            };
          };
          counted = counted-begins o p s ReadOnly shelf f.here.stands.state (ap writes_of moves.mine) (counted-over o p s (seat_reading c.shelf.now) c.shelf shelf moves refl f.here.stands.state f.counted);
        };
  }

  -- ---- an item is taken up, and its job handed out

  pub takes-to-read : (s : ℕ) (c : Shared) (item : Item) (left : List Item) (total : ℕ) (standing : Standing) (known : Held) (spoken : Bool) → ends_by (uttered_of item) ≡ false →
      Step M s c (session (item ∷ left) total (Reading (reader standing known spoken Between))) c (session left total (Reading (reader standing known spoken (Working item Due)))) []
  takes-to-read s c item left total standing known spoken stays = record {
    word = refl;
    others = leaves-others s c;
    moments = tt;
    leaves = λ o p g f. record {
      ground = g;
      steps = takes-up-reading M orderly o p g s (uttered_of item) (map uttered_of left) total standing f.here;
      fits = record {
        ground = f.fits.ground;
        tied = f.fits.tied;
        phase = record { known = f.fits.phase.known; seat = f.fits.phase.seat; spoken = f.fits.phase.spoken; needless = f.fits.phase.needless; stage = (stays, spoken-ends (ends_its_own (uttered_of item)) spoken f.fits.phase.stage); wants = f.fits.phase.wants };
      };
      counted = f.counted;
    };
  }

  -- its statement goes on without a lock
  pub goes-to-read : (s : ℕ) (c : Shared) (left : List Item) (total : ℕ) (standing : Standing) (known : Held) (spoken : Bool) (x y : ReaderStage) → reader_item x ≡ reader_item y → copies_at x ≡ copies_at y → (ReaderStageFits spoken x → ReaderStageFits spoken y) →
      Step M s c (session left total (Reading (reader standing known spoken x))) c (session left total (Reading (reader standing known spoken y))) []
  goes-to-read s c left total standing known spoken x y same copies fits =
      rests-by M orderly s c left total (Reading (reader standing known spoken x)) (Reading (reader standing known spoken y)) (ap (λ (u : Option Uttered). reading standing u) same)
      (λ o p g f. record { known = f.fits.phase.known; seat = f.fits.phase.seat ∙ ap (λ (n : Option ℕ). seat_of_reader n (g.desk s).start) copies; spoken = f.fits.phase.spoken; needless = f.fits.phase.needless; stage = fits f.fits.phase.stage; wants = f.fits.phase.wants })

  -- what it lacked is read from the lines at its start
  pub reads-more : (s : ℕ) (c : Shared) (shelf : Shelf) (left : List Item) (total : ℕ) (standing : Standing) (known new : Held) (spoken : Bool) (x y : ReaderStage) → reader_item x ≡ reader_item y → copies_at x ≡ copies_at y → (ReaderStageFits spoken x → ReaderStageFits spoken y) →
      KeepsOthers s c.shelf shelf → shelf.now ≡ c.shelf.now → shelf.seat s ≡ c.shelf.seat s → KeepsSpace c.shelf.space shelf.space → (IsInOrder (seen_by s c.shelf) → Agrees (knows known) (seen_by s c.shelf) → Agrees (knows new) (seen_by s c.shelf)) →
      Step M s c (session left total (Reading (reader standing known spoken x))) (with_shelf shelf c) (session left total (Reading (reader standing new spoken y))) []
  reads-more s c shelf left total standing known new spoken x y same copies fits others now mine space more = record {
    word = refl;
    others = record { store = others; locks = λ u other. refl };
    moments = tt;
    leaves = λ o p g f.
        let items = map uttered_of left in
        let i = reader_item x in
        let m = member items (reading standing i) total in
        let w : Reads M p g s standing i = f.here.stands.state in
        let d : Desk = record { known = knows new; writes = (g.desk s).writes; start = (g.desk s).start } in
        let h : Ground = with_desk s d g in
        let k : Ground = at_time shelf.clock.time h in
        let e : seen_by s c.shelf ≡ (g.desk s).start = ap (λ (a : Seat). seen_from a c.shelf.now) f.fits.phase.seat ∙ reader-sees (copies_at x) (g.desk s).start c.shelf.now in
        let good : Agrees (knows new) (g.desk s).start = subst (λ (l : Lines). Agrees (knows new) l) e
        (more (subst (λ (l : Lines). IsInOrder l) (sym e) (orderly (g.desk s).start w.transaction.base w.is.stands))
        (subst (λ (l : Lines). Agrees (knows known) l) (sym e) (subst (λ u. Agrees u (g.desk s).start) f.fits.phase.known w.is.agrees))) in
        let a : Steps M o p g s m h [] = learns-reading M orderly o p g s items total standing i (knows new) f.here good in
        let b : Steps M o a.to h s m k [] = elapses M orderly o a.to h s items (reading standing i) total shelf.clock.time
        (found-here M orderly o a.to h s m (arrives M orderly o p g h s m m [] (none-dead M orderly o p g s m f.here) f.here a))
        (time-later M orderly o p g s c shelf left total (Reading (reader standing known spoken x)) others f) in
        record {
          ground = k;
          steps = subst (λ (u : Option Uttered). Steps M o p g s (member items (reading standing u) total) k []) same (in-turn M orderly o p g h k s m m [] [] a b);
          fits = record {
            ground = record { now = f.fits.ground.now ∙ sym now; time = refl; dead = f.fits.ground.dead };
            tied = f.fits.tied;
            phase = record {
              known = ap (λ (z : Desk). z.known) (desk-same s d g);
              seat = mine ∙ (f.fits.phase.seat ∙ (ap (λ (n : Option ℕ). seat_of_reader n (g.desk s).start) copies ∙ ap (λ (z : Desk). seat_of_reader (copies_at y) z.start) (sym (desk-same s d g))));
              spoken = f.fits.phase.spoken;
              needless = f.fits.phase.needless;
              stage = fits f.fits.phase.stage;
              wants = f.fits.phase.wants;
            };
          };
          counted = counted-same o p s c.shelf shelf f.counted others now space mine;
        };
  }

  -- ---- it is answered

  -- what is right of the session behind a line
  line-fits : (o : Opening) (p : Place) (g : Ground) (c : Shared) (s : ℕ) (standing : Standing) (known : Held) (spoken : Bool) (stage : ReaderStage) (x : Transaction) (l : Line) → p.transaction s ≡ Some x → copies_at stage ≡ None →
      ReaderFits p g c s (reader standing known spoken stage) → ReaderFits (after o p (Said s l.item l.choices l.reply)) g c s (reader ReadOnly known true Between)
  line-fits o p g c s standing known spoken stage x l is_open none f = record {
    known = f.known;
    seat = f.seat ∙ ap (λ (n : Option ℕ). seat_of_reader n (g.desk s).start) none;
    spoken = said-more o p s x l is_open;
    needless = said-needs o p s x l is_open s ∙ f.needless;
    stage = refl;
    wants = f.wants;
  }

  line-tied : (o : Opening) (p : Place) (c : Shared) (s : ℕ) (x : Transaction) (l : Line) → p.transaction s ≡ Some x → opened_of c.locks s ≡ None → IsTiedTo p c.locks → IsTiedTo (after o p (Said s l.item l.choices l.reply)) c.locks
  line-tied o p c s x l is_open closed tied = ended-tied c.locks c.locks s p (after o p (Said s l.item l.choices l.reply)) tied (λ u other. refl) closed refl refl (λ t. said-needs o p s x l is_open t ∙ tied.needs t)

  -- its job came back with a record
  pub answers-to-reader : (s : ℕ) (c : Shared) (left : List Item) (total : ℕ) (standing : Standing) (known : Held) (spoken : Bool) (item : Item) (r : TxRecord) →
      IsFound M c.word standing (uttered_of item) (knows known) (Done r) →
      Step M s c (session left total (Reading (reader standing known spoken (Working item Out)))) c (session left total (Reading (reader ReadOnly known true Between))) (Said s (uttered_of item) r.choices r.reply ∷ [])
  answers-to-reader s c left total standing known spoken item r found = record {
    word = refl;
    others = leaves-others s c;
    moments = (tt, tt);
    leaves = λ o p g f.
        let i = uttered_of item in
        let w : Reads M p g s standing (Some i) = f.here.stands.state in
        let l : Line = record { item = i; choices = r.choices; reply = r.reply } in
        let right : IsRight M c.word standing (g.desk s).known (worked_of i r) = subst (λ k. IsRight M c.word standing k (worked_of i r)) (sym f.fits.phase.known) found.right in
        record {
          ground = g;
          steps = answers-reading M orderly o p g s (map uttered_of left) total standing (worked_of i r) f.here
              (subst (λ (u : List ℕ). IsRight M u standing (g.desk s).known (worked_of i r)) (sym f.word) right)
              (stays-open (p.transaction s) spoken i r.reply f.fits.phase.spoken (reader-stays M orderly c.word p g s standing i r spoken w right f.fits.phase.spoken f.fits.phase.stage.1)) (reader-undone M orderly c.word p g s standing i r spoken w right f.fits.phase.spoken f.fits.phase.stage);
          fits = record {
            ground = record { now = f.fits.ground.now; time = f.fits.ground.time; dead = f.fits.ground.dead };
            tied = line-tied o p c s w.transaction l w.is_open f.fits.phase.wants f.fits.tied;
            phase = line-fits o p g c s standing known spoken (Working item Out) w.transaction l w.is_open refl f.fits.phase;
          };
          counted = counted-events o p (Said s i r.choices r.reply ∷ []) c.shelf (tt, tt) f.counted;
        };
  }

  -- no memory was found for it
  pub forgoes-to-reader : (s : ℕ) (c : Shared) (left : List Item) (total : ℕ) (standing : Standing) (known : Held) (spoken : Bool) (item : Item) (stage : ReaderStage) → reader_item stage ≡ Some (uttered_of item) → (spoken || not (leaves_none (uttered_of item))) ≡ true →
      Step M s c (session left total (Reading (reader standing known spoken stage))) c (session left total (Reading (reader ReadOnly known true Between))) (Said s (uttered_of item) [] NoMemory ∷ [])
  forgoes-to-reader s c left total standing known spoken item stage is may = record {
    word = refl;
    others = leaves-others s c;
    moments = (tt, tt);
    leaves = λ o p g f.
        let i = uttered_of item in
        let here : Here M o p g s (member (map uttered_of left) (reading standing (Some i)) total) = subst (λ (u : Option Uttered). Here M o p g s (member (map uttered_of left) (reading standing u) total)) is f.here in
        let w : Reads M p g s standing (Some i) = here.stands.state in
        let l : Line = record { item = i; choices = []; reply = NoMemory } in
        record {
          ground = g;
          steps = refuses-reading M orderly o p g s (map uttered_of left) total standing l here refl (λ t sound. tt) refl
              (stays-open (p.transaction s) spoken i NoMemory f.fits.phase.spoken (still spoken (leaves_none i) may)) (and-undone (ends_by i));
          fits = record {
            ground = record { now = f.fits.ground.now; time = f.fits.ground.time; dead = f.fits.ground.dead };
            tied = line-tied o p c s w.transaction l w.is_open f.fits.phase.wants f.fits.tied;
            phase = line-fits o p g c s standing known spoken stage w.transaction l w.is_open (copies-none spoken stage i is f.fits.phase.stage may) f.fits.phase;
          };
          counted = counted-events o p (Said s i [] NoMemory ∷ []) c.shelf (tt, tt) f.counted;
        };
  }
    where
      still : (b l : Bool) → (b || not l) ≡ true → (b || not (l && true)) ≡ true
      still b l h = grind arith
