-- The store lays a record's writes, and the record is said.
use Rattle.std.proofs.Common.{◌≡◌, ℕ, ◌++◌, ◌∷◌, [], ◌==◌, ◌||◌, not, Bool, true, false, List, length, map, refl, ◌∙◌, sym, ap, subst, arith, Option, Some, None, inl, inr, slice_get}
use Rattle.std.proofs.lemmas.Bool.{or_cases}
use Rattle.std.proofs.lemmas.Option.{none-some, same_Some}
use Rattle.rdo_ast.specs.declared.reply.Reply.{Reply}
use Rattle.rdo_ast.specs.declared.reply.Standing.{Standing}
use Rattle.rdo_ast.specs.declared.syntax.Item.{Item}
use Rattle.rdo_ast.specs.Tree.{Uttered}
use Rattle.rdo_ast.specs.Views.{uttered_of}
use Rattle.lock_tree_laws.specs.Forest.{opened_of}
use Rattle.rdb_account.specs.Events.{Said}
use Rattle.rdb_account.specs.Places.{Opening, Place, Transaction, Line, at, after, changed, with_line, is_done, is_first_refused}
use Rattle.rdb_account.specs.Lawful.{got_of, is_nowait}
use Rattle.line_view.specs.declared.writes.Write.{Write}
use Rattle.line_view.specs.Held.{Held, knows}
use Rattle.line_view.specs.Knowledge.{Lines, Agrees}
use Rattle.line_view.specs.Writes.{laid_all}
use Rattle.stepped_jobs.specs.kept_apart.Guards.{AreOwn}
use Rattle.stepped_jobs.specs.kept_apart.Alike.{IsGuarded}
use Rattle.stepped_jobs.proofs.of_kept_apart.Alike.{laid-all-in-order}
use Rattle.line_steps.specs.session_jobs.Records.{Model, IsOrderly, IsRight}
use Rattle.line_steps.specs.session_jobs.Jobs.{worked_of}
use Rattle.line_steps.specs.session_jobs.declared.jobs.TxRecord.{TxRecord}
use Rattle.line_store.specs.Seats.{Seat, IsMember, writing as seat_writing, writes_of, done_at, failed_at, Adds}
use Rattle.line_store.specs.Shelves.{Shelf}
use Rattle.line_store.specs.Calls.{Changes, IsDone, Moves}
use Rattle.line_steps.specs.lock_ties.Ties.{needs_at}
use Rattle.line_steps.proofs.of_lock_ties.Places.{at-same, at-other, number}
use Rattle.line_steps.proofs.of_lock_ties.Got.{ended-tied}
use Rattle.line_steps.specs.Right.{Desk, Ground, Writes, with_desk}
use Rattle.line_steps.proofs.Common.{desk-same}
use Rattle.line_steps.proofs.Saying.{answers-writing}
use Rattle.session_states.specs.declared.stage.Laying.TheVariants.{Claiming, Changing, Broken}
use Rattle.session_states.specs.declared.stage.Stage.TheVariants.{Saying}
use Rattle.session_states.specs.declared.stage.Phase.TheVariants.{Writing}
use Rattle.session_states.specs.Locks.{lock_of, lock_of_write}
use Rattle.session_states.specs.Turns.{said_writer}
use Rattle.session_states.specs.States.{writer, session}
use Rattle.session_states.specs.Shared.{Shared, with_shelf}
use Rattle.session_states.specs.Fits.{has_said, IsLaid, WantsAtMost, Follows}
use Rattle.session_states.specs.Steps.{Step}
use Rattle.session_states.proofs.Basics.{at_time, said-first, done-first, take-all, own-added}
use Rattle.session_states.proofs.Resting.{leaves-others, rests-on, time-later}
use Rattle.store_counts.specs.Counts.{AreClaimed}
use Rattle.store_counts.proofs.Kept.{counted-events, counted-changes}
use Rattle.session_states.proofs.Counting.{counted-moved, none-more, done-aside, failed-writes, failed-aside}

write-none : (x : Option Write) → lock_of_write x ≡ None → x ≡ None
write-none None h = refl
write-none (Some w) h = absurd (none-some _ (sym h))

pub said-needs : (o : Opening) (p : Place) (s : ℕ) (x : Transaction) (l : Line) → p.transaction s ≡ Some x → (t : ℕ) → needs_at (after o p (Said s l.item l.choices l.reply)) t ≡ needs_at p t
said-needs o p s x l is_open t = ap (λ (z : Option Transaction). got_of ((changed s (with_line l) z p).transaction t)) is_open ∙ by (t == s) refl
  where
    by : (b : Bool) → (t == s) ≡ b → got_of (at s (Some (with_line l x)) p.transaction t) ≡ needs_at p t
    by true e = subst (λ u. got_of (at s (Some (with_line l x)) p.transaction u) ≡ needs_at p u) (sym (number t s e)) (ap got_of (at-same s (Some (with_line l x)) p.transaction) ∙ sym (ap got_of is_open))
    by false e = ap got_of (at-other s t (Some (with_line l x)) p.transaction e)

pub said-more : (o : Opening) (p : Place) (s : ℕ) (x : Transaction) (l : Line) → p.transaction s ≡ Some x → has_said ((after o p (Said s l.item l.choices l.reply)).transaction s) ≡ true
said-more o p s x l is_open =
    ap (λ (z : Option Transaction). has_said ((changed s (with_line l) z p).transaction s)) is_open ∙ (ap has_said (at-same s (Some (with_line l x)) p.transaction) ∙ some x.lines)
  where
    some : (lines : List Line) → not (length (lines ++ l ∷ []) == 0) ≡ true
    some [] = refl
    some (m ∷ ls) = grind arith

pub nowait-said : (o : Opening) (p : Place) (s : ℕ) (x : Transaction) (l : Line) → p.transaction s ≡ Some x → is_nowait ((after o p (Said s l.item l.choices l.reply)).transaction s) ≡ is_nowait (p.transaction s)
nowait-said o p s x l is_open =
    ap (λ (z : Option Transaction). is_nowait ((changed s (with_line l) z p).transaction s)) is_open ∙ (ap is_nowait (at-same s (Some (with_line l x)) p.transaction) ∙ sym (ap is_nowait is_open))

stays-open : (x : Option Transaction) (spoken : Bool) (item : Uttered) (reply : Reply) → has_said x ≡ spoken → (spoken || is_done reply) ≡ true → is_first_refused x item reply ≡ false
stays-open x spoken item reply says may = elim (or_cases spoken (is_done reply) may) [
  | inl h ↦ said-first x item reply (says ∙ h)
  | inr h ↦ done-first x item reply h
]

-- where nothing is written no lock is wanted
unwanted : (s : ℕ) (c : Shared) (r : TxRecord) (place : ℕ) → r.writes ≡ [] → WantsAtMost (lock_of_write (slice_get r.writes place)) (opened_of c.locks s) → opened_of c.locks s ≡ None
unwanted s c r place none h = subst (λ (ws : List Write). WantsAtMost (lock_of_write (slice_get ws place)) (opened_of c.locks s)) none h

module _ (M : Model) (orderly : IsOrderly M) where
  own-now : (o : Opening) (p : Place) (g : Ground) (s : ℕ) (standing : Standing) (under : Option Uttered) → Writes M o p g s standing under → AreOwn (needs_at p s) (g.desk s).writes
  own-now o p g s standing under w = subst (λ (y : Option Transaction). AreOwn (got_of y) (g.desk s).writes) (sym w.is_open) w.is.own

  guarded-now : (o : Opening) (p : Place) (g : Ground) (s : ℕ) (standing : Standing) (under : Option Uttered) → Writes M o p g s standing under → IsGuarded (needs_at p s) (g.desk s).known
  guarded-now o p g s standing under w = subst (λ (y : Option Transaction). IsGuarded (got_of y) (g.desk s).known) (sym w.is_open) w.is.guarded

  -- all its lines are locked, and the store begins to lay its writes
  pub changes-on : (s : ℕ) (c : Shared) (shelf : Shelf) (left : List Item) (total : ℕ) (standing : Standing) (known new : Held) (spoken waits : Bool) (item : Item) (r : TxRecord) (place : ℕ) → lock_of (Saying item r (Claiming place)) ≡ None → (spoken || is_done r.reply) ≡ true → IsMember s →
      Changes s r.writes c.shelf shelf → Follows r.writes known new →
      Step M s c (session left total (Writing (writer standing known spoken waits (Saying item r (Claiming place))))) (with_shelf shelf c) (session left total (Writing (writer standing new spoken waits (Saying item r Changing)))) []
  changes-on s c shelf left total standing known new spoken waits item r place needless may member ch follows =
      rests-on M orderly s c shelf left total (Writing (writer standing known spoken waits (Saying item r (Claiming place)))) (Writing (writer standing new spoken waits (Saying item r Changing))) refl ch.others ch.now
      (λ o p g f.
      let w : Writes M o p g s standing (Some (uttered_of item)) = f.here.stands.state in
      let all = take-all r.writes place (write-none (slice_get r.writes place) needless) in
      counted-changes o p s w.transaction r.writes c.shelf shelf w.is_open member (subst (AreClaimed p s) all f.fits.phase.claims) ch f.counted)
      (λ o p g f.
      let w : Writes M o p g s standing (Some (uttered_of item)) = f.here.stands.state in
      let ws = (g.desk s).writes in
      let order = f.here.fit.order in
      let adds : Adds r.writes ws ch.behind = subst (λ (x : Seat). Adds r.writes (writes_of x) ch.behind) f.fits.phase.desk.1 ch.adds in
      let own : AreOwn (needs_at p s) r.writes = subst (λ (vs : List Write). AreOwn (needs_at p s) vs) (take-all r.writes place (write-none (slice_get r.writes place) needless)) f.fits.phase.stage.1.1 in
      record {
        desk = record {
          behind = ch.behind;
          seat = ch.mine;
          adds = adds;
          own = own-added (needs_at p s) r.writes ws ch.behind adds (own-now o p g s standing (Some (uttered_of item)) w) own;
          right = subst (λ k. IsRight M c.word standing k (worked_of (uttered_of item) r)) (sym f.fits.phase.desk.0) f.fits.phase.stage.1.0.right;
          guarded = follows.guarded (needs_at p s) own (subst (λ k. IsGuarded (needs_at p s) k) f.fits.phase.desk.0 (guarded-now o p g s standing (Some (uttered_of item)) w));
          agrees = subst (λ (l : Lines). Agrees (knows new) l) (sym (adds.laid g.now order))
              (follows.agrees (laid_all ws g.now) (laid-all-in-order ws g.now order) (subst (λ k. Agrees k (laid_all ws g.now)) f.fits.phase.desk.0 w.is.agrees));
        };
        spoken = f.fits.phase.spoken;
        waits = f.fits.phase.waits;
        stage = (f.fits.phase.stage.0, may);
        wants = subst (λ l. WantsAtMost l (opened_of c.locks s)) needless f.fits.phase.wants;
        journal = f.fits.phase.journal;
        ends = tt;
        claims = tt;
      })

  -- a step of the store failed as it laid them
  pub breaks-on : (s : ℕ) (c : Shared) (shelf : Shelf) (left : List Item) (total : ℕ) (standing : Standing) (known : Held) (spoken waits : Bool) (item : Item) (r : TxRecord) → Moves s (failed_at (c.shelf.seat s)) c.shelf shelf →
      Step M s c (session left total (Writing (writer standing known spoken waits (Saying item r Changing)))) (with_shelf shelf c) (session left total (Writing (writer standing known spoken waits (Saying item r Broken)))) []
  breaks-on s c shelf left total standing known spoken waits item r moves =
      rests-on M orderly s c shelf left total (Writing (writer standing known spoken waits (Saying item r Changing))) (Writing (writer standing known spoken waits (Saying item r Broken))) refl moves.others moves.now
      (λ o p g f. counted-moved o p s (failed_at (c.shelf.seat s)) c.shelf shelf moves (λ e. failed-writes (c.shelf.seat s)) (failed-aside (c.shelf.seat s)) f.counted)
      (λ o p g f.
      let laid : IsLaid M p g c s standing known (uttered_of item) r = f.fits.phase.desk in
      record {
        desk = record { behind = laid.behind; seat = moves.mine ∙ ap failed_at laid.seat };
        spoken = f.fits.phase.spoken;
        waits = f.fits.phase.waits;
        stage = f.fits.phase.stage;
        wants = f.fits.phase.wants;
        journal = f.fits.phase.journal;
        ends = tt;
        claims = tt;
      })

  -- its writes are laid, and it is said
  pub says-laid : (s : ℕ) (c : Shared) (shelf : Shelf) (left : List Item) (total : ℕ) (standing : Standing) (known : Held) (spoken waits : Bool) (item : Item) (r : TxRecord) → IsDone s c.shelf shelf →
      Step M s c (session left total (Writing (writer standing known spoken waits (Saying item r Changing)))) (with_shelf shelf c) (session left total (Writing (said_writer r known waits))) (Said s (uttered_of item) r.choices r.reply ∷ [])
  says-laid s c shelf left total standing known spoken waits item r done = record {
    word = refl;
    others = record { store = done.moves.others; locks = λ u other. refl };
    moments = (tt, tt);
    leaves = λ o p g f.
        let w : Writes M o p g s standing (Some (uttered_of item)) = f.here.stands.state in
        let laid : IsLaid M p g c s standing known (uttered_of item) r = f.fits.phase.desk in
        let e : Desk = record { known = knows known; writes = laid.behind; start = (g.desk s).start } in
        let h : Ground = at_time shelf.clock.time (with_desk s e g) in
        let l : Line = record { item = uttered_of item; choices = r.choices; reply = r.reply } in
        let seat : shelf.seat s ≡ seat_writing laid.behind = done.moves.mine ∙ same_Some done.seat (seat_writing laid.behind) (sym done.comes ∙ ap done_at laid.seat) in
        record {
          ground = h;
          steps = answers-writing M orderly o p g s (map uttered_of left) total standing (worked_of (uttered_of item) r) laid.behind (knows known) shelf.clock.time f.here
              (subst (λ (u : List ℕ). IsRight M u standing (g.desk s).known (worked_of (uttered_of item) r)) (sym f.word) laid.right) laid.own laid.adds.laid
              (stays-open (p.transaction s) spoken (uttered_of item) r.reply f.fits.phase.spoken f.fits.phase.stage.1) (rw f.fits.phase.stage.0 refl)
              (time-later M orderly o p g s c shelf left total (Writing (writer standing known spoken waits (Saying item r Changing))) done.moves.others f) laid.guarded laid.agrees;
          fits = record {
            ground = record { now = f.fits.ground.now ∙ sym done.moves.now; time = refl; dead = f.fits.ground.dead };
            tied = ended-tied c.locks c.locks s p (after o p (Said s (uttered_of item) r.choices r.reply)) f.fits.tied (λ u other. refl) f.fits.phase.wants refl refl
                (λ t. said-needs o p s w.transaction l w.is_open t ∙ f.fits.tied.needs t);
            phase = record {
              desk = (ap (λ (x : Desk). x.known) (desk-same s e g), subst (λ (x : Desk). shelf.seat s ≡ seat_writing x.writes) (sym (desk-same s e g)) seat);
              spoken = said-more o p s w.transaction l w.is_open;
              waits = nowait-said o p s w.transaction l w.is_open ∙ f.fits.phase.waits;
              stage = refl;
              wants = f.fits.phase.wants;
              journal = f.fits.phase.journal;
              ends = tt;
              claims = tt;
            };
          };
          counted = counted-events o p (Said s (uttered_of item) r.choices r.reply ∷ []) shelf (tt, tt)
              (counted-moved o p s done.seat c.shelf shelf done.moves (λ e. ap writes_of (same_Some done.seat (seat_writing laid.behind) (sym done.comes ∙ ap done_at laid.seat)) ∙ sym (ap writes_of laid.seat)) (none-more done.seat (c.shelf.seat s) (done-aside (c.shelf.seat s) done.seat done.comes)) f.counted);
        };
  }

  -- It writes nothing, and is said at once.
  pub says-at-once : (s : ℕ) (c : Shared) (left : List Item) (total : ℕ) (standing : Standing) (known : Held) (spoken waits : Bool) (item : Item) (r : TxRecord) (place : ℕ) → (spoken || is_done r.reply) ≡ true → r.writes ≡ [] →
      Step M s c (session left total (Writing (writer standing known spoken waits (Saying item r (Claiming place))))) c (session left total (Writing (said_writer r known waits))) (Said s (uttered_of item) r.choices r.reply ∷ [])
  says-at-once s c left total standing known spoken waits item r place may none = record {
    word = refl;
    others = leaves-others s c;
    moments = (tt, tt);
    leaves = λ o p g f.
        let i = uttered_of item in
        let w : Writes M o p g s standing (Some i) = f.here.stands.state in
        let ws = (g.desk s).writes in
        let e : Desk = record { known = knows known; writes = ws; start = (g.desk s).start } in
        let l : Line = record { item = i; choices = r.choices; reply = r.reply } in
        record {
          ground = at_time g.time (with_desk s e g);
          steps = answers-writing M orderly o p g s (map uttered_of left) total standing (worked_of i r) ws (knows known) g.time f.here
              (subst (λ (u : List ℕ). IsRight M u standing (g.desk s).known (worked_of i r)) (sym f.word)
              (subst (λ k. IsRight M c.word standing k (worked_of i r)) (sym f.fits.phase.desk.0) f.fits.phase.stage.1.0.right))
              (own-now o p g s standing (Some i) w) (λ all order. ap (λ (vs : List Write). laid_all vs (laid_all ws all)) (sym none))
              (stays-open (p.transaction s) spoken i r.reply f.fits.phase.spoken may) (rw f.fits.phase.stage.0 refl) (omega arith)
              (subst (λ k. IsGuarded (needs_at p s) k) f.fits.phase.desk.0 (guarded-now o p g s standing (Some i) w)) (subst (λ k. Agrees k (laid_all ws g.now)) f.fits.phase.desk.0 w.is.agrees);
          fits = let closed = unwanted s c r place none f.fits.phase.wants in record {
            ground = record { now = f.fits.ground.now; time = f.fits.ground.time; dead = f.fits.ground.dead };
            tied = ended-tied c.locks c.locks s p (after o p (Said s i r.choices r.reply)) f.fits.tied (λ u other. refl) closed refl refl
                (λ t. said-needs o p s w.transaction l w.is_open t ∙ f.fits.tied.needs t);
            phase = record {
              desk = (ap (λ (x : Desk). x.known) (desk-same s e g), subst (λ (x : Desk). c.shelf.seat s ≡ seat_writing x.writes) (sym (desk-same s e g)) f.fits.phase.desk.1);
              spoken = said-more o p s w.transaction l w.is_open;
              waits = nowait-said o p s w.transaction l w.is_open ∙ f.fits.phase.waits;
              stage = refl;
              wants = closed;
              journal = f.fits.phase.journal;
              ends = tt;
              claims = tt;
            };
          };
          counted = counted-events o p (Said s i r.choices r.reply ∷ []) c.shelf (tt, tt) f.counted;
        };
  }
