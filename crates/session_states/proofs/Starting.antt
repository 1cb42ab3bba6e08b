-- A START_TRANSACTION is refused, and leaves no transaction.
use Rattle.std.proofs.Common.{◌≡◌, ℕ, ◌++◌, ◌∷◌, [], ◌==◌, ◌&&◌, not, Bool, true, false, List, length, map, refl, ◌∙◌, sym, ap, subst, arith, Option, Some, None}
use Rattle.std.proofs.lemmas.Option.{same_Some}
use Rattle.rdo_ast.specs.declared.reply.Reply.{Reply}
use Rattle.rdo_ast.specs.declared.reply.Reply.TheVariants.{NoMemory}
use Rattle.rdo_ast.specs.declared.reply.Standing.{Standing}
use Rattle.rdo_ast.specs.declared.syntax.Item.{Item}
use Rattle.rdo_ast.specs.Tree.{Uttered}
use Rattle.rdo_ast.specs.Views.{uttered_of}
use Rattle.rdb_meaning.specs.Usual.{is_refusal_of_means}
use Rattle.rdb_meaning.specs.Checks.{Refusal}
use Rattle.rdb_meaning.specs.declared.tables.Tables.{Tables}
use Rattle.lock_needs.specs.declared.need.Need.{Need}
use Rattle.lock_needs.specs.Party.{Party}
use Rattle.lock_tree_laws.specs.Forest.{State, party_of}
use Rattle.lock_tree_laws.specs.Parties.{resting}
use Rattle.lock_tree_laws.specs.Wanted.{needs_of}
use Rattle.rdb_account.specs.Events.{Said, RolledBack}
use Rattle.rdb_account.specs.Places.{Opening, Place, Transaction, Line, after, begins, leaves_none, is_done, is_first_refused, place_from}
use Rattle.rdb_account.specs.Lawful.{IsExcused, has_cause, first_refusal, is_nowait}
use Rattle.rdb_account.specs.AskedFor.{item_asks}
use Rattle.rdb_account.specs.Legal.{ends_by}
use Rattle.rdb_account.proofs.Growth.{place-grown}
use Rattle.line_view.specs.declared.writes.Write.{Write}
use Rattle.line_view.specs.Held.{Held, knows, nothing}
use Rattle.line_view.specs.Writes.{laid_all}
use Rattle.line_steps.specs.session_jobs.Records.{Model, IsOrderly, IsRight}
use Rattle.line_steps.specs.session_jobs.Jobs.{worked_of}
use Rattle.line_steps.specs.session_jobs.declared.jobs.TxRecord.{TxRecord}
use Rattle.line_steps.specs.line_history.Transactions.{IsAskedOver}
use Rattle.line_steps.proofs.of_line_history.Standings.{starts-leaves, excused-undone}
use Rattle.line_store.specs.Seats.{Seat, outside as seat_outside, writing as seat_writing, set_aside, rolled_back, done_at}
use Rattle.line_store.specs.Shelves.{Shelf}
use Rattle.line_store.specs.Calls.{Moves}
use Rattle.line_steps.specs.lock_ties.Ties.{IsTiedTo, IsCall, wanted_at}
use Rattle.line_steps.proofs.of_lock_ties.Got.{closed-tied, wants-needs, wants-open}
use Rattle.line_steps.specs.Members.{member, writing, outside}
use Rattle.line_steps.specs.Right.{Desk, Ground, Writes, with_desk}
use Rattle.line_steps.specs.Steps.{Here, Steps}
use Rattle.line_steps.proofs.Wants.{wants-all}
use Rattle.line_steps.proofs.Starting.{start-worked, start-excused}
use Rattle.line_steps.proofs.Kept.{arrives, in-turn}
use Rattle.session_states.specs.declared.stage.Laying.TheVariants.{Claiming}
use Rattle.session_states.specs.declared.stage.Stage.{Stage}
use Rattle.session_states.specs.declared.stage.Stage.TheVariants.{Saying}
use Rattle.session_states.specs.declared.stage.Phase.TheVariants.{Closing, Writing}
use Rattle.session_states.specs.Locks.{lock_of}
use Rattle.session_states.specs.States.{item_of, is_at_rest, writer, session}
use Rattle.session_states.specs.Shared.{Shared, with_both, RestsWith}
use Rattle.session_states.specs.Fits.{has_said}
use Rattle.session_states.specs.Steps.{Step}
use Rattle.session_states.proofs.Basics.{at_time, said-wants}
use Rattle.session_states.proofs.Ends.{start-gone, start-unasked, rolled-place, needs-still, gone-tied}
use Rattle.session_states.proofs.Locking.{wanting-rests, desk-resting, lock-asks}
use Rattle.session_states.proofs.Resting.{none-dead, time-later}
use Rattle.session_states.proofs.Asking.{may-call}
use Rattle.line_steps.proofs.of_lock_ties.Places.{at-same}
use Rattle.session_states.proofs.Claims.{wanted-nothing, both-nothing}
use Rattle.session_states.proofs.Counting.{counted-ended}
use Rattle.session_states.proofs.Storing.{said-needs}
use Rattle.session_states.proofs.Refusing.{asks-free, unended}
use Rattle.session_states.proofs.Forgoing.{and-undone}
use Rattle.session_states.proofs.Moments.{wants-at, both-at}

module _ (M : Model) (orderly : IsOrderly M) where
  -- the first statement of a read-write transaction, where it isn't done
  first-refused : (o : Opening) (p : Place) (g : Ground) (s : ℕ) (standing : Standing) (item : Uttered) (reply : Reply) → Writes M o p g s standing (Some item) → has_said (p.transaction s) ≡ false → is_done reply ≡ false →
      is_first_refused (p.transaction s) item reply ≡ true
  first-refused o p g s standing item reply w silent undone =
      let x = w.transaction in
      let none : (length x.lines == 0) ≡ true = none-said (length x.lines == 0) (sym (ap has_said w.is_open) ∙ silent) in
      let b = w.spoken none in
      let begun : begins item ≡ Some x.kind = subst (λ (i : Uttered). begins i ≡ Some x.kind) (sym (same_Some item b.0 b.1)) b.2 in
      subst (λ (y : Option Transaction). is_first_refused y item reply ≡ true) (sym w.is_open) (all (length x.lines == 0) (leaves_none item) (is_done reply) none (starts-leaves item x.kind begun w.writes) undone)
    where
      none-said : (b : Bool) → not b ≡ false → b ≡ true
      none-said b h = grind arith

      all : (a b d : Bool) → a ≡ true → b ≡ true → d ≡ false → (a && (b && not d)) ≡ true
      all a b d h k e = grind arith

  abbrev left_desk : Ground → Desk
  left_desk g = record { known = knows nothing; writes = []; start = g.now }

  abbrev left_ground : ℕ → Shelf → Ground → Ground
  left_ground s shelf g = at_time shelf.clock.time (with_desk s (left_desk g) g)

  -- the seat of a transaction that the store is told to roll back
  closing-seat : (c : Shared) (shelf : Shelf) (s : ℕ) (g : Ground) → c.shelf.seat s ≡ seat_writing (g.desk s).writes → Moves s (rolled_back (c.shelf.seat s)) c.shelf shelf → done_at (shelf.seat s) ≡ Some seat_outside
  closing-seat c shelf s g at moves = ap done_at (moves.mine ∙ ap rolled_back at)

  idle-back : (seat : Seat) (ws : List Write) → seat ≡ seat_writing ws → set_aside (rolled_back seat) ≡ 0
  idle-back seat ws is = ap (λ (x : Seat). set_aside (rolled_back x)) is

  -- its record says so
  pub start-answered-on : (s : ℕ) (c : Shared) (shelf : Shelf) (locks : State) (left : List Item) (total : ℕ) (standing : Standing) (known : Held) (waits : Bool) (item : Item) (r : TxRecord) (place : ℕ) → is_done r.reply ≡ false →
      Moves s (rolled_back (c.shelf.seat s)) c.shelf shelf → RestsWith s [] c.locks locks →
      Step M s c (session left total (Writing (writer standing known false waits (Saying item r (Claiming place))))) (with_both shelf locks c) (session left total Closing) (Said s (uttered_of item) r.choices r.reply ∷ RolledBack s ∷ [])
  start-answered-on s c shelf locks left total standing known waits item r place undone moves rests = record {
    word = refl;
    others = record { store = moves.others; locks = rests.others };
    moments = (tt, (tt, tt));
    leaves = λ o p g f.
        let i = uttered_of item in
        let w : Writes M o p g s standing (Some i) = f.here.stands.state in
        let l : Line = record { item = i; choices = r.choices; reply = r.reply } in
        record {
          ground = left_ground s shelf g;
          steps = start-worked M orderly o p g s (map uttered_of left) total standing (worked_of i r) (left_desk g) shelf.clock.time
              (time-later M orderly o p g s c shelf left total (Writing (writer standing known false waits (Saying item r (Claiming place)))) moves.others f) f.here
              (subst (λ (u : List ℕ). IsRight M u standing (g.desk s).known (worked_of i r)) (sym f.word)
              (subst (λ k. IsRight M c.word standing k (worked_of i r)) (sym f.fits.phase.desk.0) f.fits.phase.stage.1.0.right))
              (first-refused o p g s standing i r.reply w f.fits.phase.spoken undone) (rw f.fits.phase.stage.0 refl);
          fits = record {
            ground = record { now = f.fits.ground.now ∙ sym moves.now; time = refl; dead = f.fits.ground.dead };
            tied = gone-tied p (after o (after o p (Said s i r.choices r.reply)) (RolledBack s)) c.locks locks s f.fits.tied rests (start-gone o p s w.transaction l w.is_open) (start-unasked o p s l);
            phase = (closing-seat c shelf s g f.fits.phase.desk.1 moves, rests.ended);
          };
          counted = counted-ended o p (Said s i r.choices r.reply ∷ RolledBack s ∷ []) s (rolled_back (c.shelf.seat s)) c.shelf shelf (λ y e. (tt, (e, tt))) (idle-back (c.shelf.seat s) (g.desk s).writes f.fits.phase.desk.1) (start-gone o p s w.transaction l w.is_open s ∙ at-same s None p.transaction) moves f.counted;
        };
  }

  -- no memory was found for it
  pub start-forgoes-on : (s : ℕ) (c : Shared) (shelf : Shelf) (locks : State) (left : List Item) (total : ℕ) (standing : Standing) (known : Held) (waits : Bool) (stage : Stage) (item : Uttered) → is_at_rest stage ≡ true → item_of stage ≡ Some item →
      Moves s (rolled_back (c.shelf.seat s)) c.shelf shelf → RestsWith s [] c.locks locks →
      Step M s c (session left total (Writing (writer standing known false waits stage))) (with_both shelf locks c) (session left total Closing) (Said s item [] NoMemory ∷ RolledBack s ∷ [])
  start-forgoes-on s c shelf locks left total standing known waits stage item idle is moves rests = record {
    word = refl;
    others = record { store = moves.others; locks = rests.others };
    moments = (tt, (tt, tt));
    leaves = λ o p g f.
        let items = map uttered_of left in
        let here : Here M o p g s (member items (writing standing (Some item)) total) = subst (λ u. Here M o p g s (member items (writing standing u) total)) is f.here in
        let w : Writes M o p g s standing (Some item) = here.stands.state in
        let at = desk-resting M orderly p g c s standing known stage idle f.fits.phase.desk in
        let l : Line = record { item = item; choices = []; reply = NoMemory } in
        record {
          ground = left_ground s shelf g;
          steps = start-excused M orderly o p g s items total standing l (left_desk g) shelf.clock.time
              (time-later M orderly o p g s c shelf left total (Writing (writer standing known false waits stage)) moves.others f) here refl (λ t sound. tt) refl
              (first-refused o p g s standing item NoMemory w f.fits.phase.spoken refl) (and-undone (ends_by item));
          fits = record {
            ground = record { now = f.fits.ground.now ∙ sym moves.now; time = refl; dead = f.fits.ground.dead };
            tied = gone-tied p (after o (after o p (Said s item [] NoMemory)) (RolledBack s)) c.locks locks s f.fits.tied rests (start-gone o p s w.transaction l w.is_open) (start-unasked o p s l);
            phase = (closing-seat c shelf s g at.1 moves, rests.ended);
          };
          counted = counted-ended o p (Said s item [] NoMemory ∷ RolledBack s ∷ []) s (rolled_back (c.shelf.seat s)) c.shelf shelf (λ y e. (tt, (e, tt))) (idle-back (c.shelf.seat s) (g.desk s).writes at.1) (start-gone o p s w.transaction l w.is_open s ∙ at-same s None p.transaction) moves f.counted;
        };
  }

  -- a lock refuses it
  pub start-refuses-on : (s : ℕ) (c : Shared) (shelf : Shelf) (mid locks : State) (left : List Item) (total : ℕ) (standing : Standing) (known : Held) (waits : Bool) (stage : Stage) (n : Need) (item : Uttered) (reply : Reply) → lock_of stage ≡ Some n →
      item_of stage ≡ Some item → ends_by item ≡ false → (call : IsCall s n c.locks mid) → party_of mid.parties s ≡ resting (needs_of c.locks s) → is_refusal_of_means reply ≡ true →
      ((word : List ℕ) (t : Tables) → first_refusal standing item ≡ None → item_asks None t n item ≡ true → IsExcused reply word standing t item) →
      ((o : Opening) (p : Place) (x : Transaction) → p.transaction s ≡ Some x → IsTiedTo p c.locks → is_nowait (p.transaction s) ≡ not waits → has_cause o (place_from o p (wanted_at s n call.asks.nodes)) s reply ≡ true) →
      Moves s (rolled_back (c.shelf.seat s)) c.shelf shelf → RestsWith s [] mid locks →
      Step M s c (session left total (Writing (writer standing known false waits stage))) (with_both shelf locks c) (session left total Closing) (wanted_at s n call.asks.nodes ++ Said s item [] reply ∷ RolledBack s ∷ [])
  start-refuses-on s c shelf mid locks left total standing known waits stage n item reply wants is stays call ended refused excused cause moves rests = record {
    word = refl;
    others = record { store = moves.others; locks = λ u other. rests.others u other ∙ call.others u other };
    moments = both-at shelf.clock.time (wanted_at s n call.asks.nodes) (Said s item [] reply ∷ RolledBack s ∷ []) (wants-at shelf.clock.time s n call.asks.nodes) (tt, (tt, tt));
    leaves = λ o p g f.
        let items = map uttered_of left in
        let i = item in
        let m = member items (writing standing (Some i)) total in
        let n' = member items outside total in
        let x = f.here.stands.state.transaction in
        let is_open = f.here.stands.state.is_open in
        let nodes = call.asks.nodes in
        let es = wanted_at s n nodes in
        let q = place_from o p es in
        let l : Line = record { item = i; choices = []; reply = reply } in
        let r = after o q (Said s i [] reply) in
        let there = wants-open o p s x n nodes is_open in
        let at = desk-resting M orderly p g c s standing known stage (wanting-rests stage n i wants is stays) f.fits.phase.desk in
        let none = none-dead M orderly o p g s (member items (writing standing (item_of stage)) total) f.here in
        let here : Here M o p g s m = subst (λ u. Here M o p g s (member items (writing standing u) total)) is f.here in
        let asked : IsAskedOver M standing (Some i) (g.desk s).known n = subst (λ u. IsAskedOver M standing u (g.desk s).known n) is (lock-asks M orderly o p g c s left total standing known false waits stage n wants f) in
        let a : Steps M o p g s m g es = wants-all M orderly o p g s items total standing i n nodes none here call.asks.way (may-call p c.locks s n f.fits.tied call.same) asked in
        let h : Here M o a.to g s m = arrives M orderly o p g g s m m es none here a in
        let w : Writes M o a.to g s standing (Some i) = h.stands.state in
        let silent : has_said (a.to.transaction s) ≡ false = subst (λ (y : Place). has_said (y.transaction s) ≡ false) a.leads (said-wants o p s x n nodes is_open ∙ f.fits.phase.spoken) in
        let b : Steps M o a.to g s n' (left_ground s shelf g) (Said s i [] reply ∷ RolledBack s ∷ []) =
        start-excused M orderly o a.to g s items total standing l (left_desk g) shelf.clock.time
        (time-later M orderly o p g s c shelf left total (Writing (writer standing known false waits stage)) moves.others f) h refused
        (λ t sound. let e = asked (laid_all (g.desk s).writes g.now) t sound w.is.agrees in let free = asks-free (first_refusal standing i) t n i e in
        excused o.word t free (subst (λ (u : Refusal). item_asks u t n i ≡ true) free e))
        (subst (λ (y : Place). has_cause o y s reply ≡ true) a.leads (cause o p x is_open f.fits.tied f.fits.phase.waits))
        (first-refused o a.to g s standing i reply w silent (excused-undone reply refused)) (unended (ends_by i) (is_done reply) stays) in
        let tied : IsTiedTo r mid =
        closed-tied o c.locks mid s n p r x is_open f.fits.tied call (ap (λ (y : Party). y.opened) ended) refl
        (λ t. said-needs o q s there.0 l there.1 t ∙ (wants-needs o p s x n nodes is_open t ∙ (f.fits.tied.needs t ∙ needs-still s c.locks mid call.others (ap (λ (y : Party). y.needs) ended) t))) in
        let gone = rolled-place o r s in
        record {
          ground = left_ground s shelf g;
          steps = in-turn M orderly o p g g (left_ground s shelf g) s m n' es (Said s i [] reply ∷ RolledBack s ∷ []) a b;
          fits = record {
            ground = record { now = f.fits.ground.now ∙ sym moves.now; time = refl; dead = f.fits.ground.dead };
            tied = subst (λ (y : Place). IsTiedTo y locks) (sym (place-grown o p es (Said s i [] reply ∷ RolledBack s ∷ [])))
                (gone-tied r (after o r (RolledBack s)) mid locks s tied rests (λ t. ap (λ (e : ℕ → Option Transaction). e t) gone.0) gone.1);
            phase = (closing-seat c shelf s g at.1 moves, rests.ended);
          };
          counted = counted-ended o p (es ++ Said s i [] reply ∷ RolledBack s ∷ []) s (rolled_back (c.shelf.seat s)) c.shelf shelf (λ y e. both-nothing y es (Said s i [] reply ∷ RolledBack s ∷ []) (wanted-nothing y s n nodes) (tt, (e, tt))) (idle-back (c.shelf.seat s) (g.desk s).writes at.1) (ap (λ (y : Place). y.transaction s) (place-grown o p es (Said s i [] reply ∷ RolledBack s ∷ [])) ∙ (ap (λ (e : ℕ → Option Transaction). e s) gone.0 ∙ at-same s None r.transaction)) moves f.counted;
        };
  }
