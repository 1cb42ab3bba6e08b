-- A transaction is told to end, and ends.
use Rattle.std.proofs.Common.{◌≡◌, ◌≤◌, ℕ, ◌∷◌, [], Bool, false, List, map, refl, ◌∙◌, sym, ap, subst, arith, Option, Some, None}
use Rattle.std.proofs.lemmas.Option.{same_Some}
use Rattle.rdo_ast.specs.declared.reply.Reply.TheVariants as r
use Rattle.rdo_ast.specs.declared.reply.Standing.{Standing}
use Rattle.rdo_ast.specs.declared.syntax.Item.{Item}
use Rattle.rdo_ast.specs.Tree.{said, commit, rollback}
use Rattle.rdo_ast.specs.Views.{uttered_of}
use Rattle.lock_tree_laws.specs.Forest.{State}
use Rattle.rdb_account.specs.Events.{Said, Committed, RolledBack}
use Rattle.rdb_account.specs.Places.{Place, Transaction, after}
use Rattle.rdb_account.specs.Legal.{has_none}
use Rattle.line_view.specs.Held.{Held, knows, nothing}
use Rattle.line_view.specs.Knowledge.{Lines}
use Rattle.line_view.specs.declared.writes.Write.{Write}
use Rattle.line_view.specs.Writes.{laid_all}
use Rattle.line_steps.specs.session_jobs.Records.{Model, IsOrderly}
use Rattle.line_store.specs.Seats.{outside as seat_outside, rolling_back, rolled_back, done_at, writes_of}
use Rattle.line_store.specs.Shelves.{Shelf}
use Rattle.line_store.specs.Seats.{closing}
use Rattle.line_store.specs.Calls.{Moves, IsDone, IsCommitted}
use Rattle.line_steps.specs.Members.{member, writing, ended}
use Rattle.line_steps.specs.Right.{Desk, Ground, Writes, at_end}
use Rattle.line_steps.specs.Steps.{Steps}
use Rattle.line_steps.proofs.Taking.{takes-up}
use Rattle.line_steps.proofs.Ending.{commits, rolls-back, ends}
use Rattle.line_steps.proofs.Kept.{arrives, in-turn, elapses}
use Rattle.session_states.specs.declared.stage.End.TheVariants.{Committing, RollingBack, Leaving}
use Rattle.session_states.specs.declared.stage.Stage.TheVariants.{Between, Ending}
use Rattle.session_states.specs.declared.stage.Phase.TheVariants.{Outside, Closing, Writing, Over}
use Rattle.session_states.specs.States.{writer, session}
use Rattle.session_states.specs.Shared.{Shared, with_shelf, with_both, RestsWith}
use Rattle.session_states.specs.Steps.{Step}
use Rattle.session_states.proofs.Basics.{at_time}
use Rattle.session_states.proofs.Ends.{rolled-place, committed-place, then-said, gone-tied}
use Rattle.session_states.proofs.Resting.{found-here, none-dead, time-later, rests-on}
use Rattle.line_steps.proofs.of_lock_ties.Places.{at-same}
use Rattle.store_counts.proofs.Kept.{counted-events}
use Rattle.session_states.proofs.Counting.{counted-moved, counted-ended, counted-committed, rolled-writes, rolled-aside, done-aside}

pub is-open : (x : Option Transaction) (t : Transaction) → x ≡ Some t → has_none x ≡ false
is-open x t e = ap has_none e

module _ (M : Model) (orderly : IsOrderly M) where
  abbrev left_desk : Ground → Desk
  left_desk g = record { known = knows nothing; writes = []; start = g.now }

  -- ---- the store is told to undo

  -- for a ROLLBACK, which is taken up
  pub rolls-on : (s : ℕ) (c : Shared) (shelf : Shelf) (item : Item) (left : List Item) (total : ℕ) (standing : Standing) (known : Held) (spoken waits : Bool) → uttered_of item ≡ said rollback → Moves s (rolled_back (c.shelf.seat s)) c.shelf shelf →
      Step M s c (session (item ∷ left) total (Writing (writer standing known spoken waits Between))) (with_shelf shelf c) (session left total (Writing (writer standing known spoken waits (Ending RollingBack)))) []
  rolls-on s c shelf item left total standing known spoken waits is moves = record {
    word = refl;
    others = record { store = moves.others; locks = λ u other. refl };
    moments = tt;
    leaves = λ o p g f.
        let items = map uttered_of left in
        let i = uttered_of item in
        let m = member (i ∷ items) (writing standing None) total in
        let n = member items (writing standing (Some i)) total in
        let k : Ground = at_time shelf.clock.time g in
        let a : Steps M o p g s n g [] = takes-up M orderly o p g s i items total standing f.here in
        let b : Steps M o a.to g s n k [] = elapses M orderly o a.to g s items (writing standing (Some i)) total shelf.clock.time
        (found-here M orderly o a.to g s n (arrives M orderly o p g g s m n [] (none-dead M orderly o p g s m f.here) f.here a))
        (time-later M orderly o p g s c shelf (item ∷ left) total (Writing (writer standing known spoken waits Between)) moves.others f) in
        let ab : Steps M o p g s n k [] = in-turn M orderly o p g g k s n n [] [] a b in
        record {
          ground = k;
          steps = subst (λ u. Steps M o p g s (member items (writing standing (Some u)) total) k []) is ab;
          fits = record {
            ground = record { now = f.fits.ground.now ∙ sym moves.now; time = refl; dead = f.fits.ground.dead };
            tied = f.fits.tied;
            phase = record {
              desk = (f.fits.phase.desk.0, moves.mine ∙ ap rolled_back f.fits.phase.desk.1);
              spoken = f.fits.phase.spoken;
              waits = f.fits.phase.waits;
              stage = (f.fits.phase.stage, tt);
              wants = f.fits.phase.wants;
              journal = f.fits.phase.journal;
              ends = tt;
              claims = tt;
            };
          };
          counted = counted-moved o p s (rolled_back (c.shelf.seat s)) c.shelf shelf moves (λ e. rolled-writes (c.shelf.seat s)) (rolled-aside (c.shelf.seat s)) f.counted;
        };
  }

  -- where the script is at its end
  pub leaves-on : (s : ℕ) (c : Shared) (shelf : Shelf) (total : ℕ) (standing : Standing) (known : Held) (spoken waits : Bool) → Moves s (rolled_back (c.shelf.seat s)) c.shelf shelf →
      Step M s c (session [] total (Writing (writer standing known spoken waits Between))) (with_shelf shelf c) (session [] total (Writing (writer standing known spoken waits (Ending Leaving)))) []
  leaves-on s c shelf total standing known spoken waits moves =
      rests-on M orderly s c shelf [] total (Writing (writer standing known spoken waits Between)) (Writing (writer standing known spoken waits (Ending Leaving))) refl moves.others moves.now
      (λ o p g f. counted-moved o p s (rolled_back (c.shelf.seat s)) c.shelf shelf moves (λ e. rolled-writes (c.shelf.seat s)) (rolled-aside (c.shelf.seat s)) f.counted)
      (λ o p g f. record {
        desk = (f.fits.phase.desk.0, moves.mine ∙ ap rolled_back f.fits.phase.desk.1);
        spoken = f.fits.phase.spoken;
        waits = f.fits.phase.waits;
        stage = (f.fits.phase.stage, tt);
        wants = f.fits.phase.wants;
        journal = f.fits.phase.journal;
        ends = refl;
        claims = tt;
      })

  -- ---- the transaction has ended, and its locks are released

  undone-seat : (c : Shared) (shelf : Shelf) (s : ℕ) (ws : List Write) → c.shelf.seat s ≡ rolling_back ws → IsDone s c.shelf shelf → shelf.seat s ≡ seat_outside
  undone-seat c shelf s ws was done = done.moves.mine ∙ same_Some done.seat seat_outside (sym done.comes ∙ ap done_at was)

  pub rolled-on : (s : ℕ) (c : Shared) (shelf : Shelf) (locks : State) (left : List Item) (total : ℕ) (standing : Standing) (known : Held) (spoken waits : Bool) → IsDone s c.shelf shelf → RestsWith s [] c.locks locks →
      Step M s c (session left total (Writing (writer standing known spoken waits (Ending RollingBack)))) (with_both shelf locks c) (session left total Outside) (RolledBack s ∷ Said s (said rollback) [] (r.Done []) ∷ [])
  rolled-on s c shelf locks left total standing known spoken waits done rests = record {
    word = refl;
    others = record { store = done.moves.others; locks = rests.others };
    moments = (tt, (tt, tt));
    leaves = λ o p g f.
        let items = map uttered_of left in
        let w : Writes M o p g s standing (Some (said rollback)) = f.here.stands.state in
        let q : Place = after o p (RolledBack s) in
        let one = rolled-place o p s in
        let two = then-said o p q s (said rollback) [] (r.Done []) one.0 one.1 in
        record {
          ground = at_end s g.now (left_desk g) shelf.clock.time g;
          steps = rolls-back M orderly o p g s (member items (writing standing (Some (said rollback))) total) items (left_desk g) shelf.clock.time f.here refl f.here.stands.lives (is-open (p.transaction s) w.transaction w.is_open)
              (time-later M orderly o p g s c shelf left total (Writing (writer standing known spoken waits (Ending RollingBack))) done.moves.others f);
          fits = record {
            ground = record { now = f.fits.ground.now ∙ sym done.moves.now; time = refl; dead = f.fits.ground.dead };
            tied = gone-tied p (after o q (Said s (said rollback) [] (r.Done []))) c.locks locks s f.fits.tied rests (λ t. ap (λ (e : ℕ → Option Transaction). e t) two.0) two.1;
            phase = (undone-seat c shelf s (g.desk s).writes f.fits.phase.desk.1 done, rests.ended);
          };
          counted = counted-ended o p (RolledBack s ∷ Said s (said rollback) [] (r.Done []) ∷ []) s done.seat c.shelf shelf (λ y e. (e, (tt, tt))) (done-aside (c.shelf.seat s) done.seat done.comes) (ap (λ (e : ℕ → Option Transaction). e s) two.0 ∙ at-same s None p.transaction) done.moves f.counted;
        };
  }

  pub left-on : (s : ℕ) (c : Shared) (shelf : Shelf) (locks : State) (left : List Item) (total : ℕ) (standing : Standing) (known : Held) (spoken waits : Bool) → IsDone s c.shelf shelf → RestsWith s [] c.locks locks →
      Step M s c (session left total (Writing (writer standing known spoken waits (Ending Leaving)))) (with_both shelf locks c) (session left total Over) (RolledBack s ∷ [])
  left-on s c shelf locks left total standing known spoken waits done rests = record {
    word = refl;
    others = record { store = done.moves.others; locks = rests.others };
    moments = (tt, tt);
    leaves = λ o p g f.
        let items = map uttered_of left in
        let none : items ≡ [] = ap (map uttered_of) f.fits.phase.ends in
        let w : Writes M o p g s standing None = f.here.stands.state in
        let one = rolled-place o p s in
        let k : Ground = at_end s g.now (left_desk g) shelf.clock.time g in
        let steps : Steps M o p g s (member [] ended total) k (RolledBack s ∷ []) =
        ends M orderly o p g s (member items (writing standing None) total) (left_desk g) shelf.clock.time f.here none f.here.stands.lives (is-open (p.transaction s) w.transaction w.is_open)
        (time-later M orderly o p g s c shelf left total (Writing (writer standing known spoken waits (Ending Leaving))) done.moves.others f) in
        record {
          ground = k;
          steps = subst (λ xs. Steps M o p g s (member xs ended total) k (RolledBack s ∷ [])) (sym none) steps;
          fits = record {
            ground = record { now = f.fits.ground.now ∙ sym done.moves.now; time = refl; dead = f.fits.ground.dead };
            tied = gone-tied p (after o p (RolledBack s)) c.locks locks s f.fits.tied rests (λ t. ap (λ (e : ℕ → Option Transaction). e t) one.0) one.1;
            phase = (undone-seat c shelf s (g.desk s).writes f.fits.phase.desk.1 done, rests.ended);
          };
          counted = counted-ended o p (RolledBack s ∷ []) s done.seat c.shelf shelf (λ y e. (e, tt)) (done-aside (c.shelf.seat s) done.seat done.comes) (ap (λ (e : ℕ → Option Transaction). e s) one.0 ∙ at-same s None p.transaction) done.moves f.counted;
        };
  }

  pub committed-on : (s : ℕ) (c : Shared) (shelf : Shelf) (locks : State) (left : List Item) (total : ℕ) (standing : Standing) (known : Held) (spoken waits : Bool) (moment : ℕ) → IsCommitted s moment c.shelf shelf → RestsWith s [] c.locks locks →
      Step M s c (session left total (Writing (writer standing known spoken waits (Ending Committing)))) (with_both shelf locks c) (session left total Closing) (Committed s moment ∷ Said s (said commit) [] (r.Done []) ∷ [])
  committed-on s c shelf locks left total standing known spoken waits moment done rests = record {
    word = refl;
    others = record { store = done.commits.others; locks = rests.others };
    moments = (done.commits.at, (tt, tt));
    leaves = λ o p g f.
        let w : Writes M o p g s standing (Some (said commit)) = f.here.stands.state in
        let ws = (g.desk s).writes in
        let later = time-later M orderly o p g s c shelf left total (Writing (writer standing known spoken waits (Ending Committing))) done.commits.others f in
        let same : done.writes ≡ ws = ap writes_of (sym done.was ∙ f.fits.phase.desk.1) in
        let q : Place = after o p (Committed s moment) in
        let one = committed-place o p s w.transaction moment w.is_open in
        let two = then-said o p q s (said commit) [] (r.Done []) one.0 one.1 in
        record {
          ground = at_end s (laid_all ws g.now) (left_desk g) shelf.clock.time g;
          steps = commits M orderly o p g s (map uttered_of left) total standing (left_desk g) moment shelf.clock.time f.here (past p g shelf moment f.here.fit.past later done.commits.at) (now shelf moment done.commits.at);
          fits = record {
            ground = record {
              now = ap (λ (vs : List Write). laid_all vs g.now) (sym same) ∙ (ap (λ (l : Lines). laid_all done.writes l) f.fits.ground.now ∙ sym done.commits.now);
              time = refl;
              dead = f.fits.ground.dead;
            };
            tied = gone-tied p (after o q (Said s (said commit) [] (r.Done []))) c.locks locks s f.fits.tied rests (λ t. ap (λ (e : ℕ → Option Transaction). e t) two.0) two.1;
            phase = (ap done_at done.commits.mine, rests.ended);
          };
          counted = counted-events o q (Said s (said commit) [] (r.Done []) ∷ []) shelf (tt, tt)
              (counted-committed o p q s moment w.transaction done.writes closing c.shelf shelf w.is_open w.writes (sym (ap writes_of done.was)) done.commits refl (λ t. ap (λ (e : ℕ → Option Transaction). e t) one.0) refl refl refl f.counted);
        };
  }
    where
      past : (p : Place) (g : Ground) (shelf : Shelf) (moment : ℕ) → p.moment ≤ g.time → g.time ≤ shelf.clock.time → moment ≡ shelf.clock.time → p.moment ≤ moment
      past p g shelf moment a b e = omega (arith, a, b, e)

      now : (shelf : Shelf) (moment : ℕ) → moment ≡ shelf.clock.time → moment ≤ shelf.clock.time
      now shelf moment e = omega (arith, e)
