-- A transaction begins, the store works for it, and its commit begins.
use Rattle.std.proofs.Common.{◌≡◌, ℕ, ◌∷◌, [], ◌==◌, not, Bool, true, false, List, map, refl, ◌∙◌, sym, ap, subst, arith, Some, None}
use Rattle.std.proofs.lemmas.Option.{none-some, same_Some}
use Rattle.rdo_ast.specs.declared.reply.Standing.{Standing}
use Rattle.rdo_ast.specs.declared.reply.Standing.TheVariants.{Closed}
use Rattle.rdo_ast.specs.declared.syntax.Item.{Item}
use Rattle.rdo_ast.specs.Tree.{Uttered, said, syntax_fault, invoke, start_read_only, start_read_write, commit, rollback, finish, back_up, perform, define_field, define_relation, define_index, delete_relation, delete_index}
use Rattle.rdo_ast.specs.Views.{uttered_of}
use Rattle.rdb_account.specs.Events.{Began}
use Rattle.rdb_account.specs.Places.{Place, at, begins, begun, is_writer}
use Rattle.rdb_account.specs.Lawful.{got_of, is_nowait, never_sleeps}
use Rattle.rdb_account.specs.Legal.{ends_by}
use Rattle.line_view.specs.Held.{Held, knows, nothing}
use Rattle.line_view.specs.Knowledge.{Lines, Agrees}
use Rattle.stepped_jobs.specs.kept_apart.Alike.{IsGuarded}
use Rattle.stepped_jobs.proofs.of_kept_apart.Alike.{alike-refl}
use Rattle.line_steps.specs.session_jobs.Records.{Model, IsOrderly}
use Rattle.line_store.specs.Seats.{writes_of, outside as seat_outside, beginning, writing as seat_writing, committing_by, done_at}
use Rattle.line_store.specs.Shelves.{Shelf}
use Rattle.line_store.specs.Calls.{Moves, IsDone}
use Rattle.lock_needs.specs.declared.need.Need.{Need}
use Rattle.lock_needs.specs.Waits.{converts_at}
use Rattle.line_steps.specs.Images.{journal_node}
use Rattle.line_steps.specs.lock_ties.Ties.{needs_at}
use Rattle.line_steps.proofs.of_lock_ties.Places.{at-same, at-other, number}
use Rattle.line_steps.specs.Members.{member, outside, writing}
use Rattle.line_steps.specs.Right.{Desk, Ground, with_desk}
use Rattle.line_steps.specs.Steps.{Steps}
use Rattle.line_steps.proofs.Common.{desk-same}
use Rattle.line_steps.proofs.Taking.{begins-writing}
use Rattle.line_steps.proofs.Kept.{arrives, in-turn, elapses}
use Rattle.session_states.specs.declared.stage.Work.TheVariants.{Opening as OpeningIt, Due}
use Rattle.session_states.specs.declared.stage.End.TheVariants.{Ready, Committing}
use Rattle.session_states.specs.declared.stage.Stage.TheVariants.{Working, Ending}
use Rattle.session_states.specs.declared.stage.Phase.{Phase}
use Rattle.session_states.specs.declared.stage.Phase.TheVariants.{Outside, Closing, Writing}
use Rattle.session_states.specs.States.{writer, session}
use Rattle.session_states.specs.Shared.{Shared, with_shelf}
use Rattle.session_states.specs.Fits.{has_said}
use Rattle.session_states.specs.Steps.{Step}
use Rattle.session_states.proofs.Basics.{at_time}
use Rattle.session_states.proofs.Resting.{rests-on, found-here, none-dead, time-later}
use Rattle.session_states.proofs.Standing.{phase-stays}
use Rattle.store_counts.proofs.Places.{more-same}
use Rattle.store_counts.proofs.Kept.{counted-begins}
use Rattle.session_states.proofs.Counting.{counted-moved, counted-over, none-more, done-aside, committing-writes, committing-aside}

nothing-guarded : IsGuarded [] (knows nothing)
nothing-guarded = record {
  line = λ key what e. absurd (none-some what e);
  area = λ area keys e. absurd (none-some keys e);
  room = λ room key e. absurd (none-some key e);
}

pub nothing-agrees : (all : Lines) → Agrees (knows nothing) all
nothing-agrees all = record {
  line = λ key what e. absurd (none-some what e);
  area = λ area keys e. absurd (none-some keys e);
  within = λ room key e. absurd (none-some key e);
  free = λ room key e. absurd (none-some key e);
  apart = λ a b key e f. absurd (none-some key e);
}

-- what begins a transaction ends none
pub begins-stays : (item : Uttered) (kind : Standing) → begins item ≡ Some kind → ends_by item ≡ false
begins-stays (syntax_fault line column) kind h = refl
begins-stays (said (invoke text)) kind h = refl
begins-stays (said start_read_only) kind h = refl
begins-stays (said (start_read_write wait rs)) kind h = refl
begins-stays (said commit) kind h = absurd (none-some kind h)
begins-stays (said rollback) kind h = absurd (none-some kind h)
begins-stays (said finish) kind h = refl
begins-stays (said (back_up n)) kind h = refl
begins-stays (said (perform a)) kind h = refl
begins-stays (said (define_field n type)) kind h = refl
begins-stays (said (define_relation n fs)) kind h = refl
begins-stays (said (define_index d)) kind h = refl
begins-stays (said (delete_relation n)) kind h = refl
begins-stays (said (delete_index n)) kind h = refl

-- it has no needs yet, as before
pub begun-needs : (p : Place) (s : ℕ) (kind : Standing) → p.transaction s ≡ None → (t : ℕ) → got_of (at s (Some (begun kind p.tables)) p.transaction t) ≡ needs_at p t
begun-needs p s kind none t = by (t == s) refl
  where
    by : (b : Bool) → (t == s) ≡ b → got_of (at s (Some (begun kind p.tables)) p.transaction t) ≡ needs_at p t
    by true e = subst (λ u. got_of (at s (Some (begun kind p.tables)) p.transaction u) ≡ needs_at p u) (sym (number t s e)) (ap got_of (at-same s (Some (begun kind p.tables)) p.transaction) ∙ sym (ap got_of none))
    by false e = ap got_of (at-other s t (Some (begun kind p.tables)) p.transaction e)

module _ (M : Model) (orderly : IsOrderly M) where
  abbrev fresh_desk : Ground → Desk
  fresh_desk g = record { known = knows nothing; writes = []; start = g.now }

  -- A read-write transaction begins. What begins it waits for locks or not.
  pub begins-on : (s : ℕ) (c : Shared) (shelf : Shelf) (item : Item) (left : List Item) (total : ℕ) (kind : Standing) (waits : Bool) → begins (uttered_of item) ≡ Some kind → is_writer kind ≡ true → never_sleeps kind ≡ not waits →
      Moves s beginning c.shelf shelf →
      Step M s c (session (item ∷ left) total Outside) (with_shelf shelf c) (session left total (Writing (writer Closed nothing false waits (Working item OpeningIt)))) (Began s kind ∷ [])
  begins-on s c shelf item left total kind waits so writes sleeps moves = record {
    word = refl;
    others = record { store = moves.others; locks = λ u other. refl };
    moments = (tt, tt);
    leaves = λ o p g f.
        let items = map uttered_of left in
        let i = uttered_of item in
        let m = member (i ∷ items) outside total in
        let n = member items (writing Closed (Some i)) total in
        let h : Ground = with_desk s (fresh_desk g) g in
        let k : Ground = at_time shelf.clock.time h in
        let a : Steps M o p g s n h (Began s kind ∷ []) = begins-writing M orderly o p g s i items total kind (knows nothing) f.here so writes nothing-guarded (nothing-agrees g.now) in
        let b : Steps M o a.to h s n k [] = elapses M orderly o a.to h s items (writing Closed (Some i)) total shelf.clock.time
        (found-here M orderly o a.to h s n (arrives M orderly o p g h s m n (Began s kind ∷ []) (none-dead M orderly o p g s m f.here) f.here a)) (time-later M orderly o p g s c shelf (item ∷ left) total Outside moves.others f) in
        record {
          ground = k;
          steps = in-turn M orderly o p g h k s n n (Began s kind ∷ []) [] a b;
          fits = record {
            ground = record { now = f.fits.ground.now ∙ sym moves.now; time = refl; dead = f.fits.ground.dead };
            tied = record { needs = λ t. begun-needs p s kind f.here.stands.state t ∙ f.fits.tied.needs t; asks = f.fits.tied.asks; wants = f.fits.tied.wants };
            phase = record {
              desk = (ap (λ (x : Desk). x.known) (desk-same s (fresh_desk g) g), (moves.mine, ap (λ (x : Desk). x.writes) (desk-same s (fresh_desk g) g)));
              spoken = ap has_said (at-same s (Some (begun kind p.tables)) p.transaction);
              waits = ap is_nowait (at-same s (Some (begun kind p.tables)) p.transaction) ∙ sleeps;
              stage = (begins-stays i kind so, tt);
              wants = f.fits.phase.1;
              journal = subst (λ (ws : List Need). converts_at ws journal_node ≡ false) (sym (ap got_of f.here.stands.state) ∙ f.fits.tied.needs s) refl;
              ends = tt;
              claims = tt;
            };
          };
          counted = counted-begins o p s kind shelf f.here.stands.state (ap writes_of moves.mine) (counted-over o p s beginning c.shelf shelf moves refl f.here.stands.state f.counted);
        };
  }

  -- and is open
  pub opens-on : (s : ℕ) (c : Shared) (shelf : Shelf) (left : List Item) (total : ℕ) (standing : Standing) (known : Held) (spoken waits : Bool) (item : Item) → IsDone s c.shelf shelf →
      Step M s c (session left total (Writing (writer standing known spoken waits (Working item OpeningIt)))) (with_shelf shelf c) (session left total (Writing (writer standing known spoken waits (Working item Due)))) []
  opens-on s c shelf left total standing known spoken waits item done =
      rests-on M orderly s c shelf left total (Writing (writer standing known spoken waits (Working item OpeningIt))) (Writing (writer standing known spoken waits (Working item Due))) refl done.moves.others done.moves.now
      (λ o p g f. counted-moved o p s done.seat c.shelf shelf done.moves (λ e. ap writes_of (same_Some done.seat (seat_writing []) (sym done.comes ∙ ap done_at f.fits.phase.desk.1.0)) ∙ sym (ap writes_of f.fits.phase.desk.1.0)) (none-more done.seat (c.shelf.seat s) (done-aside (c.shelf.seat s) done.seat done.comes)) f.counted)
      (λ o p g f. record {
        desk = (f.fits.phase.desk.0, done.moves.mine ∙ (same_Some done.seat (seat_writing []) (sym done.comes ∙ ap done_at f.fits.phase.desk.1.0) ∙ ap seat_writing (sym f.fits.phase.desk.1.1)));
        spoken = f.fits.phase.spoken;
        waits = f.fits.phase.waits;
        stage = f.fits.phase.stage;
        wants = f.fits.phase.wants;
        journal = f.fits.phase.journal;
        ends = tt;
        claims = tt;
      })

  -- the store has more to do
  pub goes-on : (s : ℕ) (c : Shared) (shelf : Shelf) (left : List Item) (total : ℕ) (x : Phase) → Moves s (c.shelf.seat s) c.shelf shelf → Step M s c (session left total x) (with_shelf shelf c) (session left total x) []
  goes-on s c shelf left total x moves =
      rests-on M orderly s c shelf left total x x refl moves.others moves.now (λ o p g f. counted-moved o p s (c.shelf.seat s) c.shelf shelf moves (λ e. refl) (omega arith) f.counted)
      (λ o p g f. phase-stays M orderly p p g (at_time shelf.clock.time g) c (with_shelf shelf c) s refl refl refl moves.mine refl (more-same p.touched p.touched refl) f.here.fit.order f.here.fit.order (alike-refl (needs_at p s) g.now) left x f.fits.phase)

  -- a commit begins
  pub commits-on : (s : ℕ) (c : Shared) (shelf : Shelf) (left : List Item) (total : ℕ) (standing : Standing) (known : Held) (spoken waits : Bool) → Moves s (committing_by (c.shelf.seat s)) c.shelf shelf →
      Step M s c (session left total (Writing (writer standing known spoken waits (Ending Ready)))) (with_shelf shelf c) (session left total (Writing (writer standing known spoken waits (Ending Committing)))) []
  commits-on s c shelf left total standing known spoken waits moves =
      rests-on M orderly s c shelf left total (Writing (writer standing known spoken waits (Ending Ready))) (Writing (writer standing known spoken waits (Ending Committing))) refl moves.others moves.now
      (λ o p g f. counted-moved o p s (committing_by (c.shelf.seat s)) c.shelf shelf moves (λ e. committing-writes (c.shelf.seat s)) (committing-aside (c.shelf.seat s)) f.counted)
      (λ o p g f. record {
        desk = (f.fits.phase.desk.0, moves.mine ∙ ap committing_by f.fits.phase.desk.1);
        spoken = f.fits.phase.spoken;
        waits = f.fits.phase.waits;
        stage = f.fits.phase.stage;
        wants = f.fits.phase.wants;
        journal = f.fits.phase.journal;
        ends = tt;
        claims = tt;
      })

  -- the store has put away what a transaction left
  pub closes-on : (s : ℕ) (c : Shared) (shelf : Shelf) (left : List Item) (total : ℕ) → IsDone s c.shelf shelf →
      Step M s c (session left total Closing) (with_shelf shelf c) (session left total Outside) []
  closes-on s c shelf left total done =
      rests-on M orderly s c shelf left total Closing Outside refl done.moves.others done.moves.now (λ o p g f. counted-over o p s done.seat c.shelf shelf done.moves (done-aside (c.shelf.seat s) done.seat done.comes) f.here.stands.state f.counted)
      (λ o p g f. (done.moves.mine ∙ same_Some done.seat seat_outside (sym done.comes ∙ f.fits.phase.0), f.fits.phase.1))
