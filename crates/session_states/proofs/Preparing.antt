-- Room and memory of a COMMIT are taken as it wants the journal, and given back where no memory is found.
use Rattle.std.proofs.Common.{◌≡◌, ℕ, ◌++◌, ◌∷◌, [], Bool, true, false, List, map, refl, ◌∙◌, sym, ap, subst, arith, Option, Some}
use Rattle.std.proofs.lemmas.Bool.{or_left, or_right}
use Rattle.rdb_types.specs.declared.node.Node.{Node}
use Rattle.vms_queues.specs.declared.lock_mode.Mode.TheVariants.{EX}
use Rattle.rdo_ast.specs.declared.reply.Reply.TheVariants.{NoMemory}
use Rattle.rdo_ast.specs.declared.reply.Standing.{Standing}
use Rattle.rdo_ast.specs.declared.syntax.Item.{Item}
use Rattle.rdo_ast.specs.Tree.{said, commit}
use Rattle.rdo_ast.specs.Views.{uttered_of}
use Rattle.lock_needs.specs.declared.need.Need.{Need}
use Rattle.lock_needs.specs.declared.party.OpenWant.{OpenWant}
use Rattle.lock_needs.specs.Party.{Party}
use Rattle.lock_tree_laws.specs.Forest.{State, NeedsAreApart, party_of}
use Rattle.lock_tree_laws.specs.Parties.{resting}
use Rattle.lock_tree_laws.specs.Wanted.{IsOf, IsWanting, needs_of}
use Rattle.rdb_account.specs.Events.{Got, Said, need}
use Rattle.rdb_account.specs.Places.{Opening, Place, Transaction, Line, after, place_from, changed, is_journal, wanting, with_need}
use Rattle.rdb_account.specs.Lawful.{is_nowait}
use Rattle.rdb_account.proofs.Growth.{place-grown}
use Rattle.line_view.specs.Held.{Held}
use Rattle.line_steps.specs.session_jobs.Records.{Model, IsOrderly}
use Rattle.line_store.specs.Seats.{Seat, prepared_by, given_back, writes_of, set_aside, outside, beginning, writing as seat_writing, changing, broken, prepared, committing, rolling_back, closing, reading, copying, dead}
use Rattle.line_store.specs.Shelves.{Shelf, Clock}
use Rattle.line_store.specs.Calls.{Moves}
use Rattle.line_steps.specs.lock_ties.Ties.{IsTiedTo, IsCall, needs_at, wanted_at}
use Rattle.line_steps.proofs.of_lock_ties.Places.{at-same}
use Rattle.line_steps.proofs.of_lock_ties.Trails.{asked-once, once-place}
use Rattle.line_steps.proofs.of_lock_ties.Answers.{asked-tied}
use Rattle.line_steps.proofs.of_lock_ties.Got.{ended-tied, got-tied, wants-open}
use Rattle.line_steps.proofs.of_lock_ties.Parted.{got-apart}
use Rattle.line_steps.specs.Images.{journal_node}
use Rattle.line_steps.specs.Members.{member, writing}
use Rattle.line_steps.specs.Right.{Writes}
use Rattle.line_steps.proofs.Saying.{refuses-writing}
use Rattle.line_steps.proofs.Wants.{wants-all, wants-got}
use Rattle.store_counts.specs.Counts.{IsCounted, has_wanted}
use Rattle.store_counts.proofs.Kept.{counted-on, counted-events, counted-gets}
use Rattle.session_states.specs.declared.stage.End.TheVariants.{Preparing, Journal, Ready}
use Rattle.session_states.specs.declared.stage.Stage.TheVariants.{Between, Ending}
use Rattle.session_states.specs.declared.stage.Phase.TheVariants.{Writing}
use Rattle.session_states.specs.Locks.{HasJournal}
use Rattle.session_states.specs.States.{writer, session}
use Rattle.session_states.specs.Shared.{Shared, with_shelf, with_both, RestsWith}
use Rattle.session_states.specs.Fits.{has_said, StageFits}
use Rattle.session_states.specs.Steps.{Step}
use Rattle.session_states.proofs.Basics.{said-first, said-wants, said-got, nowait-wants, nowait-got, writes-new}
use Rattle.session_states.proofs.Claims.{wanted-nothing}
use Rattle.session_states.proofs.Counting.{counted-moved, none-more}
use Rattle.session_states.proofs.Ends.{needs-still}
use Rattle.session_states.proofs.Forgoing.{forgoes-on}
use Rattle.session_states.proofs.InTurn.{steps-on}
use Rattle.session_states.proofs.Journal.{has-behind}
use Rattle.session_states.proofs.Locking.{preparing-asks}
use Rattle.session_states.proofs.Parting.{goes-on}
use Rattle.session_states.proofs.Resting.{none-dead}
use Rattle.session_states.proofs.Asking.{may-call}
use Rattle.session_states.proofs.Storing.{said-needs, said-more, nowait-said}
use Rattle.session_states.proofs.Moments.{wants-at, both-at}

abbrev journal : Need
journal = need journal_node EX

-- ---- the journal has been wanted

-- whoever wants it goes on to have wanted it
wanted-still : (o : Opening) (p : Place) (s : ℕ) (x : Transaction) (n : Need) (nodes : List Node) → p.transaction s ≡ Some x → x.wants_journal ≡ true → has_wanted ((place_from o p (wanted_at s n nodes)).transaction s) ≡ true
wanted-still o p s x n [] is_open h = ap has_wanted is_open ∙ h
wanted-still o p s x n (node ∷ nodes) is_open h =
    let q : Place = asked-once p s x n node in
    let there : q.transaction s ≡ Some (wanting n x) = at-same s (Some (wanting n x)) p.transaction in
    ap (λ (r : Place). has_wanted ((place_from o r (wanted_at s n nodes)).transaction s)) (once-place o p s x n node is_open)
    ∙ wanted-still o q s (wanting n x) n nodes there (or_left x.wants_journal (is_journal n.node.level) h)

-- once it was asked for
asked-wants : (o : Opening) (p : Place) (s : ℕ) (x : Transaction) (nodes : List Node) → p.transaction s ≡ Some x → (nodes ≡ [] → ⊥) → has_wanted ((place_from o p (wanted_at s journal nodes)).transaction s) ≡ true
asked-wants o p s x [] is_open some = absurd (some refl)
asked-wants o p s x (node ∷ nodes) is_open some =
    let q : Place = asked-once p s x journal node in
    let there : q.transaction s ≡ Some (wanting journal x) = at-same s (Some (wanting journal x)) p.transaction in
    ap (λ (r : Place). has_wanted ((place_from o r (wanted_at s journal nodes)).transaction s)) (once-place o p s x journal node is_open)
    ∙ wanted-still o q s (wanting journal x) journal nodes there (or_right x.wants_journal true refl)

wanted-got : (o : Opening) (p : Place) (s : ℕ) (x : Transaction) (n : Need) → p.transaction s ≡ Some x → has_wanted ((after o p (Got s n)).transaction s) ≡ has_wanted (p.transaction s)
wanted-got o p s x n is_open =
    ap (λ (z : Option Transaction). has_wanted ((changed s (with_need n) z p).transaction s)) is_open
    ∙ (ap has_wanted (at-same s (Some (with_need n x)) p.transaction) ∙ sym (ap has_wanted is_open))

-- ---- seats

prepared-writes : (seat : Seat) → writes_of (prepared_by seat) ≡ writes_of seat
prepared-writes outside = refl
prepared-writes beginning = refl
prepared-writes (seat_writing ws) = refl
prepared-writes (changing ws) = refl
prepared-writes (broken ws) = refl
prepared-writes (prepared ws) = refl
prepared-writes (committing ws) = refl
prepared-writes (rolling_back ws) = refl
prepared-writes closing = refl
prepared-writes (reading start) = refl
prepared-writes (copying number start) = refl
prepared-writes (dead commits ws) = refl

-- ---- time goes on first

-- as another moment
abbrev later_shelf : Shelf → Clock → Shelf
later_shelf h clock = record h { clock = clock }

first-later : (s : ℕ) (seat : Seat) (h k : Shelf) → Moves s seat h k → Moves s (h.seat s) h (later_shelf h k.clock)
first-later s seat h k moves = record {
  now = refl;
  mine = refl;
  others = record { seat = λ t other. refl; steps = λ t other. refl; later = moves.others.later };
  space = record { limits = refl; taken = λ file page. refl; snaps = omega arith; slots = omega arith };
}

then-moves : (s : ℕ) (seat : Seat) (h k : Shelf) → Moves s seat h k → Moves s seat (later_shelf h k.clock) k
then-moves s seat h k moves = record {
  now = moves.now;
  mine = moves.mine;
  others = record { seat = moves.others.seat; steps = moves.others.steps; later = record { later = omega arith; no_fewer = omega arith } };
  space = moves.space;
}

module _ (M : Model) (orderly : IsOrderly M) where
  -- ---- in one moment

  -- the COMMIT is prepared, and its want of the journal is open
  asks-prepared : (s : ℕ) (c : Shared) (shelf : Shelf) (locks : State) (left : List Item) (total : ℕ) (standing : Standing) (known : Held) (spoken waits : Bool) (w : OpenWant) → shelf.clock ≡ c.shelf.clock → Moves s (prepared_by (c.shelf.seat s)) c.shelf shelf →
      (call : IsCall s journal c.locks locks) → (call.asks.nodes ≡ [] → ⊥) → IsWanting locks s (needs_of c.locks s) w → w.need ≡ journal →
      Step M s c (session left total (Writing (writer standing known spoken waits (Ending Preparing)))) (with_both shelf locks c) (session left total (Writing (writer standing known spoken waits (Ending Journal)))) (wanted_at s journal call.asks.nodes)
  asks-prepared s c shelf locks left total standing known spoken waits w clock moves call asked stands is = record {
    word = refl;
    others = record { store = moves.others; locks = call.others };
    moments = wants-at shelf.clock.time s journal call.asks.nodes;
    leaves = λ o p g f.
        let items = map uttered_of left in
        let m = member items (writing standing (Some (said commit))) total in
        let x = f.here.stands.state.transaction in
        let is_open = f.here.stands.state.is_open in
        let nodes = call.asks.nodes in
        let q = place_from o p (wanted_at s journal nodes) in
        record {
          ground = g;
          steps = wants-all M orderly o p g s items total standing (said commit) journal nodes (none-dead M orderly o p g s m f.here) f.here call.asks.way (may-call p c.locks s journal f.fits.tied call.same)
              (preparing-asks M orderly o p g c s left total standing known spoken waits f);
          fits = record {
            ground = record { now = f.fits.ground.now ∙ sym moves.now; time = f.fits.ground.time ∙ sym (ap (λ (t : Clock). t.time) clock); dead = f.fits.ground.dead };
            tied = asked-tied o p s journal x is_open c.locks locks w f.fits.tied call stands is;
            phase = record {
              desk = (f.fits.phase.desk.0, moves.mine ∙ ap prepared_by f.fits.phase.desk.1);
              spoken = said-wants o p s x journal nodes is_open ∙ f.fits.phase.spoken;
              waits = nowait-wants o p s x journal nodes is_open ∙ f.fits.phase.waits;
              stage = f.fits.phase.stage;
              wants = subst (λ (y : Party). IsOf journal y.opened) (sym stands) is;
              journal = subst (λ (y : Party). HasJournal false y.needs) (sym stands) f.fits.phase.journal;
              ends = tt;
              claims = tt;
            };
          };
          counted = counted-on o q s c.shelf shelf (counted-events o p (wanted_at s journal nodes) c.shelf (wanted-nothing c.shelf s journal nodes) f.counted) moves.others moves.now moves.space
              (λ e. ap writes_of moves.mine ∙ prepared-writes (c.shelf.seat s)) (λ aside. asked-wants o p s x nodes is_open asked);
        };
  }

  -- it is prepared, and has got the journal
  gets-prepared : (s : ℕ) (c : Shared) (shelf : Shelf) (locks : State) (left : List Item) (total : ℕ) (standing : Standing) (known : Held) (spoken waits : Bool) → shelf.clock ≡ c.shelf.clock → Moves s (prepared_by (c.shelf.seat s)) c.shelf shelf →
      (call : IsCall s journal c.locks locks) → (call.asks.nodes ≡ [] → ⊥) → NeedsAreApart locks → party_of locks.parties s ≡ resting (needs_of c.locks s ++ journal ∷ []) →
      Step M s c (session left total (Writing (writer standing known spoken waits (Ending Preparing)))) (with_both shelf locks c) (session left total (Writing (writer standing known spoken waits (Ending Ready)))) (wanted_at s journal call.asks.nodes ++ Got s journal ∷ [])
  gets-prepared s c shelf locks left total standing known spoken waits clock moves call asked apart rests = record {
    word = refl;
    others = record { store = moves.others; locks = call.others };
    moments = both-at shelf.clock.time (wanted_at s journal call.asks.nodes) (Got s journal ∷ []) (wants-at shelf.clock.time s journal call.asks.nodes) (tt, tt);
    leaves = λ o p g f.
        let items = map uttered_of left in
        let m = member items (writing standing (Some (said commit))) total in
        let x = f.here.stands.state.transaction in
        let is_open = f.here.stands.state.is_open in
        let nodes = call.asks.nodes in
        let es = wanted_at s journal nodes ++ Got s journal ∷ [] in
        let q = place_from o p (wanted_at s journal nodes) in
        let r = after o q (Got s journal) in
        let there = wants-open o p s x journal nodes is_open in
        let grown : place_from o p es ≡ r = place-grown o p (wanted_at s journal nodes) (Got s journal ∷ []) in
        let tied : IsTiedTo r locks = got-tied o c.locks locks s journal p x is_open f.fits.tied call rests in
        let has : needs_at r s ≡ needs_at p s ++ journal ∷ [] = tied.needs s ∙ (ap (λ (y : Party). y.needs) rests ∙ ap (λ ws. ws ++ journal ∷ []) (sym (f.fits.tied.needs s))) in
        record {
          ground = g;
          steps = wants-got M orderly o p g s items total standing (said commit) journal nodes (none-dead M orderly o p g s m f.here) f.here call.asks.way (may-call p c.locks s journal f.fits.tied call.same)
              (preparing-asks M orderly o p g c s left total standing known spoken waits f) (got-apart c.locks locks s journal p f.fits.tied.needs call.others rests apart);
          fits = record {
            ground = record { now = f.fits.ground.now ∙ sym moves.now; time = f.fits.ground.time ∙ sym (ap (λ (t : Clock). t.time) clock); dead = f.fits.ground.dead };
            tied = subst (λ (y : Place). IsTiedTo y locks) (sym grown) tied;
            phase = record {
              desk = (f.fits.phase.desk.0, moves.mine ∙ ap prepared_by f.fits.phase.desk.1);
              spoken = ap (λ (y : Place). has_said (y.transaction s)) grown ∙ (said-got o q s there.0 journal there.1 ∙ (said-wants o p s x journal nodes is_open ∙ f.fits.phase.spoken));
              waits = ap (λ (y : Place). is_nowait (y.transaction s)) grown ∙ (nowait-got o q s there.0 journal there.1 ∙ (nowait-wants o p s x journal nodes is_open ∙ f.fits.phase.waits));
              stage = subst (λ ws. StageFits M c.word ws standing known spoken (Ending Ready)) (sym (ap (λ (y : Place). needs_at y s) grown ∙ has)) (f.fits.phase.stage.0, writes-new (needs_at p s) journal refl);
              wants = ap (λ (y : Party). y.opened) rests;
              journal = subst (λ (y : Party). HasJournal true y.needs) (sym rests) (has-behind true (needs_of c.locks s) journal refl f.fits.phase.journal);
              ends = tt;
              claims = tt;
            };
          };
          counted = subst (λ (y : Place). IsCounted o y shelf) (sym grown)
              (counted-on o r s c.shelf shelf (counted-gets o q s there.0 journal c.shelf there.1 (counted-events o p (wanted_at s journal nodes) c.shelf (wanted-nothing c.shelf s journal nodes) f.counted)) moves.others moves.now moves.space
              (λ e. ap writes_of moves.mine ∙ prepared-writes (c.shelf.seat s)) (λ aside. wanted-got o q s there.0 journal there.1 ∙ asked-wants o p s x nodes is_open asked));
        };
  }

  -- what was taken is given back, and the COMMIT is answered so
  forgoes-prepared : (s : ℕ) (c : Shared) (shelf : Shelf) (locks : State) (left : List Item) (total : ℕ) (standing : Standing) (known : Held) (waits : Bool) → shelf.clock ≡ c.shelf.clock → Moves s (given_back (c.shelf.seat s)) c.shelf shelf → RestsWith s (needs_of c.locks s) c.locks locks →
      Step M s c (session left total (Writing (writer standing known true waits (Ending Journal)))) (with_both shelf locks c) (session left total (Writing (writer standing known true waits Between))) (Said s (said commit) [] NoMemory ∷ [])
  forgoes-prepared s c shelf locks left total standing known waits clock moves rests = record {
    word = refl;
    others = record { store = moves.others; locks = rests.others };
    moments = (tt, tt);
    leaves = λ o p g f.
        let items = map uttered_of left in
        let l : Line = record { item = said commit; choices = []; reply = NoMemory } in
        let w : Writes M o p g s standing (Some (said commit)) = f.here.stands.state in
        let back = ap given_back f.fits.phase.desk.1 in
        record {
          ground = g;
          steps = refuses-writing M orderly o p g s items total standing l f.here refl (λ t sound. tt) refl (said-first (p.transaction s) (said commit) NoMemory f.fits.phase.spoken) refl;
          fits = record {
            ground = record { now = f.fits.ground.now ∙ sym moves.now; time = f.fits.ground.time ∙ sym (ap (λ (t : Clock). t.time) clock); dead = f.fits.ground.dead };
            tied = ended-tied c.locks locks s p (after o p (Said s (said commit) [] NoMemory)) f.fits.tied rests.others rests.ended rests.trail refl
                (λ t. said-needs o p s w.transaction l w.is_open t ∙ (f.fits.tied.needs t ∙ needs-still s c.locks locks rests.others rests.needs t));
            phase = record {
              desk = (f.fits.phase.desk.0, moves.mine ∙ back);
              spoken = said-more o p s w.transaction l w.is_open;
              waits = nowait-said o p s w.transaction l w.is_open ∙ f.fits.phase.waits;
              stage = refl;
              wants = rests.ended;
              journal = subst (λ (ws : List Need). HasJournal false ws) (sym rests.needs) f.fits.phase.journal;
              ends = tt;
              claims = tt;
            };
          };
          counted = counted-events o p (Said s (said commit) [] NoMemory ∷ []) shelf (tt, tt)
              (counted-moved o p s (given_back (c.shelf.seat s)) c.shelf shelf moves (λ e. ap writes_of back ∙ sym (ap writes_of f.fits.phase.desk.1)) (none-more (given_back (c.shelf.seat s)) (c.shelf.seat s) (ap set_aside back)) f.counted);
        };
  }

  -- ---- as time goes on

  abbrev later : Shared → Shelf → Shared
  later c shelf = with_shelf (later_shelf c.shelf shelf.clock) c

  pub prepares-on : (s : ℕ) (c : Shared) (shelf : Shelf) (locks : State) (left : List Item) (total : ℕ) (standing : Standing) (known : Held) (spoken waits : Bool) (w : OpenWant) → Moves s (prepared_by (c.shelf.seat s)) c.shelf shelf →
      (call : IsCall s journal c.locks locks) → (call.asks.nodes ≡ [] → ⊥) → IsWanting locks s (needs_of c.locks s) w → w.need ≡ journal →
      Step M s c (session left total (Writing (writer standing known spoken waits (Ending Preparing)))) (with_both shelf locks c) (session left total (Writing (writer standing known spoken waits (Ending Journal)))) (wanted_at s journal call.asks.nodes)
  prepares-on s c shelf locks left total standing known spoken waits w moves call asked stands is =
      let m = session left total (Writing (writer standing known spoken waits (Ending Preparing))) in
      steps-on M orderly s c (later c shelf) (with_both shelf locks c) m m (session left total (Writing (writer standing known spoken waits (Ending Journal)))) [] (wanted_at s journal call.asks.nodes) refl tt
      (goes-on M orderly s c (later_shelf c.shelf shelf.clock) left total (Writing (writer standing known spoken waits (Ending Preparing))) (first-later s (prepared_by (c.shelf.seat s)) c.shelf shelf moves))
      (asks-prepared s (later c shelf) shelf locks left total standing known spoken waits w refl (then-moves s (prepared_by (c.shelf.seat s)) c.shelf shelf moves) call asked stands is)

  pub prepares-got : (s : ℕ) (c : Shared) (shelf : Shelf) (locks : State) (left : List Item) (total : ℕ) (standing : Standing) (known : Held) (spoken waits : Bool) → Moves s (prepared_by (c.shelf.seat s)) c.shelf shelf →
      (call : IsCall s journal c.locks locks) → (call.asks.nodes ≡ [] → ⊥) → NeedsAreApart locks → party_of locks.parties s ≡ resting (needs_of c.locks s ++ journal ∷ []) →
      Step M s c (session left total (Writing (writer standing known spoken waits (Ending Preparing)))) (with_both shelf locks c) (session left total (Writing (writer standing known spoken waits (Ending Ready)))) (wanted_at s journal call.asks.nodes ++ Got s journal ∷ [])
  prepares-got s c shelf locks left total standing known spoken waits moves call asked apart rests =
      let m = session left total (Writing (writer standing known spoken waits (Ending Preparing))) in
      steps-on M orderly s c (later c shelf) (with_both shelf locks c) m m (session left total (Writing (writer standing known spoken waits (Ending Ready)))) [] (wanted_at s journal call.asks.nodes ++ Got s journal ∷ []) refl tt
      (goes-on M orderly s c (later_shelf c.shelf shelf.clock) left total (Writing (writer standing known spoken waits (Ending Preparing))) (first-later s (prepared_by (c.shelf.seat s)) c.shelf shelf moves))
      (gets-prepared s (later c shelf) shelf locks left total standing known spoken waits refl (then-moves s (prepared_by (c.shelf.seat s)) c.shelf shelf moves) call asked apart rests)

  pub gives-back : (s : ℕ) (c : Shared) (shelf : Shelf) (locks : State) (left : List Item) (total : ℕ) (standing : Standing) (known : Held) (waits : Bool) → Moves s (given_back (c.shelf.seat s)) c.shelf shelf → RestsWith s (needs_of c.locks s) c.locks locks →
      Step M s c (session left total (Writing (writer standing known true waits (Ending Journal)))) (with_both shelf locks c) (session left total (Writing (writer standing known true waits Between))) (Said s (said commit) [] NoMemory ∷ [])
  gives-back s c shelf locks left total standing known waits moves rests =
      let m = session left total (Writing (writer standing known true waits (Ending Journal))) in
      steps-on M orderly s c (later c shelf) (with_both shelf locks c) m m (session left total (Writing (writer standing known true waits Between))) [] (Said s (said commit) [] NoMemory ∷ []) refl tt
      (goes-on M orderly s c (later_shelf c.shelf shelf.clock) left total (Writing (writer standing known true waits (Ending Journal))) (first-later s (given_back (c.shelf.seat s)) c.shelf shelf moves))
      (forgoes-prepared s (later c shelf) shelf locks left total standing known waits refl (then-moves s (given_back (c.shelf.seat s)) c.shelf shelf moves) rests)

  -- prepared and given back in one step
  pub unprepares-on : (s : ℕ) (c : Shared) (shelf : Shelf) (locks : State) (left : List Item) (total : ℕ) (standing : Standing) (known : Held) (waits : Bool) → Moves s (c.shelf.seat s) c.shelf shelf → RestsWith s (needs_of c.locks s) c.locks locks →
      Step M s c (session left total (Writing (writer standing known true waits (Ending Preparing)))) (with_both shelf locks c) (session left total (Writing (writer standing known true waits Between))) (Said s (said commit) [] NoMemory ∷ [])
  unprepares-on s c shelf locks left total standing known waits moves rests =
      let m = session left total (Writing (writer standing known true waits (Ending Preparing))) in
      steps-on M orderly s c (with_shelf shelf c) (with_both shelf locks c) m m (session left total (Writing (writer standing known true waits Between))) [] (Said s (said commit) [] NoMemory ∷ []) refl tt
      (goes-on M orderly s c shelf left total (Writing (writer standing known true waits (Ending Preparing))) moves)
      (forgoes-on M orderly s (with_shelf shelf c) locks left total standing known waits (Ending Preparing) (said commit) refl refl rests)
