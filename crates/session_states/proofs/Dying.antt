-- A session dies where it stands, and is recovered.
use Rattle.std.proofs.Common.{◌≡◌, ◌≤◌, ℕ, suc, ◌+◌, ◌-◌, ◌++◌, ◌∷◌, [], ◌&&◌, ◌==◌, Bool, true, false, List, length, map, refl, ◌∙◌, sym, ap, subst, arith, Option, Some, None}
use Rattle.std.proofs.lemmas.Bool.{false≢true, and_parts}
use Rattle.std.proofs.lemmas.Option.{none-some, same_Some}
use Rattle.rdb_types.specs.declared.session.Cause.{Cause}
use Rattle.rdb_types.specs.declared.session.Cause.TheVariants.{Device, Gate, Stop, Memory}
use Rattle.rdo_ast.specs.declared.reply.Standing.{Standing}
use Rattle.rdo_ast.specs.declared.syntax.Item.{Item}
use Rattle.rdo_ast.specs.Tree.{Uttered, said, commit}
use Rattle.rdo_ast.specs.Views.{uttered_of}
use Rattle.lock_tree_laws.specs.Forest.{State as Locks}
use Rattle.rdb_account.specs.Events.{Died, Recovered}
use Rattle.rdb_account.specs.Places.{Opening, Place, Transaction, after, next_item}
use Rattle.rdb_account.specs.Legal.{has_not_died, is_at_end, may_die_of}
use Rattle.line_view.specs.declared.writes.Write.{Write}
use Rattle.line_view.specs.Held.{Held, knows, nothing}
use Rattle.line_view.specs.Knowledge.{Lines}
use Rattle.line_view.specs.Writes.{laid_all}
use Rattle.line_steps.specs.session_jobs.Records.{Model, IsOrderly}
use Rattle.line_store.specs.Seats.{Seat, outside as seat_outside, beginning, writing as seat_writing, changing, broken, prepared, committing, rolling_back, closing, reading as seat_reading, copying, dead, is_committing, writes_of, in_flight, done_at, died}
use Rattle.line_store.specs.Shelves.{Shelf}
use Rattle.line_store.specs.Calls.{Moves, IsUndone, IsSaved}
use Rattle.line_steps.specs.Members.{State, member, fallen, recovered, writing, under_way, awaited, left_of as all_left, life_of}
use Rattle.line_steps.specs.Right.{Desk, Ground, Writes, Stands, with_dead, at_recovery}
use Rattle.line_steps.specs.Steps.{Found, Steps}
use Rattle.line_steps.proofs.Common.{next-none}
use Rattle.line_steps.proofs.Dying.{dies, recovers-undone, recovers-committed}
use Rattle.line_steps.proofs.Kept.{in-turn, elapses}
use Rattle.session_states.specs.declared.stage.Work.TheVariants.{Opening as OpeningIt, Due, Out, Lacking, Housing, Fetching, Lodging}
use Rattle.session_states.specs.declared.stage.Laying.TheVariants.{Claiming, Changing, Broken}
use Rattle.session_states.specs.declared.stage.End.TheVariants.{Preparing, Journal, Ready, Committing, RollingBack, Leaving}
use Rattle.session_states.specs.declared.stage.Stage.{Stage}
use Rattle.session_states.specs.declared.stage.Stage.TheVariants.{Between, Working, Gathering, Reserving, Saying, Ending}
use Rattle.session_states.specs.declared.stage.ReaderStage.{ReaderStage}
use Rattle.session_states.specs.declared.stage.ReaderStage.TheVariants as look
use Rattle.session_states.specs.declared.stage.Phase.{Phase}
use Rattle.session_states.specs.declared.stage.Phase.TheVariants.{Outside, Closing, Writing, Reading, Over}
use Rattle.session_states.specs.States.{item_of, reader_item, state_in, commits_at, commits_in, copies_at, is_between, is_reader_between, has_said_all, may_die_in, seen, session, dead_session, gone_session}
use Rattle.session_states.specs.Shared.{Shared, with_shelf, with_death, with_recovery, RestsWith}
use Rattle.session_states.specs.Fits.{DeskFits, PhaseFits}
use Rattle.session_states.specs.Steps.{Fall}
use Rattle.session_states.proofs.Basics.{at_time}
use Rattle.session_states.proofs.Ends.{committed-place, gone-tied}
use Rattle.session_states.proofs.Flying.{phase-journal}
use Rattle.session_states.proofs.ReaderSeats.{reader-idle}
use Rattle.line_steps.proofs.of_lock_ties.Places.{at-same}
use Rattle.store_counts.proofs.Kept.{counted-events}
use Rattle.session_states.proofs.Counting.{died-aside, counted-moved, counted-ended, counted-committed}
use Rattle.session_states.proofs.Journal.{life-keeps}
use Rattle.session_states.specs.declared.stage.Life.TheVariants.{Alive}

-- ---- states

not-died : (x : Phase) → has_not_died (life_of (state_in x)) ≡ true
not-died Outside = refl
not-died Closing = refl
not-died (Writing w) = refl
not-died (Reading r) = refl
not-died Over = refl

stage-commits : (stage : Stage) → commits_at stage ≡ true → item_of stage ≡ Some (said commit)
stage-commits Between h = absurd (false≢true h)
stage-commits (Working item work) h = absurd (false≢true h)
stage-commits (Gathering item gather later place) h = absurd (false≢true h)
stage-commits (Reserving item r locks place) h = absurd (false≢true h)
stage-commits (Saying item r laying) h = absurd (false≢true h)
stage-commits (Ending Preparing) h = absurd (false≢true h)
stage-commits (Ending Journal) h = absurd (false≢true h)
stage-commits (Ending Ready) h = absurd (false≢true h)
stage-commits (Ending Committing) h = refl
stage-commits (Ending RollingBack) h = absurd (false≢true h)
stage-commits (Ending Leaving) h = absurd (false≢true h)

-- between items no statement is under way
none-under-way : (stage : Stage) → is_between stage ≡ true → item_of stage ≡ None
none-under-way Between h = refl
none-under-way (Working item work) h = absurd (false≢true h)
none-under-way (Gathering item gather later place) h = absurd (false≢true h)
none-under-way (Reserving item r locks place) h = absurd (false≢true h)
none-under-way (Saying item r laying) h = absurd (false≢true h)
none-under-way (Ending end) h = absurd (false≢true h)

none-read : (stage : ReaderStage) → is_reader_between stage ≡ true → reader_item stage ≡ None
none-read look.Between h = refl
none-read (look.Working item work) h = absurd (false≢true h)
none-read (look.Gathering item need later place) h = absurd (false≢true h)

none-left : (left : List Item) → (length left == 0) ≡ true → left ≡ []
none-left [] h = refl
none-left (x ∷ xs) h = absurd (none (length xs) h)
  where
    none : (n : ℕ) → (suc n == 0) ≡ true → ⊥
    none n h = grind arith

both : (a b : Bool) → a ≡ true → b ≡ true → (a && b) ≡ true
both true b h k = k
both false b h k = absurd (false≢true h)

-- who died in its commit was in a read-write transaction that was to commit
pub committing-state : (x : Phase) → commits_in x ≡ true → (standing : Standing) × (state_in x ≡ writing standing (Some (said commit)))
committing-state Outside h = absurd (false≢true h)
committing-state Closing h = absurd (false≢true h)
committing-state (Writing w) h = (w.standing, ap (λ u. writing w.standing u) (stage-commits w.stage h))
committing-state (Reading r) h = absurd (false≢true h)
committing-state Over h = absurd (false≢true h)

-- ---- seats

undone-idle : (seat : Seat) → done_at seat ≡ Some seat_outside → is_committing seat ≡ false
undone-idle seat_outside h = refl
undone-idle beginning h = refl
undone-idle (seat_writing ws) h = refl
undone-idle (changing ws) h = refl
undone-idle (broken ws) h = refl
undone-idle (prepared ws) h = absurd (none-some seat_outside h)
undone-idle (committing ws) h = absurd (none-some seat_outside h)
undone-idle (rolling_back ws) h = refl
undone-idle closing h = refl
undone-idle (seat_reading start) h = refl
undone-idle (copying number start) h = refl
undone-idle (dead commits ws) h = refl

saved-so : (b : Bool) (writes ws : List Write) → Some writes ≡ in_flight (dead b ws) → (b ≡ true) × (writes ≡ ws)
saved-so true writes ws h = (refl, same_Some writes ws h)
saved-so false writes ws h = absurd (none-some writes (sym h))

module _ (M : Model) (orderly : IsOrderly M) where
  -- the store commits for a session exactly at that stage, and then what the session wrote
  abbrev IsSeatOf : Ground → Shared → ℕ → Bool → Type 0
  IsSeatOf g c s b = (is_committing (c.shelf.seat s) ≡ b) × (b ≡ true → writes_of (c.shelf.seat s) ≡ (g.desk s).writes)

  idle : (g : Ground) (c : Shared) (s : ℕ) → is_committing (c.shelf.seat s) ≡ false → IsSeatOf g c s false
  idle g c s e = (e, λ h. absurd (false≢true h))

  stage-seat : (p : Place) (g : Ground) (c : Shared) (s : ℕ) (standing : Standing) (known : Held) (stage : Stage) → DeskFits M p g c s standing known stage → IsSeatOf g c s (commits_at stage)
  stage-seat p g c s standing known Between f = idle g c s (ap is_committing f.1)
  stage-seat p g c s standing known (Working item OpeningIt) f = idle g c s (ap is_committing f.1.0)
  stage-seat p g c s standing known (Working item Due) f = idle g c s (ap is_committing f.1)
  stage-seat p g c s standing known (Working item Out) f = idle g c s (ap is_committing f.1)
  stage-seat p g c s standing known (Working item (Lacking lack)) f = idle g c s (ap is_committing f.1)
  stage-seat p g c s standing known (Working item (Housing room key)) f = idle g c s (ap is_committing f.1)
  stage-seat p g c s standing known (Working item (Fetching lack)) f = idle g c s (ap is_committing f.1)
  stage-seat p g c s standing known (Working item (Lodging room key)) f = idle g c s (ap is_committing f.1)
  stage-seat p g c s standing known (Gathering item gather later place) f = idle g c s (ap is_committing f.1)
  stage-seat p g c s standing known (Reserving item r locks place) f = idle g c s (ap is_committing f.1)
  stage-seat p g c s standing known (Saying item r (Claiming place)) f = idle g c s (ap is_committing f.1)
  stage-seat p g c s standing known (Saying item r Changing) f = idle g c s (ap is_committing f.seat)
  stage-seat p g c s standing known (Saying item r Broken) f = idle g c s (ap is_committing f.seat)
  stage-seat p g c s standing known (Ending Preparing) f = idle g c s (ap is_committing f.1)
  stage-seat p g c s standing known (Ending Journal) f = idle g c s (ap is_committing f.1)
  stage-seat p g c s standing known (Ending Ready) f = idle g c s (ap is_committing f.1)
  stage-seat p g c s standing known (Ending Committing) f = (ap is_committing f.1, λ h. ap writes_of f.1)
  stage-seat p g c s standing known (Ending RollingBack) f = idle g c s (ap is_committing f.1)
  stage-seat p g c s standing known (Ending Leaving) f = idle g c s (ap is_committing f.1)

  phase-seat : (p : Place) (g : Ground) (c : Shared) (s : ℕ) (left : List Item) (x : Phase) → PhaseFits M p g c s left x → IsSeatOf g c s (commits_in x)
  phase-seat p g c s left Outside f = idle g c s (ap is_committing f.0)
  phase-seat p g c s left Closing f = idle g c s (undone-idle (c.shelf.seat s) f.0)
  phase-seat p g c s left (Writing w) f = stage-seat p g c s w.standing w.known w.stage f.desk
  phase-seat p g c s left (Reading r) f = idle g c s (ap is_committing f.seat ∙ reader-idle (copies_at r.stage) (g.desk s).start)
  phase-seat p g c s left Over f = idle g c s (ap is_committing f.0)

  -- ---- a death

  all-said : (o : Opening) (p : Place) (g : Ground) (s : ℕ) (left : List Item) (total : ℕ) (x : Phase) → has_said_all left x ≡ true → Stands M o p g s (seen (session left total x)) → all_left (seen (session left total x)) ≡ []
  all-said o p g s left total Outside h st = ap (λ (items : List Item). map uttered_of items) (none-left left h)
  all-said o p g s left total Closing h st = absurd (false≢true h)
  all-said o p g s left total (Writing w) h st =
      let parts = and_parts (is_between w.stage) (length left == 0) h in
      ap (λ (u : Option Uttered). under_way u ++ map uttered_of left) (none-under-way w.stage parts.0) ∙ ap (λ (items : List Item). map uttered_of items) (none-left left parts.1)
  all-said o p g s left total (Reading r) h st =
      let parts = and_parts (is_reader_between r.stage) (length left == 0) h in
      ap (λ (u : Option Uttered). under_way u ++ map uttered_of left) (none-read r.stage parts.0) ∙ ap (λ (items : List Item). map uttered_of items) (none-left left parts.1)
  all-said o p g s left total Over h st = st.state.1

  -- of what it may die in its phase, it may in the account
  may-here : (o : Opening) (p : Place) (g : Ground) (s : ℕ) (left : List Item) (total : ℕ) (x : Phase) (cause : Cause) → Stands M o p g s (seen (session left total x)) → may_die_in o s left x cause ≡ true → may_die_of o p s cause ≡ true
  may-here o p g s left total x Device st h = h
  may-here o p g s left total x Gate st h = h
  may-here o p g s left total x Stop st h =
      let parts = and_parts (o.stops s) (has_said_all left x) h in
      both (o.stops s) (is_at_end (next_item o p s)) parts.0 (ap is_at_end (next-none M o p g s (seen (session left total x)) st (all-said o p g s left total x parts.1 st)))
  may-here o p g s left total x Memory st h = h

  pub dies-on : (o : Opening) (s : ℕ) (c : Shared) (shelf : Shelf) (left : List Item) (total : ℕ) (x : Phase) (cause : Cause) → may_die_in o s left x cause ≡ true → Moves s (died (c.shelf.seat s)) c.shelf shelf →
      Fall M o s c (session left total x) (with_death shelf c) (dead_session left total x) (Died s cause ∷ [])
  dies-on o s c shelf left total x cause allowed moves = record {
    word = refl;
    others = record { store = moves.others; locks = λ u other. refl };
    moments = (tt, tt);
    leaves = λ p g f.
        let items = map uttered_of left in
        let st = state_in x in
        let n = member items (fallen st) total in
        let h : Ground = with_dead (g.dead + 1) g in
        let k : Ground = at_time shelf.clock.time h in
        let later : g.time ≤ shelf.clock.time = subst (λ (t : ℕ). t ≤ shelf.clock.time) (sym f.fits.ground.time) moves.others.later.later in
        let a : Steps M o p g s n h (Died s cause ∷ []) = dies M orderly o p g s items st total cause f.found (not-died x) (may-here o p g s left total x cause f.found.stands allowed) in
        let b : Steps M o a.to h s n k [] = elapses M orderly o a.to h s items (fallen st) total shelf.clock.time (record { free = a.settled; fit = a.fit; stands = a.stands }) later in
        let seat = phase-seat p g c s left x f.fits.phase in
        record {
          ground = k;
          steps = in-turn M orderly o p g h k s n n (Died s cause ∷ []) [] a b;
          fits = record {
            ground = record { now = f.fits.ground.now ∙ sym moves.now; time = refl; dead = ap (λ (d : ℕ). d + 1) f.fits.ground.dead };
            tied = record { needs = f.fits.tied.needs; asks = f.fits.tied.asks; wants = f.fits.tied.wants };
            phase = record { writes = writes_of (c.shelf.seat s); seat = moves.mine ∙ ap (λ b. dead b (writes_of (c.shelf.seat s))) seat.0; same = seat.1; flies = phase-journal M orderly p g c s left x f.fits.phase f.fits.tied; journal = life-keeps M orderly o p g c s left total x Alive f.found.stands (f.fits.tied.needs s) f.fits.phase };
          };
          counted = counted-events o p (Died s cause ∷ []) shelf (tt, tt) (counted-moved o p s (died (c.shelf.seat s)) c.shelf shelf moves (λ e. refl) (died-aside (c.shelf.seat s)) f.counted);
        };
  }

  -- ---- a recovery

  abbrev left_desk : Ground → Desk
  left_desk g = record { known = knows nothing; writes = []; start = g.now }

  -- the store has more to do for it
  pub recovers-more : (o : Opening) (s : ℕ) (c : Shared) (shelf : Shelf) (left : List Item) (total : ℕ) (x : Phase) → Moves s (c.shelf.seat s) c.shelf shelf →
      Fall M o s c (dead_session left total x) (with_shelf shelf c) (dead_session left total x) []
  recovers-more o s c shelf left total x moves = record {
    word = refl;
    others = record { store = moves.others; locks = λ u other. refl };
    moments = tt;
    leaves = λ p g f. record {
      ground = at_time shelf.clock.time g;
      steps = elapses M orderly o p g s (map uttered_of left) (fallen (state_in x)) total shelf.clock.time f.found (subst (λ (t : ℕ). t ≤ shelf.clock.time) (sym f.fits.ground.time) moves.others.later.later);
      fits = record {
        ground = record { now = f.fits.ground.now ∙ sym moves.now; time = refl; dead = f.fits.ground.dead };
        tied = f.fits.tied;
        phase = record { writes = f.fits.phase.writes; seat = moves.mine ∙ f.fits.phase.seat; same = f.fits.phase.same; flies = f.fits.phase.flies; journal = f.fits.phase.journal };
      };
      counted = counted-moved o p s (c.shelf.seat s) c.shelf shelf moves (λ e. refl) (omega arith) f.counted;
    };
  }

  in-time : (p : Place) (g : Ground) (time moment : ℕ) → p.moment ≤ g.time → g.time ≤ time → moment ≡ time → (p.moment ≤ moment) × (moment ≤ time)
  in-time p g time moment a b e = (omega (arith, a, b, e), omega (arith, e))

  -- it is undone
  pub recovers-on : (o : Opening) (s : ℕ) (c : Shared) (shelf : Shelf) (locks : Locks) (left : List Item) (total : ℕ) (x : Phase) (moment : ℕ) → IsUndone s moment c.shelf shelf → RestsWith s [] c.locks locks →
      Fall M o s c (dead_session left total x) (with_recovery shelf locks c) (gone_session left total x) (Recovered s false moment ∷ [])
  recovers-on o s c shelf locks left total x moment done rests = record {
    word = refl;
    others = record { store = done.moves.others; locks = rests.others };
    moments = (done.at, tt);
    leaves = λ p g f.
        let st = state_in x in
        let later : g.time ≤ shelf.clock.time = subst (λ (t : ℕ). t ≤ shelf.clock.time) (sym f.fits.ground.time) done.moves.others.later.later in
        let when = in-time p g shelf.clock.time moment f.found.fit.past later done.at in
        record {
          ground = at_recovery s g.now (left_desk g) shelf.clock.time (g.dead - 1) g;
          steps = recovers-undone M orderly o p g s (member (map uttered_of left) (fallen st) total) st (left_desk g) moment shelf.clock.time f.found refl when.0 when.1;
          fits = record {
            ground = record { now = f.fits.ground.now ∙ sym done.moves.now; time = refl; dead = ap (λ (d : ℕ). d - 1) f.fits.ground.dead };
            tied = gone-tied p (after o p (Recovered s false moment)) c.locks locks s f.fits.tied rests (λ t. refl) refl;
            phase = (done.moves.mine, rests.ended);
          };
          counted = counted-ended o p (Recovered s false moment ∷ []) s seat_outside c.shelf shelf (λ x e. (e, tt)) refl (at-same s None p.transaction) done.moves f.counted;
        };
  }

  -- its commit stands
  pub recovers-commit : (o : Opening) (s : ℕ) (c : Shared) (shelf : Shelf) (locks : Locks) (left : List Item) (total : ℕ) (x : Phase) (moment : ℕ) → IsSaved s moment c.shelf shelf → RestsWith s [] c.locks locks →
      Fall M o s c (dead_session left total x) (with_recovery shelf locks c) (gone_session left total x) (Recovered s true moment ∷ [])
  recovers-commit o s c shelf locks left total x moment done rests = record {
    word = refl;
    others = record { store = done.commits.others; locks = rests.others };
    moments = (done.commits.at, tt);
    leaves = λ p g f.
        let items = map uttered_of left in
        let ws = (g.desk s).writes in
        let es = Recovered s true moment ∷ [] in
        let later : g.time ≤ shelf.clock.time = subst (λ (t : ℕ). t ≤ shelf.clock.time) (sym f.fits.ground.time) done.commits.others.later.later in
        let when = in-time p g shelf.clock.time moment f.found.fit.past later done.commits.at in
        let so = saved-so (commits_in x) done.writes f.fits.phase.writes (ap in_flight (sym done.was ∙ f.fits.phase.seat)) in
        let same : done.writes ≡ ws = so.1 ∙ f.fits.phase.same so.0 in
        let st = committing-state x so.0 in
        let fell : Found M o p g s (member items (fallen (writing st.0 (Some (said commit)))) total) = subst (λ (u : State). Found M o p g s (member items (fallen u) total)) st.1 f.found in
        let w : Writes M o p g s st.0 (Some (said commit)) = fell.stands.state in
        let k : Ground = at_recovery s (laid_all ws g.now) (left_desk g) shelf.clock.time (g.dead - 1) g in
        let steps : Steps M o p g s (member (said commit ∷ items) recovered total) k es = recovers-committed M orderly o p g s items total st.0 (left_desk g) moment shelf.clock.time fell when.0 when.1 in
        let one = committed-place o p s w.transaction moment w.is_open in
        record {
          ground = k;
          steps = subst (λ (u : State). Steps M o p g s (member (awaited u ++ items) recovered total) k es) (sym st.1) steps;
          fits = record {
            ground = record {
              now = ap (λ (vs : List Write). laid_all vs g.now) (sym same) ∙ (ap (λ (l : Lines). laid_all done.writes l) f.fits.ground.now ∙ sym done.commits.now);
              time = refl;
              dead = ap (λ (d : ℕ). d - 1) f.fits.ground.dead;
            };
            tied = gone-tied p (after o p (Recovered s true moment)) c.locks locks s f.fits.tied rests (λ t. ap (λ (e : ℕ → Option Transaction). e t) one.0) one.1;
            phase = (done.commits.mine, rests.ended);
          };
          counted = counted-committed o p (after o p (Recovered s true moment)) s moment w.transaction done.writes seat_outside c.shelf shelf w.is_open w.writes (sym (ap writes_of done.was)) done.commits refl (λ t. ap (λ (e : ℕ → Option Transaction). e t) one.0) refl refl refl f.counted;
        };
  }
