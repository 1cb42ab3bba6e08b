-- Whose commit is under way has the journal.
use Rattle.std.proofs.Common.{◌≡◌, ℕ, suc, ◌==◌, Bool, true, false, List, refl, ◌∙◌, sym, ap, subst, arith, Option, Some, None, slice_get}
use Rattle.std.proofs.lemmas.Bool.{false≢true}
use Rattle.std.proofs.lemmas.Option.{none-some}
use Rattle.rdo_ast.specs.declared.reply.Standing.{Standing}
use Rattle.rdo_ast.specs.declared.syntax.Item.{Item}
use Rattle.lock_needs.specs.declared.need.Need.{Need}
use Rattle.lock_tree_laws.specs.Wanted.{needs_of}
use Rattle.rdb_account.specs.Events.{Event}
use Rattle.rdb_account.specs.Places.{Opening, Place, place}
use Rattle.line_steps.proofs.Crashes.{one-in-flight}
use Rattle.line_store.specs.Shelves.{IsAlone}
use Rattle.line_view.specs.declared.writes.Write.{Write}
use Rattle.line_view.specs.Held.{Held}
use Rattle.stepped_jobs.specs.kept_apart.Guards.{may_write}
use Rattle.line_steps.specs.session_jobs.Records.{Model, IsOrderly}
use Rattle.line_store.specs.Seats.{Seat, outside, beginning, writing, changing, broken, prepared, committing, rolling_back, closing, reading, copying, dead, in_flight, done_at}
use Rattle.line_steps.specs.lock_ties.Ties.{IsTiedTo, needs_at}
use Rattle.line_steps.specs.Images.{journal_node}
use Rattle.line_steps.specs.Right.{Ground}
use Rattle.session_states.specs.declared.stage.Work.TheVariants.{Opening as OpeningIt, Due, Out, Lacking, Housing, Fetching, Lodging}
use Rattle.session_states.specs.declared.stage.Laying.TheVariants.{Claiming, Changing, Broken}
use Rattle.session_states.specs.declared.stage.End.TheVariants.{Preparing, Journal, Ready, Committing, RollingBack, Leaving}
use Rattle.session_states.specs.declared.stage.Stage.{Stage}
use Rattle.session_states.specs.declared.stage.Stage.TheVariants.{Between, Working, Gathering, Reserving, Saying, Ending}
use Rattle.session_states.specs.declared.stage.Phase.{Phase}
use Rattle.session_states.specs.declared.stage.Phase.TheVariants.{Outside, Closing, Writing, Reading, Over}
use Rattle.session_states.specs.declared.stage.Life.{Life}
use Rattle.session_states.specs.declared.stage.Life.TheVariants.{Alive, Dead, Gone}
use Rattle.session_states.specs.declared.stage.Member.{Member}
use Rattle.session_states.specs.States.{commits_at, commits_in, copies_at, seat_of_reader, writer, session}
use Rattle.session_states.specs.Shared.{Shared}
use Rattle.session_states.specs.Fits.{StageFits, DeskFits, PhaseFits, LifeFits}
use Rattle.session_states.specs.Kept.{AreKept}
use Rattle.session_states.proofs.ReaderSeats.{reader-flies}

-- no commit is under way from such a seat
idle-seat : (seat here : Seat) (ws : List Write) → seat ≡ here → in_flight here ≡ None → in_flight seat ≡ Some ws → ⊥
idle-seat seat here ws at none h = none-some ws (sym (ap in_flight at ∙ none) ∙ h)

done-idle : (seat : Seat) → done_at seat ≡ Some outside → in_flight seat ≡ None
done-idle outside h = refl
done-idle beginning h = refl
done-idle (writing ws) h = refl
done-idle (changing ws) h = refl
done-idle (broken ws) h = refl
done-idle (prepared ws) h = absurd (none-some outside h)
done-idle (committing ws) h = absurd (none-some outside h)
done-idle (rolling_back ws) h = refl
done-idle closing h = refl
done-idle (reading start) h = refl
done-idle (copying number start) h = refl
done-idle (dead commits ws) h = absurd (none-some outside h)

dead-flies : (b : Bool) (vs ws : List Write) → in_flight (dead b vs) ≡ Some ws → b ≡ true
dead-flies true vs ws h = refl
dead-flies false vs ws h = absurd (none-some ws h)

differ : (a b : ℕ) → (a == b) ≡ false → a ≡ b → ⊥
differ a b e h = grind arith

module _ (M : Model) (orderly : IsOrderly M) where
  stage-flies : (word : List ℕ) (p : Place) (g : Ground) (c : Shared) (s : ℕ) (standing : Standing) (known : Held) (spoken : Bool) (stage : Stage) → DeskFits M p g c s standing known stage →
      StageFits M word (needs_at p s) standing known spoken stage → (ws : List Write) → in_flight (c.shelf.seat s) ≡ Some ws → may_write (needs_at p s) journal_node ≡ true
  stage-flies word p g c s standing known spoken Between f st ws h = absurd (idle-seat (c.shelf.seat s) (writing (g.desk s).writes) ws f.1 refl h)
  stage-flies word p g c s standing known spoken (Working item OpeningIt) f st ws h = absurd (idle-seat (c.shelf.seat s) beginning ws f.1.0 refl h)
  stage-flies word p g c s standing known spoken (Working item Due) f st ws h = absurd (idle-seat (c.shelf.seat s) (writing (g.desk s).writes) ws f.1 refl h)
  stage-flies word p g c s standing known spoken (Working item Out) f st ws h = absurd (idle-seat (c.shelf.seat s) (writing (g.desk s).writes) ws f.1 refl h)
  stage-flies word p g c s standing known spoken (Working item (Lacking n)) f st ws h = absurd (idle-seat (c.shelf.seat s) (writing (g.desk s).writes) ws f.1 refl h)
  stage-flies word p g c s standing known spoken (Working item (Housing room key)) f st ws h = absurd (idle-seat (c.shelf.seat s) (writing (g.desk s).writes) ws f.1 refl h)
  stage-flies word p g c s standing known spoken (Working item (Fetching n)) f st ws h = absurd (idle-seat (c.shelf.seat s) (writing (g.desk s).writes) ws f.1 refl h)
  stage-flies word p g c s standing known spoken (Working item (Lodging room key)) f st ws h = absurd (idle-seat (c.shelf.seat s) (writing (g.desk s).writes) ws f.1 refl h)
  stage-flies word p g c s standing known spoken (Gathering item gather later place) f st ws h = absurd (idle-seat (c.shelf.seat s) (writing (g.desk s).writes) ws f.1 refl h)
  stage-flies word p g c s standing known spoken (Reserving item r locks place) f st ws h = absurd (idle-seat (c.shelf.seat s) (writing (g.desk s).writes) ws f.1 refl h)
  stage-flies word p g c s standing known spoken (Saying item r (Claiming place)) f st ws h = absurd (idle-seat (c.shelf.seat s) (writing (g.desk s).writes) ws f.1 refl h)
  stage-flies word p g c s standing known spoken (Saying item r Changing) f st ws h = absurd (idle-seat (c.shelf.seat s) (changing f.behind) ws f.seat refl h)
  stage-flies word p g c s standing known spoken (Saying item r Broken) f st ws h = absurd (idle-seat (c.shelf.seat s) (broken f.behind) ws f.seat refl h)
  stage-flies word p g c s standing known spoken (Ending Preparing) f st ws h = absurd (idle-seat (c.shelf.seat s) (writing (g.desk s).writes) ws f.1 refl h)
  stage-flies word p g c s standing known spoken (Ending Journal) f st ws h = absurd (idle-seat (c.shelf.seat s) (prepared (g.desk s).writes) ws f.1 refl h)
  stage-flies word p g c s standing known spoken (Ending Ready) f st ws h = st.1
  stage-flies word p g c s standing known spoken (Ending Committing) f st ws h = st.1
  stage-flies word p g c s standing known spoken (Ending RollingBack) f st ws h = absurd (idle-seat (c.shelf.seat s) (rolling_back (g.desk s).writes) ws f.1 refl h)
  stage-flies word p g c s standing known spoken (Ending Leaving) f st ws h = absurd (idle-seat (c.shelf.seat s) (rolling_back (g.desk s).writes) ws f.1 refl h)

  phase-flies : (p : Place) (g : Ground) (c : Shared) (s : ℕ) (left : List Item) (x : Phase) → PhaseFits M p g c s left x → (ws : List Write) → in_flight (c.shelf.seat s) ≡ Some ws → may_write (needs_at p s) journal_node ≡ true
  phase-flies p g c s left Outside f ws h = absurd (idle-seat (c.shelf.seat s) outside ws f.0 refl h)
  phase-flies p g c s left Closing f ws h = absurd (none-some ws (sym (done-idle (c.shelf.seat s) f.0) ∙ h))
  phase-flies p g c s left (Writing w) f ws h = stage-flies c.word p g c s w.standing w.known w.spoken w.stage f.desk f.stage ws h
  phase-flies p g c s left (Reading r) f ws h = absurd (idle-seat (c.shelf.seat s) (seat_of_reader (copies_at r.stage) (g.desk s).start) ws f.seat (reader-flies (copies_at r.stage) (g.desk s).start) h)
  phase-flies p g c s left Over f ws h = absurd (idle-seat (c.shelf.seat s) outside ws f.0 refl h)

  pub life-flies : (p : Place) (g : Ground) (c : Shared) (s : ℕ) (left : List Item) (x : Phase) (life : Life) → LifeFits M p g c s left x life → IsTiedTo p c.locks → (ws : List Write) → in_flight (c.shelf.seat s) ≡ Some ws →
      may_write (needs_of c.locks s) journal_node ≡ true
  life-flies p g c s left x Alive f tied ws h = subst (λ (ns : List Need). may_write ns journal_node ≡ true) (tied.needs s) (phase-flies p g c s left x f ws h)
  life-flies p g c s left x Dead f tied ws h = f.flies (dead-flies (commits_in x) f.writes ws (sym (ap in_flight f.seat) ∙ h))
  life-flies p g c s left x Gone f tied ws h = absurd (idle-seat (c.shelf.seat s) outside ws f.0 refl h)

  -- ---- who commits has the journal

  stage-journal : (word : List ℕ) (got : List Need) (standing : Standing) (known : Held) (spoken : Bool) (stage : Stage) → StageFits M word got standing known spoken stage → commits_at stage ≡ true → may_write got journal_node ≡ true
  stage-journal word got standing known spoken Between f h = absurd (false≢true h)
  stage-journal word got standing known spoken (Working item work) f h = absurd (false≢true h)
  stage-journal word got standing known spoken (Gathering item gather later place) f h = absurd (false≢true h)
  stage-journal word got standing known spoken (Reserving item r locks place) f h = absurd (false≢true h)
  stage-journal word got standing known spoken (Saying item r laying) f h = absurd (false≢true h)
  stage-journal word got standing known spoken (Ending Preparing) f h = absurd (false≢true h)
  stage-journal word got standing known spoken (Ending Journal) f h = absurd (false≢true h)
  stage-journal word got standing known spoken (Ending Ready) f h = absurd (false≢true h)
  stage-journal word got standing known spoken (Ending Committing) f h = f.1
  stage-journal word got standing known spoken (Ending RollingBack) f h = absurd (false≢true h)
  stage-journal word got standing known spoken (Ending Leaving) f h = absurd (false≢true h)

  pub phase-journal : (p : Place) (g : Ground) (c : Shared) (s : ℕ) (left : List Item) (x : Phase) → PhaseFits M p g c s left x → IsTiedTo p c.locks → commits_in x ≡ true → may_write (needs_of c.locks s) journal_node ≡ true
  phase-journal p g c s left Outside f tied h = absurd (false≢true h)
  phase-journal p g c s left Closing f tied h = absurd (false≢true h)
  phase-journal p g c s left (Writing w) f tied h = subst (λ (ns : List Need). may_write ns journal_node ≡ true) (tied.needs s) (stage-journal c.word (needs_at p s) w.standing w.known w.spoken w.stage f.stage h)
  phase-journal p g c s left (Reading r) f tied h = absurd (false≢true h)
  phase-journal p g c s left Over f tied h = absurd (false≢true h)

  -- who is ready to commit is alone in that
  pub ready-alone : (o : Opening) (c : Shared) (members : List Member) (events : List Event) (i : ℕ) (left : List Item) (total : ℕ) (standing : Standing) (known : Held) (spoken waits : Bool) → AreKept M o c members events →
      slice_get members i ≡ Some (session left total (Writing (writer standing known spoken waits (Ending Ready)))) → IsAlone (suc i) c.shelf
  ready-alone o c members events i left total standing known spoken waits k found t other = by (in_flight (c.shelf.seat t)) refl
    where
      mine : may_write (needs_at (place o events) (suc i)) journal_node ≡ true
      mine = (k.phases i (session left total (Writing (writer standing known spoken waits (Ending Ready)))) found).stage.1

      by : (x : Option (List Write)) → in_flight (c.shelf.seat t) ≡ x → in_flight (c.shelf.seat t) ≡ None
      by None e = e
      by (Some ws) e =
          absurd (differ t (suc i) other (one-in-flight M (place o events) k.ground k.right.fit t (suc i) (subst (λ (ns : List Need). may_write ns journal_node ≡ true) (sym (k.tied.needs t)) (k.flies t ws e)) mine))
