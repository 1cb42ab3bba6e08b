-- Whose commit is under way on a shelf commits what its transaction wrote, and has the journal.
use Rattle.std.proofs.Common.{◌≡◌, ◌∷◌, ℕ, zero, suc, Bool, true, false, List, [], refl, ◌∙◌, sym, ap, subst, map, Option, Some, None, slice_get, option_map}
use Rattle.std.proofs.lemmas.Bool.{false≢true}
use Rattle.std.proofs.lemmas.Option.{none-some, same_Some}
use Rattle.rdo_ast.specs.declared.reply.Standing.{Standing}
use Rattle.rdo_ast.specs.declared.syntax.Item.{Item}
use Rattle.rdo_ast.specs.Tree.{Uttered, said, commit}
use Rattle.lock_needs.specs.declared.need.Need.{Need}
use Rattle.lock_ties.specs.Ties.{needs_at}
use Rattle.lock_needs.specs.Party.{Party}
use Rattle.lock_tree_laws.specs.Forest.{party_of}
use Rattle.lock_tree_laws.specs.Wanted.{needs_of}
use Rattle.rdb_account.specs.Events.{Event}
use Rattle.rdb_account.specs.Places.{Opening, Place, place}
use Rattle.line_view.specs.declared.writes.Write.{Write}
use Rattle.line_view.specs.Held.{Held}
use Rattle.line_view.specs.Knowledge.{Lines}
use Rattle.kept_apart.specs.Guards.{may_write}
use Rattle.session_jobs.specs.Records.{Model, IsOrderly}
use Rattle.line_store.specs.Seats.{Seat, outside, beginning, writing, changing, broken, prepared, committing, rolling_back, closing, reading, copying, dead, in_flight, done_at}
use Rattle.line_store.specs.Shelves.{Shelf}
use Rattle.line_store.specs.Calls.{MayStand}
use Rattle.session_states.specs.line_steps.Images.{IsCommitting, IsNow, IsStored, journal_node}
use Rattle.session_states.specs.line_steps.Members.{State as Seen, writing as seen_writing}
use Rattle.session_states.specs.line_steps.Right.{Ground, StandsAs}
use Rattle.session_states.proofs.of_line_steps.Crashes.{stands-now}
use Rattle.session_states.specs.declared.stage.Work.TheVariants.{Opening as OpeningIt, Due, Out, Lacking, Housing, Fetching, Lodging}
use Rattle.session_states.specs.declared.stage.Laying.TheVariants.{Claiming, Changing, Broken}
use Rattle.session_states.specs.declared.stage.End.TheVariants.{Preparing, Journal, Ready, Committing, RollingBack, Leaving}
use Rattle.session_states.specs.declared.stage.Stage.{Stage}
use Rattle.session_states.specs.declared.stage.Stage.TheVariants.{Between, Working, Gathering, Reserving, Saying, Ending}
use Rattle.session_states.specs.declared.stage.Phase.{Phase}
use Rattle.session_states.specs.declared.stage.Phase.TheVariants.{Outside, Closing, Writing, Reading, Over}
use Rattle.session_states.specs.declared.stage.Life.{Life}
use Rattle.session_states.specs.declared.stage.Life.TheVariants.{Alive, Dead, Gone}
use Rattle.session_states.specs.declared.stage.Member.{Member}
use Rattle.session_states.specs.States.{commits_at, commits_in, copies_at, item_of, seat_of_reader, state_in, state_of, seen}
use Rattle.session_states.specs.Shared.{Shared}
use Rattle.session_states.specs.Fits.{DeskFits, PhaseFits, LifeFits}
use Rattle.session_states.specs.Kept.{AreKept}
use Rattle.session_states.proofs.Dying.{committing-state}
use Rattle.session_states.proofs.ReaderSeats.{reader-flies}
use Rattle.session_stands.specs.Sessions.{AreSeated, member_at}

idle-seat : (seat here : Seat) (ws : List Write) → seat ≡ here → in_flight here ≡ None → in_flight seat ≡ Some ws → ⊥
idle-seat seat here ws at none h = none-some ws (sym (ap in_flight at ∙ none) ∙ h)

done-idle : (seat : Seat) → done_at seat ≡ Some outside → in_flight seat ≡ None
done-idle outside h = refl
done-idle beginning h = refl
done-idle (writing ws) h = refl
done-idle (changing ws) h = refl
done-idle (broken ws) h = refl
done-idle (prepared ws) h = absurd (none-some outside h)
done-idle (committing ws) h = absurd (none-some outside h)
done-idle (rolling_back ws) h = refl
done-idle closing h = refl
done-idle (reading start) h = refl
done-idle (copying number start) h = refl
done-idle (dead commits ws) h = absurd (none-some outside h)

dead-flies : (b : Bool) (vs ws : List Write) → in_flight (dead b vs) ≡ Some ws → (b ≡ true) × (vs ≡ ws)
dead-flies true vs ws h = (refl, same_Some vs ws h)
dead-flies false vs ws h = absurd (none-some ws h)

-- it is at that stage, and commits what it wrote
abbrev CommitsBy : Ground → ℕ → List Write → Bool → Type 0
CommitsBy g s ws b = (b ≡ true) × ((g.desk s).writes ≡ ws)

module _ (M : Model) (p : Place) (g : Ground) (c : Shared) (s : ℕ) (ws : List Write) (h : in_flight (c.shelf.seat s) ≡ Some ws) where
  stage-commits : (standing : Standing) (known : Held) (stage : Stage) → DeskFits M p g c s standing known stage → CommitsBy g s ws (commits_at stage)
  stage-commits standing known Between f = absurd (idle-seat (c.shelf.seat s) (writing (g.desk s).writes) ws f.1 refl h)
  stage-commits standing known (Working item OpeningIt) f = absurd (idle-seat (c.shelf.seat s) beginning ws f.1.0 refl h)
  stage-commits standing known (Working item Due) f = absurd (idle-seat (c.shelf.seat s) (writing (g.desk s).writes) ws f.1 refl h)
  stage-commits standing known (Working item Out) f = absurd (idle-seat (c.shelf.seat s) (writing (g.desk s).writes) ws f.1 refl h)
  stage-commits standing known (Working item (Lacking n)) f = absurd (idle-seat (c.shelf.seat s) (writing (g.desk s).writes) ws f.1 refl h)
  stage-commits standing known (Working item (Housing room key)) f = absurd (idle-seat (c.shelf.seat s) (writing (g.desk s).writes) ws f.1 refl h)
  stage-commits standing known (Working item (Fetching n)) f = absurd (idle-seat (c.shelf.seat s) (writing (g.desk s).writes) ws f.1 refl h)
  stage-commits standing known (Working item (Lodging room key)) f = absurd (idle-seat (c.shelf.seat s) (writing (g.desk s).writes) ws f.1 refl h)
  stage-commits standing known (Gathering item gather later place) f = absurd (idle-seat (c.shelf.seat s) (writing (g.desk s).writes) ws f.1 refl h)
  stage-commits standing known (Reserving item r locks place) f = absurd (idle-seat (c.shelf.seat s) (writing (g.desk s).writes) ws f.1 refl h)
  stage-commits standing known (Saying item r (Claiming place)) f = absurd (idle-seat (c.shelf.seat s) (writing (g.desk s).writes) ws f.1 refl h)
  stage-commits standing known (Saying item r Changing) f = absurd (idle-seat (c.shelf.seat s) (changing f.behind) ws f.seat refl h)
  stage-commits standing known (Saying item r Broken) f = absurd (idle-seat (c.shelf.seat s) (broken f.behind) ws f.seat refl h)
  stage-commits standing known (Ending Preparing) f = absurd (idle-seat (c.shelf.seat s) (writing (g.desk s).writes) ws f.1 refl h)
  stage-commits standing known (Ending Journal) f = absurd (idle-seat (c.shelf.seat s) (prepared (g.desk s).writes) ws f.1 refl h)
  stage-commits standing known (Ending Ready) f = absurd (idle-seat (c.shelf.seat s) (prepared (g.desk s).writes) ws f.1 refl h)
  stage-commits standing known (Ending Committing) f = (refl, same_Some (g.desk s).writes ws (sym (ap in_flight f.1) ∙ h))
  stage-commits standing known (Ending RollingBack) f = absurd (idle-seat (c.shelf.seat s) (rolling_back (g.desk s).writes) ws f.1 refl h)
  stage-commits standing known (Ending Leaving) f = absurd (idle-seat (c.shelf.seat s) (rolling_back (g.desk s).writes) ws f.1 refl h)

  phase-commits : (left : List Item) (x : Phase) → PhaseFits M p g c s left x → CommitsBy g s ws (commits_in x)
  phase-commits left Outside f = absurd (idle-seat (c.shelf.seat s) outside ws f.0 refl h)
  phase-commits left Closing f = absurd (none-some ws (sym (done-idle (c.shelf.seat s) f.0) ∙ h))
  phase-commits left (Writing w) f = stage-commits w.standing w.known w.stage f.desk
  phase-commits left (Reading r) f = absurd (idle-seat (c.shelf.seat s) (seat_of_reader (copies_at r.stage) (g.desk s).start) ws f.seat (reader-flies (copies_at r.stage) (g.desk s).start) h)
  phase-commits left Over f = absurd (idle-seat (c.shelf.seat s) outside ws f.0 refl h)

  life-commits : (left : List Item) (x : Phase) (life : Life) → LifeFits M p g c s left x life → CommitsBy g s ws (commits_in x)
  life-commits left x Alive f = phase-commits left x f
  life-commits left x Dead f = let b = dead-flies (commits_in x) f.writes ws (sym (ap in_flight f.seat) ∙ h) in (b.0, sym (f.same b.0) ∙ b.1)
  life-commits left x Gone f = absurd (idle-seat (c.shelf.seat s) outside ws f.0 refl h)

  -- it stands as it did where it lives
  stands-still : (o : Opening) (us : List Uttered) (left : List Item) (x : Phase) (life : Life) → LifeFits M p g c s left x life → StandsAs M o p g s us (state_of x life) → StandsAs M o p g s us (state_in x)
  stands-still o us left x Alive f st = st
  stands-still o us left x Dead f st = st
  stands-still o us left x Gone f st = absurd (idle-seat (c.shelf.seat s) outside ws f.0 refl h)

  is-committing : (o : Opening) (us : List Uttered) (left : List Item) (x : Phase) (life : Life) → LifeFits M p g c s left x life → StandsAs M o p g s us (state_of x life) → may_write (needs_at p s) journal_node ≡ true → IsCommitting M o p g s ws
  is-committing o us left x life f st journal =
      let b = life-commits left x life f in
      let at = committing-state x b.0 in
      record {
        standing = at.0;
        under = Some (said commit);
        writes = subst (λ (y : Seen). StandsAs M o p g s us y) at.1 (stands-still o us left x life f st);
        are = b.1;
        has_journal = journal;
      }

map-get : (ms : List Member) (i : ℕ) (m : Member) → slice_get ms i ≡ Some m → slice_get (map seen ms) i ≡ Some (seen m)
map-get [] i m h = absurd (none-some m h)
map-get (y ∷ ys) zero m h = ap (λ x. Some (seen x)) (same_Some y m h)
map-get (y ∷ ys) (suc i) m h = map-get ys i m h

module _ (M : Model) (o : Opening) (c : Shared) (members : List Member) (events : List Event) (k : AreKept M o c members events) (stand : ℕ → Seat) (seated : AreSeated stand c.locks members) where
  abbrev p : Place
  p = place o events

  flying : (s : ℕ) (ws : List Write) → in_flight (c.shelf.seat s) ≡ Some ws → IsCommitting M o p k.ground s ws
  flying s ws h = by s (member_at members s) refl h
    where
      journal : (t : ℕ) → in_flight (c.shelf.seat t) ≡ Some ws → may_write (needs_at p t) journal_node ≡ true
      journal t e = subst (λ (ns : List Need). may_write ns journal_node ≡ true) (sym (k.tied.needs t)) (k.flies t ws e)

      by : (t : ℕ) (x : Option Member) → member_at members t ≡ x → in_flight (c.shelf.seat t) ≡ Some ws → IsCommitting M o p k.ground t ws
      by t None e f = absurd (false≢true (sym (ap (λ (y : Party). may_write y.needs journal_node) (seated.nobodys t e)) ∙ k.flies t ws f))
      by zero (Some m) e f = absurd (none-some m e)
      by (suc i) (Some m) e f = is-committing M p k.ground c (suc i) ws f o _ m.left m.phase m.life (k.phases i m e) (k.right.each i (seen m) (map-get members i m e)).state (journal (suc i) f)

  -- what a crash may leave there, stands for what is committed at this place, or for that with the one in flight
  pub stand-now : IsOrderly M → (lines : Lines) → MayStand c.shelf lines → IsNow M o p lines
  stand-now orderly lines may = stands-now M orderly o p k.ground c.shelf lines k.right.fit (record { now = sym k.is_ground.now; flies = flying }) may
