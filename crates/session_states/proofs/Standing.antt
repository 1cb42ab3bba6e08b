-- One step of a session keeps what is true of all of them.
use Rattle.std.proofs.Common.{◌≡◌, ℕ, zero, suc, ◌++◌, ◌∷◌, [], ◌==◌, Bool, true, false, List, refl, ◌∙◌, sym, ap, subst, arith, map, option_map, Some, slice_get, slice_set, ◌⊎◌, inl, inr}
use Rattle.rdo_ast.specs.declared.reply.Standing.{Standing}
use Rattle.rdo_ast.specs.declared.syntax.Item.{Item}
use Rattle.rdo_ast.specs.Views.{uttered_of}
use Rattle.lock_needs.specs.Party.{Party}
use Rattle.lock_tree_laws.specs.Forest.{party_of}
use Rattle.rdb_account.specs.Events.{Event}
use Rattle.rdb_account.specs.Places.{Opening, Place, Due, nothing, commit_reply, rollback_reply, rolls_back, place, place_from, start}
use Rattle.rdb_account.specs.Legal.{is_free}
use Rattle.rdb_account.specs.Lawful.{got_of, is_nowait}
use Rattle.rdb_account.proofs.Growth.{place-grown}
use Rattle.line_view.specs.Held.{Held, knows}
use Rattle.line_view.specs.Knowledge.{IsInOrder}
use Rattle.line_view.specs.Writes.{laid_all}
use Rattle.stepped_jobs.specs.kept_apart.Guards.{AreOwn}
use Rattle.stepped_jobs.specs.kept_apart.Alike.{AreAlike, IsGuarded}
use Rattle.stepped_jobs.proofs.of_kept_apart.Alike.{alike-agrees, alike-laid-all}
use Rattle.line_steps.specs.session_jobs.Records.{Model, IsOrderly, IsRight}
use Rattle.line_steps.specs.session_jobs.Jobs.{worked_of}
use Rattle.line_steps.specs.session_jobs.declared.jobs.TxRecord.{TxRecord}
use Rattle.line_store.specs.Seats.{Seat, in_flight, done_at, Adds}
use Rattle.line_steps.specs.lock_ties.Ties.{IsTiedTo, needs_at}
use Rattle.line_steps.specs.Members.{Member as Seen}
use Rattle.line_steps.specs.Right.{Desk, Ground, Stands, AreRight}
use Rattle.line_steps.proofs.Frame.{place-same}
use Rattle.line_steps.proofs.Kept.{stepped, here}
use Rattle.session_states.specs.declared.stage.Laying.TheVariants.{Claiming, Changing, Broken}
use Rattle.session_states.specs.declared.stage.Stage.{Stage}
use Rattle.session_states.specs.declared.stage.Stage.TheVariants.{Between, Working, Gathering, Reserving, Saying, Ending}
use Rattle.session_states.specs.declared.stage.Phase.{Phase}
use Rattle.session_states.specs.declared.stage.Phase.TheVariants.{Outside, Closing, Writing, Reading, Over}
use Rattle.session_states.specs.declared.stage.Life.{Life}
use Rattle.session_states.specs.declared.stage.Life.TheVariants.{Alive, Dead, Gone}
use Rattle.session_states.specs.declared.stage.Member.{Member}
use Rattle.session_states.specs.Locks.{lock_of, has_journal, HasJournal}
use Rattle.session_states.specs.States.{copies_at, seat_of_reader, seen}
use Rattle.session_states.specs.Shared.{Shared, LeavesOthers}
use Rattle.session_states.specs.Fits.{has_said, StageFits, HasSeat, IsLaid, DeskFits, WantsAtMost, PhaseFits, LifeFits}
use Rattle.session_states.specs.Steps.{Finds, Leaves, Step, Fall}
use Rattle.session_states.specs.Kept.{AreKept}
use Rattle.lock_tree_laws.specs.Wanted.{needs_of}
use Rattle.line_view.specs.declared.writes.Write.{Write}
use Rattle.stepped_jobs.specs.kept_apart.Guards.{may_write}
use Rattle.line_steps.specs.Images.{journal_node}
use Rattle.journal_waits.specs.Holders.{KeepsTo}
use Rattle.line_steps.proofs.of_lock_ties.Places.{number}
use Rattle.store_counts.specs.Counts.{written_of, IsCounted}
use Rattle.store_counts.proofs.Places.{HasMore, more-same, touched-on}
use Rattle.session_states.proofs.Claims.{claims-more}
use Rattle.session_states.proofs.Flying.{life-flies}
use Rattle.session_states.proofs.Journal.{life-keeps}

map-get : {A B : Type 0} (f : A → B) (xs : List A) (i : ℕ) (x : A) → slice_get xs i ≡ Some x → slice_get (map f xs) i ≡ Some (f x)
map-get f [] i x h = grind arith
map-get f (y ∷ ys) zero x h = ap (λ o. option_map f o) h
map-get f (y ∷ ys) (suc i) x h = map-get f ys i x h

map-set : {A B : Type 0} (f : A → B) (xs : List A) (i : ℕ) (x : A) → map f (slice_set xs i x) ≡ slice_set (map f xs) i (f x)
map-set f [] i x = refl
map-set f (y ∷ ys) zero x = refl
map-set f (y ∷ ys) (suc i) x = ap (λ zs. f y ∷ zs) (map-set f ys i x)

differ : (j i : ℕ) → (j == i) ≡ false → (suc j == suc i) ≡ false
differ j i h = grind arith

-- what stands there now: the new one, or another that stood there
set-get : {A : Type 0} (xs : List A) (i j : ℕ) (x y : A) → slice_get (slice_set xs i x) j ≡ Some y → ((j ≡ i) × (x ≡ y)) ⊎ (((j == i) ≡ false) × (slice_get xs j ≡ Some y))
set-get [] i j x y h = inr (grind arith, h)
set-get (z ∷ zs) zero zero x y h = inl (refl, grind arith)
set-get (z ∷ zs) zero (suc j) x y h = inr (grind arith, h)
set-get (z ∷ zs) (suc i) zero x y h = inr (grind arith, h)
set-get (z ∷ zs) (suc i) (suc j) x y h = elim (set-get zs i j x y h) [
  | inl e ↦ inl (ap suc e.0, e.1)
  | inr e ↦ inr (differ j i e.0, e.1)
]

module _ (M : Model) (orderly : IsOrderly M) where
  -- ---- session t, as another steps

  module _ (p q : Place) (g h : Ground) (c d : Shared) (t : ℕ) (same : q.transaction t ≡ p.transaction t) (desk : h.desk t ≡ g.desk t) (word : d.word ≡ c.word)
      (seat : d.shelf.seat t ≡ c.shelf.seat t) (party : party_of d.locks.parties t ≡ party_of c.locks.parties t) (touched : HasMore p.touched q.touched)
      (was : IsInOrder g.now) (is : IsInOrder h.now) (alike : AreAlike (needs_at p t) g.now h.now) where
    needs : needs_at p t ≡ needs_at q t
    needs = sym (ap got_of same)

    plain-stays : (known : Held) (stage : Stage) → ((g.desk t).known ≡ knows known) × HasSeat stage (g.desk t).writes (c.shelf.seat t) → ((h.desk t).known ≡ knows known) × HasSeat stage (h.desk t).writes (d.shelf.seat t)
    plain-stays known stage f = (
      ap (λ (x : Desk). x.known) desk ∙ f.0,
      subst (λ (x : Desk). HasSeat stage x.writes (d.shelf.seat t)) (sym desk) (subst (λ (x : Seat). HasSeat stage (g.desk t).writes x) (sym seat) f.1),
    )

    laid-stays : (standing : Standing) (known : Held) (item : Item) (r : TxRecord) → IsLaid M p g c t standing known (uttered_of item) r → IsLaid M q h d t standing known (uttered_of item) r
    laid-stays standing known item r f = record {
      behind = f.behind;
      seat = seat ∙ f.seat;
      adds = subst (λ (x : Desk). Adds r.writes x.writes f.behind) (sym desk) f.adds;
      own = subst (λ ws. AreOwn ws f.behind) needs f.own;
      right = subst (λ (u : List ℕ). IsRight M u standing (h.desk t).known (worked_of (uttered_of item) r)) (sym word)
          (subst (λ (x : Desk). IsRight M c.word standing x.known (worked_of (uttered_of item) r)) (sym desk) f.right);
      guarded = subst (λ ws. IsGuarded ws (knows known)) needs f.guarded;
      agrees = alike-agrees (needs_at p t) (knows known) (laid_all f.behind g.now) (laid_all f.behind h.now) (alike-laid-all (needs_at p t) f.behind g.now h.now was is alike) f.guarded f.agrees;
    }

    desk-stays : (standing : Standing) (known : Held) (stage : Stage) → DeskFits M p g c t standing known stage → DeskFits M q h d t standing known stage
    desk-stays standing known Between f = plain-stays known Between f
    desk-stays standing known (Working item work) f = plain-stays known (Working item work) f
    desk-stays standing known (Gathering item gather later place) f = plain-stays known (Gathering item gather later place) f
    desk-stays standing known (Reserving item r locks place) f = plain-stays known (Reserving item r locks place) f
    desk-stays standing known (Saying item r (Claiming place)) f = plain-stays known (Saying item r (Claiming place)) f
    desk-stays standing known (Saying item r Changing) f = laid-stays standing known item r f
    desk-stays standing known (Saying item r Broken) f = record { behind = f.behind; seat = seat ∙ f.seat }
    desk-stays standing known (Ending end) f = plain-stays known (Ending end) f

    pub phase-stays : (left : List Item) (x : Phase) → PhaseFits M p g c t left x → PhaseFits M q h d t left x
    phase-stays left Outside f = (seat ∙ f.0, ap (λ (y : Party). y.opened) party ∙ f.1)
    phase-stays left Closing f = (ap done_at seat ∙ f.0, ap (λ (y : Party). y.opened) party ∙ f.1)
    phase-stays left (Writing w) f = record {
      desk = desk-stays w.standing w.known w.stage f.desk;
      spoken = ap has_said same ∙ f.spoken;
      waits = ap is_nowait same ∙ f.waits;
      stage = subst (λ (u : List ℕ). StageFits M u (needs_at q t) w.standing w.known w.spoken w.stage) (sym word) (subst (λ ws. StageFits M c.word ws w.standing w.known w.spoken w.stage) needs f.stage);
      wants = subst (λ (y : Party). WantsAtMost (lock_of w.stage) y.opened) (sym party) f.wants;
      journal = subst (λ (y : Party). HasJournal (has_journal w.stage) y.needs) (sym party) f.journal;
      ends = f.ends;
      claims = claims-more p q t touched (more-same (written_of (p.transaction t)) (written_of (q.transaction t)) (sym (ap written_of same))) w.stage f.claims;
    }
    phase-stays left (Reading r) f = record {
      known = ap (λ (x : Desk). x.known) desk ∙ f.known;
      seat = seat ∙ (f.seat ∙ ap (λ (x : Desk). seat_of_reader (copies_at r.stage) x.start) (sym desk));
      spoken = ap has_said same ∙ f.spoken;
      needless = sym needs ∙ f.needless;
      stage = f.stage;
      wants = ap (λ (y : Party). y.opened) party ∙ f.wants;
    }
    phase-stays left Over f = (seat ∙ f.0, ap (λ (y : Party). y.opened) party ∙ f.1)

    pub life-stays : (left : List Item) (x : Phase) (life : Life) → LifeFits M p g c t left x life → LifeFits M q h d t left x life
    life-stays left x Alive f = phase-stays left x f
    life-stays left x Dead f = record { writes = f.writes; seat = seat ∙ f.seat; same = λ e. f.same e ∙ sym (ap (λ (y : Desk). y.writes) desk); flies = λ e. subst (λ (y : Party). may_write y.needs journal_node ≡ true) (sym party) (f.flies e); journal = subst (λ (y : Party). KeepsTo journal_node y) (sym party) f.journal }
    life-stays left x Gone f = (seat ∙ f.0, ap (λ (y : Party). y.opened) party ∙ f.1)

  -- ---- all sessions

  -- whose commit is under way has the journal: the session that steps, and any other
  flies-still : (q : Place) (h : Ground) (c d : Shared) (s : ℕ) (n : Member) → ((t : ℕ) (ws : List Write) → in_flight (c.shelf.seat t) ≡ Some ws → may_write (needs_of c.locks t) journal_node ≡ true) → LeavesOthers s c d → IsTiedTo q d.locks →
      LifeFits M q h d s n.left n.phase n.life → (t : ℕ) (b : Bool) → (t == s) ≡ b → (ws : List Write) → in_flight (d.shelf.seat t) ≡ Some ws → may_write (needs_of d.locks t) journal_node ≡ true
  flies-still q h c d s n was others tied fits t true e ws flies =
      subst (λ (u : ℕ). may_write (needs_of d.locks u) journal_node ≡ true) (sym (number t s e))
      (life-flies M orderly q h d s n.left n.phase n.life fits tied ws (subst (λ (u : ℕ). in_flight (d.shelf.seat u) ≡ Some ws) (number t s e) flies))
  flies-still q h c d s n was others tied fits t false e ws flies =
      subst (λ (y : Party). may_write y.needs journal_node ≡ true) (sym (others.locks t e)) (was t ws (ap in_flight (sym (others.store.seat t e)) ∙ flies))

  -- whoever has the journal wants nothing: the session that steps, and any other
  keeps-still : (c d : Shared) (s : ℕ) → ((t : ℕ) → KeepsTo journal_node (party_of c.locks.parties t)) → LeavesOthers s c d → KeepsTo journal_node (party_of d.locks.parties s) → (t : ℕ) (b : Bool) → (t == s) ≡ b → KeepsTo journal_node (party_of d.locks.parties t)
  keeps-still c d s was others mine t true e = subst (λ (u : ℕ). KeepsTo journal_node (party_of d.locks.parties u)) (sym (number t s e)) mine
  keeps-still c d s was others mine t false e = subst (λ (y : Party). KeepsTo journal_node y) (sym (others.locks t e)) (was t)

  -- what a step of one session leaves is kept for all
  leaves-kept : (o : Opening) (c d : Shared) (members : List Member) (events es : List Event) (i : ℕ) (n : Member) → (k : AreKept M o c members events) → d.word ≡ c.word → LeavesOthers (suc i) c d →
      Leaves M o (place o events) k.ground d (suc i) n es → AreKept M o d (slice_set members i n) (events ++ es)
  leaves-kept o c d members events es i n k word others left =
      let p = place o events in
      let to : Place = place_from o p es in
      let behind : place o (events ++ es) ≡ to = place-grown o (start o) events es in
      let right : AreRight M o left.ground (map seen (slice_set members i n)) (events ++ es) =
      subst (λ (ms : List Seen). AreRight M o left.ground ms (events ++ es)) (sym (map-set seen members i n)) (stepped M orderly o k.ground left.ground (map seen members) events es i (seen n) k.right left.steps) in
      record {
        ground = left.ground;
        word = k.word ∙ sym word;
        right = right;
        is_ground = left.fits.ground;
        tied = subst (λ (y : Place). IsTiedTo y d.locks) (sym behind) left.fits.tied;
        phases = λ j y e. subst (λ (u : Place). LifeFits M u left.ground d (suc j) y.left y.phase y.life) (sym behind)
            (elim (set-get members i j n y e) [
              | inl a ↦ subst (λ (t : ℕ). LifeFits M to left.ground d (suc t) y.left y.phase y.life) (sym a.0) (subst (λ (x : Member). LifeFits M to left.ground d (suc i) x.left x.phase x.life) a.1 left.fits.phase)
              | inr a ↦ life-stays p to k.ground left.ground c d (suc j) ((place-same o p es (suc i) (suc j) left.steps.own (differ j i a.0)).transaction)
                  (left.steps.desks (suc j) (differ j i a.0)) word (others.store.seat (suc j) (differ j i a.0)) (others.locks (suc j) (differ j i a.0)) (touched-on o p es)
                  k.right.fit.order left.steps.fit.order (left.steps.alike (suc j) (differ j i a.0)) y.left y.phase y.life (k.phases j y a.1)
            ]);
        counted = subst (λ (y : Place). IsCounted o y d.shelf) (sym behind) left.counted;
        flies = λ t ws e. flies-still to left.ground c d (suc i) n k.flies others left.fits.tied left.fits.phase t (t == suc i) refl ws e;
        journal = λ t. keeps-still c d (suc i) k.journal others (life-keeps M orderly o to left.ground d (suc i) n.left n.total n.phase n.life (subst (λ (y : Place). Stands M o y left.ground (suc i) (seen n)) (sym left.steps.leads) left.steps.stands) (left.fits.tied.needs (suc i)) left.fits.phase) t (t == suc i) refl;
      }

  -- what session i + 1 finds
  pub finds : (o : Opening) (c : Shared) (members : List Member) (events : List Event) (i : ℕ) (m : Member) → c.dead ≡ 0 → (k : AreKept M o c members events) → slice_get members i ≡ Some m → Finds M o (place o events) k.ground c (suc i) m
  finds o c members events i m alive k found = record {
    word = k.word;
    here = here M orderly o k.ground (map seen members) events i (seen m) (k.is_ground.dead ∙ alive) k.right (map-get seen members i m found);
    fits = record { ground = k.is_ground; tied = k.tied; phase = k.phases i m found };
    counted = k.counted;
  }

  pub kept : (o : Opening) (c d : Shared) (members : List Member) (events es : List Event) (i : ℕ) (m n : Member) → c.dead ≡ 0 → AreKept M o c members events → slice_get members i ≡ Some m →
      Step M (suc i) c m d n es → AreKept M o d (slice_set members i n) (events ++ es)
  kept o c d members events es i m n alive k found st = leaves-kept o c d members events es i n k st.word st.others (st.leaves o (place o events) k.ground (finds o c members events i m alive k found))

  -- ---- deaths and recoveries

  free-nothing : (due : Due) → is_free due ≡ true → due ≡ nothing
  free-nothing nothing h = refl
  free-nothing (commit_reply s) h = grind arith
  free-nothing (rollback_reply s) h = grind arith
  free-nothing (rolls_back s) h = grind arith

  pub fell : (o : Opening) (c d : Shared) (members : List Member) (events es : List Event) (i : ℕ) (m n : Member) → AreKept M o c members events → slice_get members i ≡ Some m →
      Fall M o (suc i) c m d n es → AreKept M o d (slice_set members i n) (events ++ es)
  fell o c d members events es i m n k found st = leaves-kept o c d members events es i n k st.word st.others (st.leaves (place o events) k.ground (record {
    word = k.word;
    found = record { free = free-nothing (place o events).due k.right.legal.settled; fit = k.right.fit; stands = k.right.each i (seen m) (map-get seen members i m found) };
    fits = record { ground = k.is_ground; tied = k.tied; phase = k.phases i m found };
    counted = k.counted;
  }))
