-- The commit of a member's lines, by memory and by the ledger.
use Rattle.std.proofs.Common.{◌≡◌, ◌≤◌, ◌<◌, ◌⊎◌, inl, inr, ℕ, Bool, true, false, List, Option, Some, None, cond, refl, sym, ap, subst, ◌∙◌, arith}
use Rattle.std.specs.Prelude.{slice_get}
use Rattle.std.specs.FinMap.Entries.{is_sorted}
use Rattle.std.proofs.lemmas.Option.{none-some}
use Rattle.rdb_types.specs.declared.keys.Dbkey.{Dbkey}
use Rattle.rdb_types.specs.declared.keys.Limits.{Limits}
use Rattle.rdb_types.specs.declared.keys.Line.{Line}
use Rattle.rdb_types.specs.Order.{dbkey_order}
use Rattle.rdb_page.specs.Page.{IsOwner, lines_of}
use Rattle.rdb_outside.specs.Disk.{View, Pending}
use Rattle.line_view.specs.declared.writes.Write.{Write}
use Rattle.line_view.specs.Knowledge.{Lines}
use Rattle.line_store.specs.Seats.{in_flight}
use Rattle.line_store.specs.Shelves.{Shelf}
use Rattle.stable_lines.specs.Slots.{Undo}
use Rattle.stable_lines.specs.Progress.{Flight}
use Rattle.line_moves.specs.declared.places.Place.{Place}
use Rattle.line_moves.specs.Changes.{IsPlaceOf}
use Rattle.line_moves.specs.Classes.{LieForArea}
use Rattle.line_moves.specs.Lines.{ChangedLines}
use Rattle.line_seat.specs.declared.commit.GroupPlace.{GroupPlace}
use Rattle.line_seat.specs.declared.commit.CommitStage.{CommitStage}
use Rattle.line_seat.specs.Groups.{AreAllowed, AreOfClasses, AreOfEntries, ArePlaced, HaveRoom, IsCommitting, LieWithin, group_line, group_of}
use Rattle.line_seat.specs.Seats.{secured}
use Rattle.disk_seats.specs.Ledgers.{Standing, changing, committing, entries_of, Commit, Ledger}
use Rattle.disk_seats.specs.Members.{CommitStands, IsOneArea}
use Rattle.member_steps.specs.declared.committing.CommitTurn.{CommitTurn}
use Rattle.member_steps.specs.Turns.{Plan, MayCommit, plan_of, commit_of_plan}
use Rattle.page_table.specs.Pages.{owner_in, IsWithin}
use Rattle.ledger_versions.specs.Readers.{HasBefore, HasLines}
use Rattle.store_shows.specs.Shows.{IsInFlight}
use Rattle.member_memory.specs.Memory.{AreKeysOf, writes_in}
use Rattle.disk_store.specs.declared.member.Member.{Member}
use Rattle.disk_store.specs.declared.member.MemberStage.{MemberStage}
use Rattle.disk_store.specs.declared.member.MemberStage.TheVariants as stage
use Rattle.disk_store.specs.Memory.{StoreMemory}
use Rattle.disk_store.specs.Seats.{seat_with}
use Rattle.disk_store.specs.Standing.{HasJournalled, IsGoing}
use Rattle.disk_store.specs.Shown.{Sits, WaitsAs, pages_of, Shown}
use Rattle.disk_store.specs.Sound.{IsSound}
use Rattle.disk_store.specs.Commits.{is_flying, HasClass, AreOfPages, KeepsCommits}
use Rattle.commit_steps.specs.Turns.{group_for}
use Rattle.disk_store.proofs.Moving.{itself}
use Rattle.disk_store.proofs.Ordered.{place-of-key, listed, group-ascends, InGroup, in-group}
use Rattle.disk_store.proofs.Tabled.{file-of, one-file, some-owner}

-- ---- lines and their pages

module _ (tables : _) (lines : ChangedLines) (classes : List ℕ) (are : AreOfPages tables lines classes) where
  -- the line with its class
  pub class-at : (i : ℕ) (line : Dbkey × Line) → slice_get lines i ≡ Some line → (class : ℕ) × (slice_get classes i ≡ Some class) × HasClass tables line class
  class-at i line got = let in-it : InGroup lines classes i line = in-group lines classes are.long i line got in (in-it.class, in-it.has, are.each i line in-it.class got in-it.has)

  pub all-placed : ArePlaced lines
  all-placed i line got = let has = (class-at i line got).2 in (has.place, has.is)

  pub all-allowed : AreAllowed lines classes
  all-allowed i line class got of = (are.each i line class got of).allowed

  all-within : LieWithin lines classes
  all-within i line class got of = let has = are.each i line class got of in subst (λ (n : ℕ). line.0.line < lines_of n) (sym has.class_is) has.is_line.line

  module _ (i : ℕ) (line : Dbkey × Line) (got : slice_get lines i ≡ Some line) (place : Place) (is : IsPlaceOf line.0 place) where
    has : HasClass tables line (class-at i line got).0
    has = (class-at i line got).2

    in-file : has.place.file ≡ place.file
    in-file = one-file has.place.file place.file line.0.area has.is.owner is.owner

    pub its-owner : owner_in (pages_of tables place.file) place.page ≡ line.0.area
    its-owner = ap (λ (p : ℕ). owner_in (pages_of tables place.file) p) is.page ∙ (ap (λ (f : ℕ). owner_in (pages_of tables f) line.0.page) (sym in-file) ∙ has.is_line.owner)

    pub its-page : IsWithin (pages_of tables place.file) place.page
    its-page = subst (λ (p : ℕ). IsWithin (pages_of tables place.file) p) (sym is.page) (subst (λ (f : ℕ). IsWithin (pages_of tables f) line.0.page) in-file has.is_line.within)

  -- lines on one page are of one area
  pub one-area : IsOneArea lines
  one-area i k a b p q at bt is of file page =
      sym (its-owner i a at p is) ∙ ((λ j. owner_in (pages_of tables (file j)) (page j)) ∙ its-owner k b bt q of)

  -- a page that nobody else owns has lines of the area alone
  pub lie-for : (place : Place) (area : ℕ) → (owner_in (pages_of tables place.file) place.page ≡ 0) ⊎ (owner_in (pages_of tables place.file) place.page ≡ area) → LieForArea lines place area
  lie-for place area whose i line got is = by whose
    where
      by : (owner_in (pages_of tables place.file) place.page ≡ 0) ⊎ (owner_in (pages_of tables place.file) place.page ≡ area) → line.0.area ≡ area
      by (inl nobody) = let own = its-owner i line got place is in let some = some-owner place.file line.0.area is.owner in absurd (omega (arith, nobody, own, some))
      by (inr its) = sym (its-owner i line got place is) ∙ its

-- ---- who commits

flying-seat : (st : MemberStage) (ws : List Write) (start : Lines) (writes : List Write) → in_flight (seat_with st ws start) ≡ Some writes → is_flying st ≡ true
flying-seat stage.Outside ws start writes is = absurd (none-some writes is)
flying-seat (stage.Beginning ceiling) ws start writes is = absurd (none-some writes is)
flying-seat stage.Writing ws start writes is = absurd (none-some writes is)
flying-seat stage.Changing ws start writes is = absurd (none-some writes is)
flying-seat stage.Broken ws start writes is = absurd (none-some writes is)
flying-seat stage.Prepared ws start writes is = absurd (none-some writes is)
flying-seat (stage.Committing turn) ws start writes is = refl
flying-seat stage.RollingBack ws start writes is = absurd (none-some writes is)
flying-seat stage.Closing ws start writes is = absurd (none-some writes is)
flying-seat stage.Reading ws start writes is = absurd (none-some writes is)
flying-seat (stage.Dead true left) ws start writes is = refl
flying-seat (stage.Dead false left) ws start writes is = absurd (none-some writes is)

module _ (v : View) (held : StoreMemory) (s : ℕ) (m : Member) (was : slice_get held.members s ≡ Some m) (turn : CommitTurn) (at : m.stage ≡ stage.Committing turn) (sound : IsSound held) (commits : KeepsCommits held) (are : AreOfPages held.tables m.written.lines m.classes.items)
    (h : Shelf) (shown : Shown v held h) where
  abbrev g : Ledger
  g = shown.ledger

  abbrev lines : ChangedLines
  lines = m.written.lines

  keys : AreKeysOf lines m.written.keys
  keys = (sound.each s m was).keys

  sorted : is_sorted dbkey_order lines ≡ true
  sorted = keys.ordered

  flies-now : is_flying m.stage ≡ true
  flies-now = ap is_flying at

  -- the commit that is under way is its own
  pub own-commit : (c : Commit) → g.commit ≡ Some c → c.member ≡ s
  own-commit c under = by (slice_get held.members c.member) refl (shown.seats c.member)
    where
      flight : IsInFlight g c.flight (h.seat c.member)
      flight = shown.lines.flight c under

      by : (x : Option Member) → slice_get held.members c.member ≡ x → Sits v g c.member x (h.seat c.member) → c.member ≡ s
      by None got sits = absurd (none-some flight.writes (ap in_flight (sym sits.0) ∙ flight.under_way))
      by (Some x) got sits =
          commits.alone c.member s x m got was (flying-seat x.stage (writes_in x.written.lines) sits.start flight.writes (ap in_flight (sym sits.is) ∙ flight.under_way)) flies-now

  pub waits-now : shown.versions.waiting s ≡ lines
  waits-now = subst (λ (st : MemberStage). WaitsAs st shown.versions.waiting s m) at (shown.versions.waits s m was)

  -- each line comes with its area's class
  pub of-areas : AreOfClasses shown.tables.classes lines m.classes.items
  of-areas i line class got of =
      let has = are.each i line class got of in
      has.class_is ∙ (shown.tables.class has.place.file line.0.page has.is_line.within (subst (λ (n : ℕ). IsOwner has.place.file n) (sym has.is_line.owner) has.is.owner) ∙ ap shown.tables.classes has.is_line.owner)

  -- so its pages have room for its lines
  pub room-on-pages : HaveRoom (Pending v) shown.tables.classes lines m.classes.items
  room-on-pages = record { of_areas = of-areas; pages = shown.tables.lie; within = all-within held.tables lines m.classes.items are }

  abbrev place : GroupPlace
  place = group_for held m

  -- ---- before its pages are written

  module _ (has : HasJournalled g s m) where
    abbrev all : List Undo
    all = has.begun.all

    abbrev pub flight : Flight
    flight = record { member = s; group = group_of place lines m.classes.items; classes = shown.tables.classes }

    abbrev pub plan : Plan
    plan = plan_of s has.begun.transaction all place lines m.classes.items flight

    pub none-commits : g.commit ≡ None
    none-commits = by g.commit refl
      where
        by : (x : Option Commit) → g.commit ≡ x → g.commit ≡ None
        by None is = is
        by (Some c) is =
            let its : g.standing s ≡ committing c.transaction.entries = subst (λ (n : ℕ). g.standing n ≡ committing c.transaction.entries) (own-commit c is) (shown.facts.commit c is).its in
            let bad : changing all has.begun.stable ≡ committing c.transaction.entries = sym has.begun.stands ∙ its in
            absurd (cc)

    has-lines : HasLines (g.standing s)
    has-lines = subst HasLines (sym has.begun.stands) tt

    in-wait : (i : ℕ) (line : Dbkey × Line) → slice_get lines i ≡ Some line → slice_get (shown.versions.waiting s) i ≡ Some line
    in-wait i line got = ap (λ (l : ChangedLines). slice_get l i) waits-now ∙ got

    bears : (i : ℕ) (line : Dbkey × Line) → slice_get lines i ≡ Some line → line.1.tsn ≡ has.begun.transaction.tsn
    bears i line got = (shown.versions.readers.seats s has.begun.transaction has-lines has.begun.is_open).bears i line (in-wait i line got)

    of-entries : AreOfEntries has.begun.transaction all lines
    of-entries i line got =
        let before : HasBefore (entries_of (g.standing s)) line.0 = shown.versions.readers.journalled s i line has-lines (in-wait i line got) in
        (bears i line got, before.index, before.undo, ap (λ (st : Standing). slice_get (entries_of st) before.index) (sym has.begun.stands) ∙ before.is, before.key_is)

    committing-now : IsCommitting (secured s has.begun.transaction all g.base) s (record { tsn = has.begun.transaction.tsn; entries = all }) place lines m.classes.items flight
    committing-now = record {
      its = refl;
      is_open = ap (λ (b : Bool). cond b (Some (record { tsn = has.begun.transaction.tsn; entries = all })) (g.base.going s)) (itself s);
      tsn = has.begun.number;
      group = refl;
      numbered = shown.numbers.group.numbered;
      in_slot = shown.numbers.group.in_slot;
      in_order = group-ascends lines m.classes.items sorted;
      bears = bears;
      changed = λ i undo got.
          let there = place-of-key lines undo.key (sym (keys.same undo.key) ∙ listed m.written.keys i undo.key (has.begun.keys i undo got)) in
          let in-it : InGroup lines m.classes.items there.index there.line = in-group lines m.classes.items are.long there.index there.line there.is in
          record { index = there.index; line = group_line there.line in-it.class; is = in-it.is; same_key = there.key_is };
      no_flight = shown.facts.quiet;
      no_former = shown.facts.settled;
    }

    within-limit : (i : ℕ) (line : Dbkey × Line) → slice_get lines i ≡ Some line → line.0.page ≤ g.base.limits.pages
    within-limit i line got =
        let of = (class-at held.tables lines m.classes.items are i line got).2 in
        let last = of.is_line.within.last in
        let long = shown.space.pages.limit of.place.file in
        let same : h.space.limits.pages ≡ g.base.limits.pages = ap (λ (l : Limits). l.pages) (shown.space.limits ∙ sym shown.limits) in
        omega (arith, last, long, same)

    pub may-commit-now : MayCommit v g plan
    may-commit-now = record {
      stable = has.begun.stable;
      stands = has.begun.stands;
      is_open = has.begun.is_open;
      alone = none-commits;
      is = committing-now;
      of_entries = of-entries;
      one_area = one-area held.tables lines m.classes.items are;
      for_area = λ i line there got is. shown.tables.owned there line.0.area (file-of there.file line.0.area is.owner) (its-page held.tables lines m.classes.items are i line got there is) is.is_data (inr (its-owner held.tables lines m.classes.items are i line got there is));
      within = within-limit;
    }

  -- ---- while they are

  module _ (stage-at : CommitStage) (going : IsGoing v g s m stage-at) where
    abbrev p : Plan
    p = going.commit.plan

    abbrev c : Commit
    c = commit_of_plan p stage-at

    stood : CommitStands v g.base g.standing c
    stood = shown.facts.commit c going.commit.under_way

    abbrev pub plan-going : Plan
    plan-going = plan_of s going.commit.plan.transaction going.commit.plan.all place lines m.classes.items going.commit.plan.flight

    same-place : p.place ≡ place
    same-place =
        let slot : p.place.slot ≡ held.next.slot = stood.is.in_slot ∙ sym shown.numbers.group.in_slot in
        let number : p.place.number ≡ held.next.number = stood.is.numbered ∙ sym shown.numbers.group.numbered in
        let tsn : p.place.tsn ≡ m.tsn = stood.is.tsn ∙ going.commit.number in
        λ i. record { slot = slot i; number = number i; tsn = tsn i }

    same-plan : p ≡ plan-going
    same-plan = λ i. record {
      member = going.commit.its i;
      transaction = p.transaction;
      all = p.all;
      place = same-place i;
      lines = going.commit.lines i;
      classes = going.classes i;
      flight = p.flight;
    }

    pub under-way-now : g.commit ≡ Some (commit_of_plan plan-going stage-at)
    under-way-now = going.commit.under_way ∙ ap (λ (q : Plan). Some (commit_of_plan q stage-at)) same-plan
