-- A session begins to read.
use Rattle.std.proofs.Common.{◌≡◌, ◌==◌, ℕ, Bool, true, false, List, [], Some, inl, refl, sym, ap, subst, ◌∙◌, arith}
use Rattle.std.specs.Prelude.{slice_get, if◌then◌else◌}
use Rattle.std.proofs.lemmas.Bool.{eqb-true}
use Rattle.std.proofs.lemmas.Option.{same_Some, none-some}
use Rattle.rdb_outside.specs.Disk.{View}
use Rattle.line_view.specs.declared.writes.Write.{Write}
use Rattle.line_view.specs.Knowledge.{Lines, IsInOrder, line_in}
use Rattle.line_versions.specs.Course.{Course, Reading, begun}
use Rattle.line_store.specs.Seats.{outside, reading, in_flight}
use Rattle.line_store.specs.Shelves.{Shelf, seen_from}
use Rattle.line_store.specs.Calls.{Moves}
use Rattle.line_store.specs.Sights.{bare, BeginsReading}
use Rattle.ledger_versions.specs.disk_seats.Ledgers.{resting, Ledger, Commit}
use Rattle.ledger_versions.specs.disk_versions.Courses.{course_reading}
use Rattle.ledger_versions.proofs.Written.{reader_begins}
use Rattle.member_rooms.proofs.of_member_steps.Standings.{same_lines}
use Rattle.member_rooms.specs.committed_tables.Tables.{WereUsed}
use Rattle.member_rooms.proofs.of_committed_tables.EverUsed.{used_begin}
use Rattle.member_rooms.specs.store_shows.Shows.{IsInFlight}
use Rattle.member_memory.specs.Memory.{writes_in}
use Rattle.disk_store.specs.declared.member.Member.{Member}
use Rattle.disk_store.specs.declared.member.MemberStage.TheVariants as stage
use Rattle.disk_store.specs.Memory.{StoreMemory, with_member}
use Rattle.disk_store.specs.Readers.{keeping, numbers_going}
use Rattle.disk_store.specs.Seats.{seat_with, stand_of, steps_of, steps_at, IsAtStage}
use Rattle.disk_store.specs.Standing.{StageStands}
use Rattle.disk_store.specs.Shown.{DoesOn, Sits, SitsAs, WaitsAs, IsReading, AreReaders, HaveStarts, pages_of, Shown}
use Rattle.disk_store.proofs.Members.{set-here, set-beside, get-within}
use Rattle.disk_store.proofs.Moving.{itself}
use Rattle.disk_store.proofs.Kept.{kept-stays}
use Rattle.disk_store.proofs.Stages.{is-outside}
use Rattle.disk_store.proofs.Going.{are-active}

module _ (v : View) (held : StoreMemory) (s : ℕ) (m : Member) (was : slice_get held.members s ≡ Some m) (out : seat_with m.stage [] [] ≡ outside) where
  abbrev active : List ℕ
  active = numbers_going held.members

  abbrev pub n : Member
  n = keeping stage.Reading (record { next = held.numbers.next; active = active }) m

  abbrev behind : StoreMemory
  behind = with_member s n held

  abbrev ws : List Write
  ws = writes_in m.written.lines

  at : m.stage ≡ stage.Outside
  at = is-outside m.stage out

  here : slice_get behind.members s ≡ Some n
  here = set-here held.members s n (get-within held.members s m was)

  beside : (t : ℕ) → (t == s) ≡ false → slice_get behind.members t ≡ slice_get held.members t
  beside t apart = set-beside held.members s t n apart

  module _ (h : Shelf) (shown : Shown v held h) where
    abbrev g : Ledger
    g = shown.ledger

    -- the shelf that is shown behind it
    abbrev after : Shelf
    after = record h {
      seat = λ t. if t == s then reading h.now else h.seat t;
      steps = λ t. if t == s then 0 else h.steps t;
    }

    seat-here : after.seat s ≡ reading h.now
    seat-here = ap (λ b. if b then reading h.now else h.seat s) (itself s)

    seat-beside : (t : ℕ) → (t == s) ≡ false → after.seat t ≡ h.seat t
    seat-beside t apart = ap (λ b. if b then reading h.now else h.seat t) apart

    steps-here : after.steps s ≡ 0
    steps-here = ap (λ b. if b then 0 else h.steps s) (itself s)

    steps-beside : (t : ℕ) → (t == s) ≡ false → after.steps t ≡ h.steps t
    steps-beside t apart = ap (λ b. if b then 0 else h.steps t) apart

    sat : SitsAs v g s m (h.seat s)
    sat = subst (λ x. Sits v g s x (h.seat s)) was (shown.seats s)

    rests : g.standing s ≡ resting
    rests = subst (λ x. StageStands x v g s m) at sat.stands

    was-outside : h.seat s ≡ outside
    was-outside = sat.is ∙ ap (λ st. seat_with st ws sat.start) at

    -- the commit that is under way is another's
    flight-stays : (c : Commit) (b : Bool) → (c.member == s) ≡ b → IsInFlight g c.flight (h.seat c.member) → IsInFlight g c.flight (after.seat c.member)
    flight-stays c true same flies = absurd (none-some _ (sym (ap in_flight was-outside) ∙ (ap (λ t. in_flight (h.seat t)) (sym (eqb-true c.member s same)) ∙ flies.under_way)))
    flight-stays c false apart flies = subst (λ x. IsInFlight g c.flight x) (sym (seat-beside c.member apart)) flies

    seats-stand : (t : ℕ) (b : Bool) → (t == s) ≡ b → Sits v g t (slice_get behind.members t) (after.seat t)
    seats-stand t true same =
        let it : SitsAs v g s n (after.seat s) = record { start = h.now; is = seat-here; stands = rests } in
        subst (λ u. Sits v g u (slice_get behind.members u) (after.seat u)) (sym (eqb-true t s same)) (subst (λ x. Sits v g s x (after.seat s)) (sym here) it)
    seats-stand t false apart =
        subst (λ x. Sits v g t x (after.seat t)) (sym (beside t apart)) (subst (λ seat. Sits v g t (slice_get held.members t) seat) (sym (seat-beside t apart)) (shown.seats t))

    steps-stand : (t : ℕ) (b : Bool) → (t == s) ≡ b → after.steps t ≡ steps_at behind.members t
    steps-stand t true same = subst (λ u. after.steps u ≡ steps_at behind.members u) (sym (eqb-true t s same)) (steps-here ∙ ap steps_of (sym here))
    steps-stand t false apart = steps-beside t apart ∙ (shown.steps t ∙ ap steps_of (sym (beside t apart)))

    -- ---- the course

    abbrev before : Course
    before = shown.versions.course

    abbrev course : Course
    course = course_reading s active before

    abbrev its : Reading
    its = begun active before

    reader-here : course.reader s ≡ Some its
    reader-here = ap (λ b. if b then Some its else before.reader s) (itself s)

    reader-beside : (t : ℕ) → (t == s) ≡ false → course.reader t ≡ before.reader t
    reader-beside t apart = ap (λ b. if b then Some its else before.reader t) apart

    began : IsReading course s n h.now
    began = record {
      reading = its;
      goes = reader-here;
      kept = λ i. record { next = sym (shown.versions.readers.versions.next ∙ shown.numbers.number) i; active = active };
      lines = λ key. shown.versions.readers.versions.lines key ∙ ap (λ (l : Lines). line_in key l) (sym shown.lines.now);
      ordered = subst (λ (l : Lines). IsInOrder l) (sym shown.lines.now) (subst (λ (l : Lines). IsInOrder l) (same_lines v g shown.facts) shown.facts.facts.in_order);
    }

    is-n : (t : ℕ) (x : Member) → t ≡ s → slice_get behind.members t ≡ Some x → n ≡ x
    is-n t x e is = same_Some _ _ (sym here ∙ (ap (λ u. slice_get behind.members u) (sym e) ∙ is))

    waits-stand : (t : ℕ) (b : Bool) → (t == s) ≡ b → (x : Member) → slice_get behind.members t ≡ Some x → WaitsAs x.stage shown.versions.waiting t x
    waits-stand t true same x is = subst (λ (y : Member). WaitsAs y.stage shown.versions.waiting t y) (is-n t x (eqb-true t s same) is) tt
    waits-stand t false apart x is = shown.versions.waits t x (sym (beside t apart) ∙ is)

    reading-stands : (t : ℕ) (b : Bool) → (t == s) ≡ b → (x : Member) (start : Lines) → slice_get behind.members t ≡ Some x → x.stage ≡ stage.Reading → after.seat t ≡ reading start → IsReading course t x start
    reading-stands t true same x start is reads seat =
        let e : t ≡ s = eqb-true t s same in
        let from : h.now ≡ start = ap (λ y. seen_from y h.now) (sym seat-here ∙ (ap after.seat (sym e) ∙ seat)) in
        subst (λ u. IsReading course u x start) (sym e) (subst (λ (y : Member). IsReading course s y start) (is-n t x e is) (subst (λ (l : Lines). IsReading course s n l) from began))
    reading-stands t false apart x start is reads seat =
        let it = shown.versions.reading t x start (sym (beside t apart) ∙ is) reads (sym (seat-beside t apart) ∙ seat) in
        record { reading = it.reading; goes = reader-beside t apart ∙ it.goes; kept = it.kept; lines = it.lines; ordered = it.ordered }

    are-readers : AreReaders behind.members course
    are-readers t r goes = by (t == s) refl
      where
        by : (b : Bool) → (t == s) ≡ b → IsAtStage behind.members t stage.Reading
        by true same = record { member = n; is = ap (λ u. slice_get behind.members u) (eqb-true t s same) ∙ here; at = refl }
        by false apart = let it = shown.versions.only t r (sym (reader-beside t apart) ∙ goes) in record { member = it.member; is = beside t apart ∙ it.is; at = it.at }

    have-starts : HaveStarts held.tables course
    have-starts t file r start is goes lines = by (t == s) refl
      where
        by : (b : Bool) → (t == s) ≡ b → WereUsed (pages_of held.tables file) file start
        by true same =
            let e : its ≡ r = same_Some _ _ (sym reader-here ∙ (ap course.reader (sym (eqb-true t s same)) ∙ goes)) in
            λ key image of-file found. used_begin (pages_of held.tables file) file g.base.lines (shown.tables.committed file is) key image of-file
            (sym (shown.versions.readers.versions.lines key) ∙ (ap (λ (x : Reading). x.lines key) e ∙ (lines key ∙ found)))
        by false apart = shown.versions.used t file r start is (sym (reader-beside t apart) ∙ goes) lines

    abbrev shown-behind : Shown v behind after
    shown-behind = record {
      tells = shown.tells;
      ledger = g;
      facts = shown.facts;
      limits = shown.limits;
      lines = record { now = shown.lines.now; time = shown.lines.time; faults = shown.lines.faults; flight = λ c is. flight-stays c (c.member == s) refl (shown.lines.flight c is) };
      promised = shown.promised;
      seats = λ t. seats-stand t (t == s) refl;
      steps = λ t. steps-stand t (t == s) refl;
      numbers = shown.numbers;
      kept = kept-stays held.members s held.numbers.next held.numbers.written m n was (omega arith) shown.kept;
      tables = shown.tables;
      versions = record {
        course = course;
        waiting = shown.versions.waiting;
        readers = reader_begins v held.limits.snaps before shown.versions.waiting g shown.versions.readers s active (are-active v held h shown);
        slots = shown.versions.slots;
        waits = λ t x is. waits-stand t (t == s) refl x is;
        reading = λ t x start is reads seat. reading-stands t (t == s) refl x start is reads seat;
        only = are-readers;
        used = have-starts;
        unused = shown.versions.unused;
      };
      space = record { limits = shown.space.limits; pages = shown.space.pages; snaps = shown.space.snaps; slots = shown.space.slots };
    }

    moves : Moves s (reading h.now) h after
    moves = record {
      now = refl;
      mine = seat-here;
      others = record { seat = seat-beside; steps = steps-beside; later = record { later = omega arith; no_fewer = omega arith } };
      space = record { limits = refl; taken = λ file page. refl; snaps = omega arith; slots = omega arith };
    }

  pub does-begin-reading : DoesOn s (reading []) (BeginsReading s) v held v behind
  does-begin-reading = record {
    does = record {
      mine = ap (λ x. bare (stand_of x)) here;
      others = λ t apart. ap (λ x. bare (stand_of x)) (beside t apart);
      steps = λ t apart. ap steps_of (beside t apart);
      copier = λ number. refl;
      each = λ h shown. record { shelf = after h shown; shown = shown-behind h shown; related = moves h shown; lasts = record { since = λ t lines early is. inl is }; opens = λ t early was. was; backed = λ number t lines early apart was. was };
    };
    rolls = λ h shown base last was. was;
  }
