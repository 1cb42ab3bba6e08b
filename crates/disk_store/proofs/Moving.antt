-- A session that comes to another stage, while nothing else changes in memory, and nothing on the disk.
use Rattle.std.proofs.Common.{◌≡◌, ◌≢◌, ◌<◌, ◌==◌, ℕ, Bool, true, false, List, [], length, Some, None, inl, T, refl, sym, ap, subst, ◌∙◌, arith}
use Rattle.std.specs.Prelude.{slice_get, if◌then◌else◌}
use Rattle.std.proofs.Math.Dec.{eqb_refl}
use Rattle.std.proofs.lemmas.Bool.{eqb-true}
use Rattle.std.proofs.lemmas.Option.{same_Some, none-some}
use Rattle.rdb_outside.specs.Disk.{View}
use Rattle.line_view.specs.declared.writes.Write.{Write}
use Rattle.line_view.specs.Knowledge.{Lines}
use Rattle.line_store.specs.Seats.{Seat, in_flight}
use Rattle.line_store.specs.Shelves.{Shelf}
use Rattle.line_store.specs.Calls.{Moves}
use Rattle.line_store.specs.Sights.{bare}
use Rattle.ledger_versions.specs.disk_seats.Ledgers.{Ledger, Commit}
use Rattle.ledger_versions.specs.disk_versions.Courses.{course_read}
use Rattle.ledger_versions.specs.Readers.{Waiting}
use Rattle.ledger_versions.proofs.Written.{reader_ends}
use Rattle.member_rooms.specs.store_shows.Shows.{ShowsLines, IsInFlight}
use Rattle.member_memory.specs.Memory.{writes_in}
use Rattle.disk_store.specs.declared.member.Member.{Member}
use Rattle.disk_store.specs.declared.member.MemberStage.{MemberStage}
use Rattle.disk_store.specs.declared.member.MemberStage.TheVariants as stage
use Rattle.disk_store.specs.Memory.{StoreMemory, with_member, at_stage}
use Rattle.disk_store.specs.Numbers.{kept_at}
use Rattle.disk_store.specs.Seats.{seat_with, stand_of, stand_at, steps_in, steps_of, steps_at}
use Rattle.disk_store.specs.Standing.{StageStands}
use Rattle.disk_store.specs.Shown.{DoesOn, Sits, SitsAs, WaitsAs, IsReading, Shown}
use Rattle.disk_store.proofs.Members.{set-here, set-beside}
use Rattle.disk_store.proofs.Kept.{kept-stays}
use Rattle.disk_store.proofs.NoBackups.{copier-stays}
use Rattle.disk_store.proofs.Readers.{reader-beside, readers-still, starts-still}

true_from_T : (b : Bool) → T b → b ≡ true
true_from_T true h = refl
true_from_T false h = absurd h

pub itself : (n : ℕ) → (n == n) ≡ true
itself n = true_from_T _ (eqb_refl n)

-- A member of one stage may come to another: no commit of it is under way, and what the first stage stands on is enough for the other.
pub record MayCome (v : View) (s : ℕ) (m : Member) (next : MemberStage) : Type 1 where
  pub still : (ws : _) (start : Lines) → in_flight (seat_with m.stage ws start) ≡ None
  pub stands : (g : Ledger) → StageStands m.stage v g s m → StageStands next v g s (at_stage next m)
  pub waits : (waiting : Waiting) → WaitsAs m.stage waiting s m → WaitsAs next waiting s (at_stage next m)
  pub writes : next ≢ stage.Reading
  -- no number is kept free for it
  pub free : kept_at next ≡ 0

module _ (v : View) (held : StoreMemory) (s : ℕ) (m : Member) (next : MemberStage) (within : s < length held.members) (was : slice_get held.members s ≡ Some m) (may : MayCome v s m next) where
  abbrev behind : StoreMemory
  behind = with_member s (at_stage next m) held

  abbrev ws : List Write
  ws = writes_in m.written.lines

  here : slice_get behind.members s ≡ Some (at_stage next m)
  here = set-here held.members s (at_stage next m) within

  beside : (t : ℕ) → (t == s) ≡ false → slice_get behind.members t ≡ slice_get held.members t
  beside t apart = set-beside held.members s t (at_stage next m) apart

  -- the shelf that is shown behind it
  abbrev moved : Lines → Shelf → Shelf
  moved start h = record h {
    seat = λ t. if t == s then seat_with next ws start else h.seat t;
    steps = λ t. if t == s then steps_in next (at_stage next m) else h.steps t;
  }

  seat-here : (start : Lines) (h : Shelf) → (moved start h).seat s ≡ seat_with next ws start
  seat-here start h = ap (λ b. if b then seat_with next ws start else h.seat s) (itself s)

  seat-beside : (start : Lines) (h : Shelf) (t : ℕ) → (t == s) ≡ false → (moved start h).seat t ≡ h.seat t
  seat-beside start h t apart = ap (λ b. if b then seat_with next ws start else h.seat t) apart

  steps-here : (start : Lines) (h : Shelf) → (moved start h).steps s ≡ steps_in next (at_stage next m)
  steps-here start h = ap (λ b. if b then steps_in next (at_stage next m) else h.steps s) (itself s)

  steps-beside : (start : Lines) (h : Shelf) (t : ℕ) → (t == s) ≡ false → (moved start h).steps t ≡ h.steps t
  steps-beside start h t apart = ap (λ b. if b then steps_in next (at_stage next m) else h.steps t) apart

  sat : (h : Shelf) (shown : Shown v held h) → SitsAs v shown.ledger s m (h.seat s)
  sat h shown = subst (λ x. Sits v shown.ledger s x (h.seat s)) was (shown.seats s)

  -- the commit that is under way is another's
  flight-stays : (h : Shelf) (shown : Shown v held h) (c : Commit) (b : Bool) → (c.member == s) ≡ b → IsInFlight shown.ledger c.flight (h.seat c.member) → IsInFlight shown.ledger c.flight ((moved (sat h shown).start h).seat c.member)
  flight-stays h shown c true same flies =
      let at-s : in_flight (h.seat s) ≡ Some flies.writes = ap (λ t. in_flight (h.seat t)) (sym (eqb-true c.member s same)) ∙ flies.under_way in
      absurd (none-some _ (sym (ap in_flight (sat h shown).is ∙ may.still ws (sat h shown).start) ∙ at-s))
  flight-stays h shown c false apart flies = subst (λ x. IsInFlight shown.ledger c.flight x) (sym (seat-beside (sat h shown).start h c.member apart)) flies

  lines-stay : (h : Shelf) (shown : Shown v held h) → ShowsLines v shown.ledger (moved (sat h shown).start h)
  lines-stay h shown = record {
    now = shown.lines.now;
    time = shown.lines.time;
    faults = shown.lines.faults;
    flight = λ c is. flight-stays h shown c (c.member == s) refl (shown.lines.flight c is);
  }

  seats-stand : (h : Shelf) (shown : Shown v held h) (t : ℕ) (b : Bool) → (t == s) ≡ b → Sits v shown.ledger t (slice_get behind.members t) ((moved (sat h shown).start h).seat t)
  seats-stand h shown t true same =
      let start = (sat h shown).start in
      let it : SitsAs v shown.ledger s (at_stage next m) ((moved start h).seat s) = record { start = start; is = seat-here start h; stands = may.stands shown.ledger (sat h shown).stands } in
      subst (λ u. Sits v shown.ledger u (slice_get behind.members u) ((moved start h).seat u)) (sym (eqb-true t s same)) (subst (λ x. Sits v shown.ledger s x ((moved start h).seat s)) (sym here) it)
  seats-stand h shown t false apart =
      let start = (sat h shown).start in
      subst (λ x. Sits v shown.ledger t x ((moved start h).seat t)) (sym (beside t apart)) (subst (λ seat. Sits v shown.ledger t (slice_get held.members t) seat) (sym (seat-beside start h t apart)) (shown.seats t))

  steps-stand : (h : Shelf) (shown : Shown v held h) (t : ℕ) (b : Bool) → (t == s) ≡ b → (moved (sat h shown).start h).steps t ≡ steps_at behind.members t
  steps-stand h shown t true same =
      let start = (sat h shown).start in
      subst (λ u. (moved start h).steps u ≡ steps_at behind.members u) (sym (eqb-true t s same)) (steps-here start h ∙ ap steps_of (sym here))
  steps-stand h shown t false apart =
      let start = (sat h shown).start in
      steps-beside start h t apart ∙ (shown.steps t ∙ ap steps_of (sym (beside t apart)))

  waits-stand : (h : Shelf) (shown : Shown v held h) (t : ℕ) (b : Bool) → (t == s) ≡ b → (x : Member) → slice_get behind.members t ≡ Some x → WaitsAs x.stage shown.versions.waiting t x
  waits-stand h shown t true same x is =
      let e : t ≡ s = eqb-true t s same in
      let x-is : at_stage next m ≡ x = same_Some _ _ (sym here ∙ (ap (λ u. slice_get behind.members u) (sym e) ∙ is)) in
      subst (λ u. WaitsAs x.stage shown.versions.waiting u x) (sym e) (subst (λ (y : Member). WaitsAs y.stage shown.versions.waiting s y) x-is (may.waits shown.versions.waiting (shown.versions.waits s m was)))
  waits-stand h shown t false apart x is = shown.versions.waits t x (sym (beside t apart) ∙ is)

  reading-stands : (h : Shelf) (shown : Shown v held h) (t : ℕ) (b : Bool) → (t == s) ≡ b → (x : Member) (start : Lines) → slice_get behind.members t ≡ Some x → x.stage ≡ stage.Reading →
      (moved (sat h shown).start h).seat t ≡ seat_with stage.Reading [] start → IsReading (course_read s shown.versions.course) t x start
  reading-stands h shown t true same x start is reads seat =
      let e : t ≡ s = eqb-true t s same in
      let x-is : at_stage next m ≡ x = same_Some _ _ (sym here ∙ (ap (λ u. slice_get behind.members u) (sym e) ∙ is)) in
      absurd (may.writes (ap (λ (y : Member). y.stage) x-is ∙ reads))
  reading-stands h shown t false apart x start is reads seat =
      let it = shown.versions.reading t x start (sym (beside t apart) ∙ is) reads (sym (seat-beside (sat h shown).start h t apart) ∙ seat) in
      record { reading = it.reading; goes = reader-beside s shown.versions.course t apart ∙ it.goes; kept = it.kept; lines = it.lines; ordered = it.ordered }

  abbrev shown-behind : (h : Shelf) (shown : Shown v held h) → Shown v behind (moved (sat h shown).start h)
  shown-behind h shown = record {
    tells = shown.tells;
    ledger = shown.ledger;
    facts = shown.facts;
    limits = shown.limits;
    lines = lines-stay h shown;
    promised = shown.promised;
    seats = λ t. seats-stand h shown t (t == s) refl;
    steps = λ t. steps-stand h shown t (t == s) refl;
    numbers = shown.numbers;
    kept = kept-stays held.members s held.numbers.next held.numbers.written m (at_stage next m) was (omega (arith, may.free)) shown.kept;
    tables = shown.tables;
    versions = record {
      course = course_read s shown.versions.course;
      waiting = shown.versions.waiting;
      readers = reader_ends v held.limits.snaps shown.versions.course shown.versions.waiting shown.ledger shown.versions.readers s;
      slots = shown.versions.slots;
      waits = λ t x is. waits-stand h shown t (t == s) refl x is;
      reading = λ t x start is reads seat. reading-stands h shown t (t == s) refl x start is reads seat;
      only = readers-still s shown.versions.course held.members behind.members beside shown.versions.only;
      used = starts-still s shown.versions.course held.tables shown.versions.used;
      unused = shown.versions.unused;
    };
    space = record { limits = shown.space.limits; pages = shown.space.pages; snaps = shown.space.snaps; slots = shown.space.slots };
  }

  moves : (start : Lines) (h : Shelf) → Moves s (seat_with next ws start) h (moved start h)
  moves start h = record {
    now = refl;
    mine = seat-here start h;
    others = record {
      seat = λ t apart. seat-beside start h t apart;
      steps = λ t apart. steps-beside start h t apart;
      later = record { later = omega arith; no_fewer = omega arith };
    };
    space = record { limits = refl; taken = λ file page. refl; snaps = omega arith; slots = omega arith };
  }

  -- the call of the trait that comes to this
  pub does-move : (there : Seat) (R : Shelf → Shelf → Type 0) → bare (seat_with next [] []) ≡ bare there →
      ((h g : Shelf) (start : Lines) → h.seat s ≡ seat_with m.stage ws start → Moves s (seat_with next ws start) h g → R h g) →
      DoesOn s there R v held v behind
  does-move there R comes as-asked = record {
    does = record {
      mine = ap (λ x. bare (stand_of x)) here ∙ comes;
      others = λ t apart. ap (λ x. bare (stand_of x)) (beside t apart);
      steps = λ t apart. ap steps_of (beside t apart);
      copier = λ number. copier-stays (stand_at held.members s) (Some (at_stage next m)) there s number comes;
      each = λ h shown. record {
        shelf = moved (sat h shown).start h;
        shown = shown-behind h shown;
        related = as-asked h (moved (sat h shown).start h) (sat h shown).start (sat h shown).is (moves (sat h shown).start h);
        lasts = record { since = λ t lines early is. inl is };
        opens = λ t early was. was;
        backed = λ number t lines early apart was. was;
      };
    };
    rolls = λ h shown base last was. was;
  }
