-- A step of a session: what is shown behind it.
use Rattle.std.proofs.Common.{◌≡◌, ◌≢◌, ◌≤◌, ◌<◌, ◌+◌, ◌==◌, ◌⊎◌, ℕ, Bool, true, false, IsTrue, List, [], Option, Some, None, refl, sym, ap, subst, ◌∙◌, arith}
use Rattle.std.specs.Prelude.{slice_get, slice_set, if◌then◌else◌}
use Rattle.std.proofs.lemmas.Bool.{eqb-true}
use Rattle.std.proofs.lemmas.Option.{same_Some, none-some}
use Rattle.rdb_outside.specs.Disk.{View, LeavesOnly, IsPending}
use Rattle.line_view.specs.declared.writes.Write.{Write}
use Rattle.line_view.specs.Knowledge.{Lines}
use Rattle.line_view.specs.Writes.{laid_all}
use Rattle.line_store.specs.Seats.{Seat, in_flight}
use Rattle.line_store.specs.Shelves.{Shelf, Space}
use Rattle.line_store.specs.Calls.{Moves, KeepsOthers, KeepsSpace, Lasts}
use Rattle.line_store.specs.Sights.{bare}
use Rattle.line_versions.specs.Course.{Course}
use Rattle.ledger_versions.specs.disk_seats.Ledgers.{resting, Ledger, Commit}
use Rattle.ledger_versions.specs.disk_versions.Courses.{course_read}
use Rattle.ledger_versions.specs.disk_seats.Members.{LedgerFacts}
use Rattle.stable_lines.specs.Journal.{Journal, lines_behind, next_number}
use Rattle.stable_lines.specs.Progress.{Progress}
use Rattle.stable_lines.specs.Rolling.{rolled, IsBehind}
use Rattle.reader_lines.specs.version_writing.Tables.{HoldsAll}
use Rattle.ledger_versions.specs.Readers.{ReaderFacts, Waiting}
use Rattle.ledger_versions.proofs.Written.{reader_ends}
use Rattle.member_rooms.specs.store_shows.Shows.{Leaves, ShowsLines, IsInFlight}
use Rattle.member_rooms.proofs.of_store_shows.Standing.{may_stand, lasts_with, all-open}
use Rattle.disk_store.proofs.Agreeing.{shown-opens}
use Rattle.member_memory.specs.Memory.{writes_in}
use Rattle.disk_store.specs.declared.member.Member.{Member}
use Rattle.disk_store.specs.declared.member.MemberStage.{MemberStage}
use Rattle.disk_store.specs.declared.member.MemberStage.TheVariants as stage
use Rattle.disk_store.specs.declared.held.Numbers.{Numbers}
use Rattle.disk_store.specs.Memory.{StoreMemory, with_member}
use Rattle.disk_store.specs.Numbers.{kept_in}
use Rattle.disk_store.specs.Seats.{seat_with, stand_of, stand_at, steps_in, steps_of, steps_at}
use Rattle.disk_store.specs.Standing.{StageStands}
use Rattle.disk_store.specs.Shown.{DoesOn, RollsOn, Sits, SitsAs, NumbersStand, TablesStand, WaitPushed, WaitsAs, IsReading, AreUnused, HaveStarts, SpaceStands, Shown}
use Rattle.disk_store.proofs.Members.{set-here, set-beside, get-within}
use Rattle.disk_store.proofs.Readers.{reader-beside, readers-still, starts-still}
use Rattle.disk_store.proofs.Moving.{itself}
use Rattle.disk_store.proofs.NoBackups.{copier-stays}

-- what a step comes to, beside a course and the lines that wait
pub record ComesTo (v w : View) (behind : StoreMemory) (s : ℕ) (n : Member) (g : Ledger) (course : Course) (waiting : Waiting) : Type 0 where
  pub ledger : Ledger
  pub facts : LedgerFacts w ledger
  pub limits : ledger.base.limits ≡ g.base.limits
  pub none : (t : ℕ) → (t == s) ≡ false → g.standing t ≡ resting → ledger.standing t ≡ resting
  pub others : (t : ℕ) (x : Member) → (t == s) ≡ false → slice_get behind.members t ≡ Some x → StageStands x.stage v g t x → StageStands x.stage w ledger t x
  pub mine : StageStands n.stage w ledger s n
  pub numbered : NumbersStand w ledger behind.numbers behind.next
  pub kept : behind.numbers.next + kept_in behind.members ≤ behind.numbers.written
  pub tabled : TablesStand w ledger behind.tables
  pub course_behind : Course
  pub waiting_behind : Waiting
  pub readers : ReaderFacts w ledger behind.limits.snaps course_behind waiting_behind
  pub slots : HoldsAll w.content course_behind.followed behind.limits.snaps behind.slots
  pub used : HaveStarts behind.tables course_behind
  pub unused : AreUnused behind.tables course_behind
  pub waits : WaitsAs n.stage waiting_behind s n
  pub waits_beside : (t : ℕ) → (t == s) ≡ false → waiting_behind t ≡ waiting t
  pub reads : (t : ℕ) → course_behind.reader t ≡ course.reader t

-- what is committed, its journal and the commit that is under way stay
pub record StillCommits (g h : Ledger) : Type 0 where
  pub lines : h.base.lines ≡ g.base.lines
  pub journal : h.base.journal ≡ g.base.journal
  pub commit : h.commit ≡ g.commit

-- so each backup goes on giving what is committed
rolls-same : (g h : Progress) → h.lines ≡ g.lines → h.journal ≡ g.journal → RollsOn g h
rolls-same g h lines journal base last was from =
    let behind : IsBehind base last g = was (subst (λ (j : Journal). 1 ≤ j.first) journal from) in
    record {
      below = subst (λ (j : Journal). last < next_number j) (sym journal) behind.below;
      gives = lines ∙ behind.gives ∙ ap (λ (j : Journal). rolled base last j.groups) (sym journal);
    }

-- The memory behind a step: the session's member is another, and no limit is. What is known of the room stays in order.
pub record Becomes (held behind : StoreMemory) (s : ℕ) (n : Member) : Type 0 where
  pub limits : behind.limits ≡ held.limits
  pub members : behind.members ≡ slice_set held.members s n
  pub space_of : Space → Space
  pub spaced : (space : Space) → SpaceStands held space → SpaceStands behind (space_of space)

abbrev pub becomes-member : (held : StoreMemory) (numbers : Numbers) (s : ℕ) (n : Member) → Becomes held (record (with_member s n held) { numbers = numbers }) s n
becomes-member held numbers s n = record {
  limits = refl;
  members = refl;
  space_of = λ space. space;
  spaced = λ space has. record { limits = has.limits; pages = has.pages; snaps = has.snaps; slots = has.slots };
}

pub space-same : (space : Space) → KeepsSpace space space
space-same space = record { limits = refl; taken = λ file page. refl; snaps = omega arith; slots = omega arith }

module _ (v w : View) (held behind : StoreMemory) (s : ℕ) (m n : Member) (was : slice_get held.members s ≡ Some m) (becomes : Becomes held behind s n) (writes : n.stage ≢ stage.Reading) (told : w.tells ≡ v.tells)
    (leaves : IsTrue v.tells → LeavesOnly v w (λ image. IsPending v image ⊎ IsPending w image))
    (comes : (h : Shelf) (shown : Shown v held h) → StageStands m.stage v shown.ledger s m → ComesTo v w behind s n shown.ledger shown.versions.course shown.versions.waiting) where
  abbrev before-ws : List Write
  before-ws = writes_in m.written.lines

  abbrev ws : List Write
  ws = writes_in n.written.lines

  here : slice_get behind.members s ≡ Some n
  here = ap (λ xs. slice_get xs s) becomes.members ∙ set-here held.members s n (get-within held.members s m was)

  beside : (t : ℕ) → (t == s) ≡ false → slice_get behind.members t ≡ slice_get held.members t
  beside t apart = ap (λ xs. slice_get xs t) becomes.members ∙ set-beside held.members s t n apart

  -- the shelf that is shown behind it
  abbrev after : Lines → Lines → Shelf → Shelf
  after now start h = record {
    now = now;
    seat = λ t. if t == s then seat_with n.stage ws start else h.seat t;
    steps = λ t. if t == s then steps_in n.stage n else h.steps t;
    space = becomes.space_of h.space;
    clock = record { time = w.moment; faults = w.faults; promised = behind.numbers.ceiling };
  }

  module _ (now start : Lines) (h : Shelf) where
    seat-here : (after now start h).seat s ≡ seat_with n.stage ws start
    seat-here = ap (λ b. if b then seat_with n.stage ws start else h.seat s) (itself s)

    pub seat-beside : (t : ℕ) → (t == s) ≡ false → (after now start h).seat t ≡ h.seat t
    seat-beside t apart = ap (λ b. if b then seat_with n.stage ws start else h.seat t) apart

    steps-here : (after now start h).steps s ≡ steps_in n.stage n
    steps-here = ap (λ b. if b then steps_in n.stage n else h.steps s) (itself s)

    steps-beside : (t : ℕ) → (t == s) ≡ false → (after now start h).steps t ≡ h.steps t
    steps-beside t apart = ap (λ b. if b then steps_in n.stage n else h.steps t) apart

  module _ (h : Shelf) (shown : Shown v held h) where
    pub sat : SitsAs v shown.ledger s m (h.seat s)
    sat = subst (λ x. Sits v shown.ledger s x (h.seat s)) was (shown.seats s)

    abbrev to : ComesTo v w behind s n shown.ledger shown.versions.course shown.versions.waiting
    to = comes h shown sat.stands

    abbrev shelf : Shelf
    shelf = after to.ledger.base.lines sat.start h

    seat-beside-here : (t : ℕ) → (t == s) ≡ false → shelf.seat t ≡ h.seat t
    seat-beside-here t apart = seat-beside to.ledger.base.lines sat.start h t apart

    sits-beside : (t : ℕ) → (t == s) ≡ false → (x : Option Member) → slice_get behind.members t ≡ x → (seat : Seat) → Sits v shown.ledger t x seat → Sits w to.ledger t x seat
    sits-beside t apart None got seat sits = (sits.0, to.none t apart sits.1)
    sits-beside t apart (Some x) got seat sits = record { start = sits.start; is = sits.is; stands = to.others t x apart got sits.stands }

    seats-stand : (t : ℕ) (b : Bool) → (t == s) ≡ b → Sits w to.ledger t (slice_get behind.members t) (shelf.seat t)
    seats-stand t true same =
        let it : SitsAs w to.ledger s n (shelf.seat s) = record { start = sat.start; is = seat-here to.ledger.base.lines sat.start h; stands = to.mine } in
        subst (λ u. Sits w to.ledger u (slice_get behind.members u) (shelf.seat u)) (sym (eqb-true t s same)) (subst (λ x. Sits w to.ledger s x (shelf.seat s)) (sym here) it)
    seats-stand t false apart =
        subst (λ x. Sits w to.ledger t x (shelf.seat t)) (sym (beside t apart)) (subst (λ seat. Sits w to.ledger t (slice_get held.members t) seat) (sym (seat-beside-here t apart)) (sits-beside t apart (slice_get held.members t) (beside t apart) _ (shown.seats t)))

    steps-stand : (t : ℕ) (b : Bool) → (t == s) ≡ b → shelf.steps t ≡ steps_at behind.members t
    steps-stand t true same = subst (λ u. shelf.steps u ≡ steps_at behind.members u) (sym (eqb-true t s same)) (steps-here to.ledger.base.lines sat.start h ∙ ap steps_of (sym here))
    steps-stand t false apart = steps-beside to.ledger.base.lines sat.start h t apart ∙ (shown.steps t ∙ ap steps_of (sym (beside t apart)))

    is-n : (t : ℕ) (x : Member) → t ≡ s → slice_get behind.members t ≡ Some x → n ≡ x
    is-n t x e is = same_Some _ _ (sym here ∙ (ap (λ u. slice_get behind.members u) (sym e) ∙ is))

    waits-alike : (st : MemberStage) (t : ℕ) (x : Member) → to.waiting_behind t ≡ shown.versions.waiting t → WaitsAs st shown.versions.waiting t x → WaitsAs st to.waiting_behind t x
    waits-alike stage.Outside t x e has = tt
    waits-alike (stage.Beginning ceiling) t x e has = tt
    waits-alike stage.Writing t x e has = e ∙ has
    waits-alike stage.Changing t x e has = subst (λ ws. WaitPushed ws x.pushed x.written) (sym e) has
    waits-alike stage.Broken t x e has = tt
    waits-alike stage.Prepared t x e has = e ∙ has
    waits-alike (stage.Committing turn) t x e has = e ∙ has
    waits-alike stage.RollingBack t x e has = tt
    waits-alike stage.Closing t x e has = tt
    waits-alike stage.Reading t x e has = tt
    waits-alike (stage.Dead commits left) t x e has = tt

    waits-stand : (t : ℕ) (b : Bool) → (t == s) ≡ b → (x : Member) → slice_get behind.members t ≡ Some x → WaitsAs x.stage to.waiting_behind t x
    waits-stand t true same x is =
        let e : t ≡ s = eqb-true t s same in
        subst (λ u. WaitsAs x.stage to.waiting_behind u x) (sym e) (subst (λ (y : Member). WaitsAs y.stage to.waiting_behind s y) (is-n t x e is) to.waits)
    waits-stand t false apart x is = waits-alike x.stage t x (to.waits_beside t apart) (shown.versions.waits t x (sym (beside t apart) ∙ is))

    reading-stands : (t : ℕ) (b : Bool) → (t == s) ≡ b → (x : Member) (start : Lines) → slice_get behind.members t ≡ Some x → x.stage ≡ stage.Reading → shelf.seat t ≡ seat_with stage.Reading [] start → IsReading (course_read s to.course_behind) t x start
    reading-stands t true same x start is reads seat = absurd (writes (ap (λ (y : Member). y.stage) (is-n t x (eqb-true t s same) is) ∙ reads))
    reading-stands t false apart x start is reads seat =
        let it = shown.versions.reading t x start (sym (beside t apart) ∙ is) reads (sym (seat-beside-here t apart) ∙ seat) in
        record { reading = it.reading; goes = reader-beside s to.course_behind t apart ∙ (to.reads t ∙ it.goes); kept = it.kept; lines = it.lines; ordered = it.ordered }

    -- the commits that are under way behind it are those of their seats
    module _ (flight : (c : Commit) → to.ledger.commit ≡ Some c → IsInFlight to.ledger c.flight (shelf.seat c.member)) where
      lines-stand : ShowsLines w to.ledger shelf
      lines-stand = record { now = refl; time = refl; faults = refl; flight = flight }

      abbrev shown-behind : Shown w behind shelf
      shown-behind = record {
        tells = told ∙ shown.tells;
        ledger = to.ledger;
        facts = to.facts;
        limits = to.limits ∙ shown.limits ∙ sym becomes.limits;
        lines = lines-stand;
        promised = refl;
        seats = λ t. seats-stand t (t == s) refl;
        steps = λ t. steps-stand t (t == s) refl;
        numbers = to.numbered;
        kept = to.kept;
        tables = to.tabled;
        versions = record {
          course = course_read s to.course_behind;
          waiting = to.waiting_behind;
          readers = reader_ends w behind.limits.snaps to.course_behind to.waiting_behind to.ledger to.readers s;
          slots = to.slots;
          waits = λ t x is. waits-stand t (t == s) refl x is;
          reading = λ t x start is reads seat. reading-stands t (t == s) refl x start is reads seat;
          only = readers-still s to.course_behind held.members behind.members beside (λ t reading goes. shown.versions.only t reading (sym (to.reads t) ∙ goes));
          used = starts-still s to.course_behind behind.tables to.used;
          unused = to.unused;
        };
        space = becomes.spaced h.space shown.space;
      }

      shelf-lasts : Lasts (Leaves v) (Leaves w) h shelf
      shelf-lasts = lasts_with v w h shelf shown.lines.time (leaves shown.tells) (may_stand v shown.ledger h shown.facts shown.lines) (may_stand w to.ledger shelf to.facts lines-stand)

  -- what is known of the shelves before and behind it
  pub record Related (h g : Shelf) (start : Lines) : Type 0 where
    pub shown : Shown v held h
    pub stands : StageStands m.stage v shown.ledger s m
    pub seat : h.seat s ≡ seat_with m.stage before-ws start
    pub steps : h.steps s ≡ steps_in m.stage m
    pub now_behind : g.now ≡ (comes h shown stands).ledger.base.lines
    pub seat_behind : g.seat s ≡ seat_with n.stage ws start
    pub steps_behind : g.steps s ≡ steps_in n.stage n
    pub space_behind : g.space ≡ becomes.space_of h.space
    pub time_behind : g.clock.time ≡ w.moment
    pub faults_behind : g.clock.faults ≡ w.faults
    pub promised_behind : g.clock.promised ≡ behind.numbers.ceiling
    pub others : KeepsOthers s h g

  -- time goes on
  module _ (later : v.moment ≤ w.moment) (no-fewer : v.faults ≤ w.faults) (there : Seat) (R : Shelf → Shelf → Type 0) (arrives : bare (seat_with n.stage [] []) ≡ bare there) where
    pub does-any : ((h : Shelf) (shown : Shown v held h) (c : Commit) → (to h shown).ledger.commit ≡ Some c → IsInFlight (to h shown).ledger c.flight ((shelf h shown).seat c.member)) →
        ((h : Shelf) (shown : Shown v held h) (stands : StageStands m.stage v shown.ledger s m) → RollsOn shown.ledger.base (comes h shown stands).ledger.base) →
        ((h g : Shelf) (start : Lines) → Related h g start → R h g) → DoesOn s there R v held w behind
    does-any flight rolls as-asked = record {
      does = record {
        mine = ap (λ x. bare (stand_of x)) here ∙ arrives;
        others = λ t apart. ap (λ x. bare (stand_of x)) (beside t apart);
        steps = λ t apart. ap steps_of (beside t apart);
        copier = λ number. copier-stays (stand_at held.members s) (Some n) there s number arrives;
        each = λ h shown. record {
          shelf = shelf h shown;
          shown = shown-behind h shown (flight h shown);
          related = as-asked h (shelf h shown) (sat h shown).start (record {
            shown = shown;
            stands = (sat h shown).stands;
            seat = (sat h shown).is;
            steps = shown.steps s ∙ ap steps_of was;
            now_behind = refl;
            seat_behind = seat-here (to h shown).ledger.base.lines (sat h shown).start h;
            steps_behind = steps-here (to h shown).ledger.base.lines (sat h shown).start h;
            space_behind = refl;
            time_behind = refl;
            faults_behind = refl;
            promised_behind = refl;
            others = record {
              seat = λ t apart. seat-beside (to h shown).ledger.base.lines (sat h shown).start h t apart;
              steps = λ t apart. steps-beside (to h shown).ledger.base.lines (sat h shown).start h t apart;
              later = record { later = subst (λ (n : ℕ). n ≤ w.moment) (sym shown.lines.time) later; no_fewer = subst (λ (n : ℕ). n ≤ w.faults) (sym shown.lines.faults) no-fewer };
            };
          });
          lasts = shelf-lasts h shown (flight h shown);
          opens = all-open v w h shown.lines.time (leaves shown.tells) (shown-opens v held h shown) (shown-opens w behind (shelf h shown) (shown-behind h shown (flight h shown)));
          backed = λ number t lines early apart was. was;
        };
      };
      rolls = λ h shown. rolls h shown (sat h shown).stands;
    }

    -- nothing becomes committed
    pub does-moves : ((h : Shelf) (shown : Shown v held h) (c : Commit) → (to h shown).ledger.commit ≡ Some c → IsInFlight (to h shown).ledger c.flight ((shelf h shown).seat c.member)) →
        ((h : Shelf) (shown : Shown v held h) (stands : StageStands m.stage v shown.ledger s m) → (comes h shown stands).ledger.base.lines ≡ shown.ledger.base.lines) →
        ((h : Shelf) (shown : Shown v held h) (stands : StageStands m.stage v shown.ledger s m) → (comes h shown stands).ledger.base.journal ≡ shown.ledger.base.journal) →
        ((space : Space) → KeepsSpace space (becomes.space_of space)) →
        ((h g : Shelf) (start : Lines) → Related h g start → Moves s (seat_with n.stage ws start) h g → R h g) → DoesOn s there R v held w behind
    does-moves flight same journal keeps-space as-asked = does-any flight (λ h shown stands. rolls-same shown.ledger.base (comes h shown stands).ledger.base (same h shown stands) (journal h shown stands)) (λ h g start related. as-asked h g start related (record {
      now = related.now_behind ∙ same h related.shown related.stands ∙ sym related.shown.lines.now;
      mine = related.seat_behind;
      others = related.others;
      space = subst (λ space. KeepsSpace h.space space) (sym related.space_behind) (keeps-space h.space);
    }))

    -- the commit that is under way is another's
    pub apart-flight : ((h : Shelf) (shown : Shown v held h) → StageStands m.stage v shown.ledger s m → (c : Commit) → shown.ledger.commit ≡ Some c → c.member ≢ s) →
        ((h : Shelf) (shown : Shown v held h) (stands : StageStands m.stage v shown.ledger s m) → StillCommits shown.ledger (comes h shown stands).ledger) →
        (h : Shelf) (shown : Shown v held h) (c : Commit) → (to h shown).ledger.commit ≡ Some c → IsInFlight (to h shown).ledger c.flight ((shelf h shown).seat c.member)
    apart-flight apart commits h shown c is =
        let was-there = sym (commits h shown (sat h shown).stands).commit ∙ is in
        flight-stays (c.member == s) refl (apart h shown (sat h shown).stands c was-there) (shown.lines.flight c was-there)
      where
        flight-stays : (b : Bool) → (c.member == s) ≡ b → c.member ≢ s → IsInFlight shown.ledger c.flight (h.seat c.member) → IsInFlight (to h shown).ledger c.flight ((shelf h shown).seat c.member)
        flight-stays true same other flies = absurd (other (eqb-true c.member s same))
        flight-stays false other-one other flies = record {
          writes = flies.writes;
          under_way = ap in_flight (seat-beside-here h shown c.member other-one) ∙ flies.under_way;
          laid = ap (lines_behind c.flight.group) (commits h shown (sat h shown).stands).lines ∙ flies.laid ∙ ap (λ all. laid_all flies.writes all) (sym (commits h shown (sat h shown).stands).lines);
        }

    pub does-apart : ((h : Shelf) (shown : Shown v held h) → StageStands m.stage v shown.ledger s m → (c : Commit) → shown.ledger.commit ≡ Some c → c.member ≢ s) →
        ((h : Shelf) (shown : Shown v held h) (stands : StageStands m.stage v shown.ledger s m) → StillCommits shown.ledger (comes h shown stands).ledger) →
        ((space : Space) → KeepsSpace space (becomes.space_of space)) →
        ((h g : Shelf) (start : Lines) → Related h g start → Moves s (seat_with n.stage ws start) h g → R h g) → DoesOn s there R v held w behind
    does-apart apart commits keeps-space as-asked = does-moves (apart-flight apart commits) (λ h shown stands. (commits h shown stands).lines) (λ h shown stands. (commits h shown stands).journal) keeps-space as-asked

    -- its seat stays
    pub does-seated : ((start : Lines) → seat_with n.stage ws start ≡ seat_with m.stage before-ws start) → ((h : Shelf) (shown : Shown v held h) (stands : StageStands m.stage v shown.ledger s m) → StillCommits shown.ledger (comes h shown stands).ledger) →
        ((space : Space) → KeepsSpace space (becomes.space_of space)) →
        ((h g : Shelf) (start : Lines) → Related h g start → Moves s (seat_with n.stage ws start) h g → R h g) → DoesOn s there R v held w behind
    does-seated seats commits keeps-space as-asked = does-moves
        (λ h shown c is. flight-stays h shown c (c.member == s) refl (shown.lines.flight c (sym (commits h shown (sat h shown).stands).commit ∙ is)))
        (λ h shown stands. (commits h shown stands).lines) (λ h shown stands. (commits h shown stands).journal) keeps-space as-asked
      where
        seat-stays : (h : Shelf) (shown : Shown v held h) (t : ℕ) (b : Bool) → (t == s) ≡ b → (shelf h shown).seat t ≡ h.seat t
        seat-stays h shown t true same =
            ap (λ b. if b then seat_with n.stage ws (sat h shown).start else h.seat t) same ∙ seats (sat h shown).start ∙ sym (sat h shown).is ∙ ap h.seat (sym (eqb-true t s same))
        seat-stays h shown t false apart = seat-beside-here h shown t apart

        flight-stays : (h : Shelf) (shown : Shown v held h) (c : Commit) (b : Bool) → (c.member == s) ≡ b → IsInFlight shown.ledger c.flight (h.seat c.member) → IsInFlight (to h shown).ledger c.flight ((shelf h shown).seat c.member)
        flight-stays h shown c b is flies = record {
          writes = flies.writes;
          under_way = ap in_flight (seat-stays h shown c.member b is) ∙ flies.under_way;
          laid = ap (lines_behind c.flight.group) (commits h shown (sat h shown).stands).lines ∙ flies.laid ∙ ap (λ all. laid_all flies.writes all) (sym (commits h shown (sat h shown).stands).lines);
        }

    pub never : ((ws : List Write) (start : Lines) → in_flight (seat_with m.stage ws start) ≡ None) → (h : Shelf) (shown : Shown v held h) → StageStands m.stage v shown.ledger s m → (c : Commit) → shown.ledger.commit ≡ Some c → c.member ≢ s
    never still h shown stands c is same =
        let flies = shown.lines.flight c is in
        none-some _ (sym (ap in_flight (sat h shown).is ∙ still before-ws (sat h shown).start) ∙ (ap (λ t. in_flight (h.seat t)) (sym same) ∙ flies.under_way))

    -- the session has none under way
    pub does-step : ((ws : List Write) (start : Lines) → in_flight (seat_with m.stage ws start) ≡ None) → ((h : Shelf) (shown : Shown v held h) (stands : StageStands m.stage v shown.ledger s m) → StillCommits shown.ledger (comes h shown stands).ledger) →
        ((space : Space) → KeepsSpace space (becomes.space_of space)) →
        ((h g : Shelf) (start : Lines) → Related h g start → Moves s (seat_with n.stage ws start) h g → R h g) → DoesOn s there R v held w behind
    does-step still commits keeps-space as-asked = does-apart (never still) commits keeps-space as-asked

    -- its own commit may be under way, before and behind it
    pub does-flying : ((start : Lines) → in_flight (seat_with n.stage ws start) ≡ in_flight (seat_with m.stage before-ws start)) → ((h : Shelf) (shown : Shown v held h) (stands : StageStands m.stage v shown.ledger s m) → StillCommits shown.ledger (comes h shown stands).ledger) →
        ((space : Space) → KeepsSpace space (becomes.space_of space)) →
        ((h g : Shelf) (start : Lines) → Related h g start → Moves s (seat_with n.stage ws start) h g → R h g) → DoesOn s there R v held w behind
    does-flying flown commits keeps-space as-asked = does-moves
        (λ h shown c is. flight-stays h shown c (c.member == s) refl (shown.lines.flight c (sym (commits h shown (sat h shown).stands).commit ∙ is)))
        (λ h shown stands. (commits h shown stands).lines) (λ h shown stands. (commits h shown stands).journal) keeps-space as-asked
      where
        flies-still : (h : Shelf) (shown : Shown v held h) (t : ℕ) (b : Bool) → (t == s) ≡ b → in_flight ((shelf h shown).seat t) ≡ in_flight (h.seat t)
        flies-still h shown t true same =
            ap (λ b. in_flight (if b then seat_with n.stage ws (sat h shown).start else h.seat t)) same ∙ flown (sat h shown).start ∙ sym (ap in_flight (sat h shown).is) ∙ ap (λ u. in_flight (h.seat u)) (sym (eqb-true t s same))
        flies-still h shown t false apart = ap in_flight (seat-beside-here h shown t apart)

        flight-stays : (h : Shelf) (shown : Shown v held h) (c : Commit) (b : Bool) → (c.member == s) ≡ b → IsInFlight shown.ledger c.flight (h.seat c.member) → IsInFlight (to h shown).ledger c.flight ((shelf h shown).seat c.member)
        flight-stays h shown c b is flies = record {
          writes = flies.writes;
          under_way = flies-still h shown c.member b is ∙ flies.under_way;
          laid = ap (lines_behind c.flight.group) (commits h shown (sat h shown).stands).lines ∙ flies.laid ∙ ap (λ all. laid_all flies.writes all) (sym (commits h shown (sat h shown).stands).lines);
        }
