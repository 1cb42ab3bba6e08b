-- A line of a change is pushed aside, or has nothing to push: it joins those that wait.
use Rattle.std.proofs.Common.{◌≡◌, ◌≢◌, ◌≤◌, ◌<◌, ◌+◌, ◌-◌, ℕ, true, false, IsTrue, List, [], ◌∷◌, length, Some, None, inl, refl, sym, ap, subst, ◌∙◌, arith}
use Rattle.std.specs.Prelude.{slice_get, slice_set, if◌then◌else◌}
use Rattle.std.specs.FinMap.Entries.{find, put}
use Rattle.rdb_types.specs.declared.keys.Dbkey.{Dbkey}
use Rattle.rdb_types.specs.declared.keys.Line.{Line}
use Rattle.rdb_types.specs.declared.keys.Tsn.{Tsn}
use Rattle.rdb_types.specs.Order.{dbkey_order}
use Rattle.rdb_outside.specs.Disk.{View, IsPending, OnlyReads}
use Rattle.line_view.specs.declared.writes.Write.{Write}
use Rattle.line_view.specs.Knowledge.{Lines}
use Rattle.line_store.specs.Seats.{in_flight}
use Rattle.line_store.specs.Shelves.{Shelf}
use Rattle.line_store.specs.Calls.{Moves, GoesOn}
use Rattle.line_store.specs.Sights.{bare}
use Rattle.line_versions.specs.Versions.{snap_of}
use Rattle.line_versions.specs.Files.{entries_in, snap_file}
use Rattle.line_versions.specs.Course.{Course, pushed}
use Rattle.stable_lines.specs.Slots.{line_at, named}
use Rattle.line_moves.specs.Calls.{OnlyWrites}
use Rattle.line_moves.specs.Lines.{ChangedLines}
use Rattle.disk_versions.specs.Courses.{course_pushed}
use Rattle.version_writing.specs.Slots.{IsAside}
use Rattle.version_writing.specs.Tables.{HoldsAll}
use Rattle.disk_seats.specs.Ledgers.{changing, entries_of, Ledger, Standing}
use Rattle.disk_seats.specs.Members.{IsLeftTo, LedgerFacts}
use Rattle.ledger_versions.specs.Readers.{HasBefore, ReaderFacts, set_waiting}
use Rattle.ledger_versions.proofs.LinesJoin.{line_first, line_joins}
use Rattle.ledger_versions.proofs.Restanding.{same_ledger}
use Rattle.member_memory.specs.Memory.{writes_in}
use Rattle.member_steps.proofs.Journals.{read_ledger}
use Rattle.disk_store.specs.declared.member.Member.{Member}
use Rattle.disk_store.specs.declared.member.MemberStage.TheVariants as stage
use Rattle.committed_tables.specs.Tables.{WereUsed}
use Rattle.disk_store.specs.declared.held.Numbers.{Numbers}
use Rattle.disk_store.specs.declared.held.Tables.{Tables}
use Rattle.disk_store.specs.ChangeSteps.{rechained}
use Rattle.disk_store.specs.Memory.{StoreMemory}
use Rattle.disk_store.specs.Numbers.{kept_at, kept_in}
use Rattle.disk_store.specs.Seats.{seat_with, stand_of, stand_at, steps_in}
use Rattle.disk_store.specs.Standing.{HasBegun, IsJournalling, StageStands}
use Rattle.disk_store.specs.Shown.{DoesOn, NumbersStand, TablesStand, WaitPushed, WaitsAs, AreUnused, IsUnused, Shown, pages_of}
use Rattle.disk_store.specs.Sound.{IsSound}
use Rattle.disk_store.proofs.Moving.{itself}
use Rattle.disk_store.proofs.Members.{get-within}
use Rattle.disk_store.proofs.Beside.{SameAreas, SameHeader, stays-there}
use Rattle.disk_store.proofs.Kept.{kept-stays}
use Rattle.disk_store.proofs.Stepping.{ComesTo, Becomes, does-step}
use Rattle.disk_store.proofs.Passing.{Passes, header-beside, header-read, passes-reads, reads-leave, reads-ceiling, aside-ceiling, tables-pass, slots-pass}
use Rattle.disk_store.proofs.Changed.{got-within, used-all}
use Rattle.change_steps.proofs.LeftTo.{not-borne}
use Rattle.change_steps.proofs.SnapWritten.{areas, snap-keeps, snap-tables}
use Rattle.disk_store.proofs.SpentSlots.{space-less, keeps-less, stands-less}
use Rattle.change_steps.proofs.WaitMore.{none-waits, puts-in, wait-more}
use Rattle.disk_store.proofs.SlotsSound.{found-key}

-- ---- what the ledger has of the line

module _ (v : View) (g : Ledger) (s : ℕ) (m : Member) (key : Dbkey) (has : HasBegun g s m) (all-in : length m.written.keys ≤ m.journalled) (is : slice_get m.written.keys m.pushed ≡ Some key) where
  early : m.pushed < length has.all
  early = let less = get-within m.written.keys m.pushed key is in omega (arith, all-in, less, has.count)

  pub has-before : HasBefore has.all key
  has-before =
      let got = got-within has.all m.pushed early in
      record { index = m.pushed; undo = got.0; is = got.1; key_is = same-key (sym (has.keys m.pushed got.0 got.1) ∙ is) }
    where
      same-key : {a b : Dbkey} → Some a ≡ Some b → a ≡ b
      same-key e = cc

  pub left-still : LedgerFacts v g → IsLeftTo s key g.standing
  left-still facts t i undo ne got same =
      let mine = has-before in
      facts.apart s t mine.index i mine.undo undo (λ e. ne (sym e)) (ap (λ (x : Standing). slice_get (entries_of x) mine.index) has.stands ∙ mine.is) got (mine.key_is ∙ sym same)

-- what is left is less
pub pushed-fewer : (m n : Member) → m.stage ≡ stage.Changing → n.stage ≡ m.stage → n.named ≡ m.named → n.journalled ≡ m.journalled → n.pushed ≡ m.pushed + 1 → n.written.keys ≡ m.written.keys → m.pushed < length m.written.keys → steps_in n.stage n < steps_in m.stage m
pushed-fewer m n at stage-is named-is journalled-is pushed-is keys-is less =
    let new : steps_in n.stage n ≡ steps_in stage.Changing n = ap (λ x. steps_in x n) (stage-is ∙ at) in
    let old : steps_in m.stage m ≡ steps_in stage.Changing m = ap (λ x. steps_in x m) at in
    let named : ◌≡◌ {A = ℕ} (if n.named then 0 else 1) (if m.named then 0 else 1) = ap (λ b. if b then 0 else 1) named-is in
    let keys = ap (λ ks. length ks) keys-is in
    omega (arith, new, old, less, named, keys, journalled-is, pushed-is)

module _ (v w : View) (held behind : StoreMemory) (s : ℕ) (m n : Member) (was : slice_get held.members s ≡ Some m) (sound : IsSound held) (at : m.stage ≡ stage.Changing) (all-in : length m.written.keys ≤ m.journalled) (key : Dbkey) (is : slice_get m.written.keys m.pushed ≡ Some key) (chain : ℕ)
    (stage-is : n.stage ≡ m.stage) (tsn-is : n.tsn ≡ m.tsn) (named-is : n.named ≡ m.named) (journalled-is : n.journalled ≡ m.journalled) (pushed-is : n.pushed ≡ m.pushed + 1) (keys-is : n.written.keys ≡ m.written.keys)
    (lines-is : (line : Line) → find dbkey_order key m.written.lines ≡ Some line → n.written.lines ≡ put dbkey_order key (rechained chain line) m.written.lines)
    (same-writes : writes_in n.written.lines ≡ writes_in m.written.lines)
    (limits-is : behind.limits ≡ held.limits) (members-is : behind.members ≡ slice_set held.members s n) (tables-is : behind.tables ≡ held.tables) (next-is : behind.next ≡ held.next) (numbers-is : behind.numbers ≡ held.numbers)
    (fewer : used-all behind.slots ≤ used-all held.slots) (now : IsTrue v.tells → IsPending v v.content) where
  abbrev becomes : Becomes held behind s n
  becomes = record { limits = limits-is; members = members-is; space_of = space-less held.slots behind.slots; spaced = λ space has. stands-less held behind space limits-is tables-is next-is fewer has }

  abbrev before : Line
  before = (found-key held sound s m was m.pushed key is).0

  found : find dbkey_order key m.written.lines ≡ Some before
  found = (found-key held sound s m was m.pushed key is).1

  abbrev line : Line
  line = rechained chain before

  still : (ws : List Write) (start : Lines) → in_flight (seat_with m.stage ws start) ≡ None
  still ws start = ap (λ x. in_flight (seat_with x ws start)) at

  at-now : n.stage ≡ stage.Changing
  at-now = stage-is ∙ at

  pub push-less : steps_in n.stage n < steps_in m.stage m
  push-less = pushed-fewer m n at stage-is named-is journalled-is pushed-is keys-is (get-within m.written.keys m.pushed key is)

  module _ (h : Shelf) (shown : Shown v held h) (stands : StageStands m.stage v shown.ledger s m) where
    abbrev g : Ledger
    g = shown.ledger

    abbrev journals : IsJournalling v g s m
    journals = subst (λ x. StageStands x v g s m) at stands

    abbrev has : HasBegun g s m
    has = journals.begun

    wait-was : WaitPushed (shown.versions.waiting s) m.pushed m.written
    wait-was = subst (λ x. WaitsAs x shown.versions.waiting s m) at (shown.versions.waits s m was)

    once : (i k : ℕ) (q : Dbkey) → slice_get m.written.keys i ≡ Some q → slice_get m.written.keys k ≡ Some q → i ≡ k
    once = (sound.each s m was).keys.once

    abbrev more : ChangedLines
    more = (key, line) ∷ shown.versions.waiting s

    -- it waits now
    waits-now : (set_waiting s more shown.versions.waiting) s ≡ more
    waits-now = ap (λ b. if b then more else shown.versions.waiting s) (itself s)

    wait-new : WaitsAs n.stage (set_waiting s more shown.versions.waiting) s n
    wait-new = subst (λ x. WaitsAs x (set_waiting s more shown.versions.waiting) s n) (sym at-now)
        (subst (λ ls. WaitPushed ls n.pushed n.written) (sym waits-now)
        (subst (λ (k : ℕ). WaitPushed more k n.written) (sym pushed-is) (wait-more (shown.versions.waiting s) m.pushed m.written n.written key before chain once is keys-is (lines-is before found) wait-was)))

    begun-now : HasBegun g s n
    begun-now = record {
      transaction = has.transaction;
      all = has.all;
      stable = has.stable;
      stands = has.stands;
      is_open = has.is_open;
      number = tsn-is ∙ has.number;
      count = journalled-is ∙ has.count;
      keys = λ i undo got. ap (λ ks. slice_get ks i) keys-is ∙ has.keys i undo got;
    }

    journals-now : SameHeader s v w → IsJournalling w g s n
    journals-now same = record { begun = begun-now; header = λ noted. ap named same ∙ journals.header (sym named-is ∙ noted) ∙ ap (λ (k : Tsn). k.number) (sym tsn-is) }

    ended : shown.versions.course.going (line_at v.content key).tsn.number ≡ false
    ended = not-borne v g shown.facts s has.all has.stable has.stands key (left-still v g s m key has all-in is shown.facts) held.limits.snaps shown.versions.course shown.versions.waiting shown.versions.readers (now shown.tells)

    bears : line.tsn ≡ has.transaction.tsn
    bears = (sound.each s m was).bears key before found ∙ has.number

    kept-now : behind.numbers.next + kept_in behind.members ≤ behind.numbers.written
    kept-now =
        let none : kept_at n.stage ≡ 0 = ap kept_at at-now in
        subst (λ (x : Numbers). x.next + kept_in behind.members ≤ x.written) (sym numbers-is) (subst (λ (ms : List Member). held.numbers.next + kept_in ms ≤ held.numbers.written) (sym members-is) (kept-stays held.members s held.numbers.next held.numbers.written m n was (omega (arith, none)) shown.kept))

    -- what a step comes to that keeps the ledger
    abbrev comes-so : (course : Course) → SameAreas v w → ((t : ℕ) → SameHeader t v w) → LedgerFacts w g → NumbersStand w g behind.numbers behind.next → TablesStand w g behind.tables → ReaderFacts w g behind.limits.snaps course (set_waiting s more shown.versions.waiting)
        → HoldsAll w.content course.followed behind.limits.snaps behind.slots → AreUnused held.tables course → ((t : ℕ) → course.reader t ≡ shown.versions.course.reader t) → ComesTo v w behind s n g shown.versions.course shown.versions.waiting
    comes-so course same header facts numbered tabled readers slots unused reads = record {
      ledger = g;
      facts = facts;
      limits = refl;
      none = λ t apart rests. rests;
      others = λ t x apart got stood. stays-there v w g g t same (record { standing = inl refl; going = refl; commit = refl }) x (header t) stood;
      mine = subst (λ x. StageStands x w g s n) (sym at-now) (journals-now (header s));
      numbered = numbered;
      kept = kept-now;
      tabled = tabled;
      course_behind = course;
      waiting_behind = set_waiting s more shown.versions.waiting;
      readers = readers;
      slots = slots;
      waits = wait-new;
      waits_beside = λ t apart. ap (λ b. if b then more else shown.versions.waiting t) apart;
      reads = reads;
      unused = subst (λ (x : Tables). AreUnused x course) (sym tables-is) unused;
      used = λ r file reading start is goes lines. subst (λ (x : Tables). WereUsed (pages_of x file) file start) (sym tables-is) (shown.versions.used r file reading start is (sym (reads r) ∙ goes) lines);
    }

  -- it goes on, and what is left is less
  goes-on : (h g : Shelf) (start : Lines) → h.seat s ≡ seat_with m.stage (writes_in m.written.lines) start → g.steps s ≡ steps_in n.stage n → h.steps s ≡ steps_in m.stage m → Moves s (seat_with n.stage (writes_in n.written.lines) start) h g → GoesOn s h g
  goes-on h g start seat new old moves = record {
    moves = subst (λ x. Moves s x h g) (ap (λ x. seat_with x (writes_in n.written.lines) start) stage-is ∙ ap (λ ws. seat_with m.stage ws start) same-writes ∙ sym seat) moves;
    less = let less = push-less in omega (arith, new, old, less);
  }

  plain : n.stage ≢ stage.Reading
  plain reads = let bad : stage.Changing ≡ stage.Reading = sym at-now ∙ reads in cc

  there : bare (seat_with n.stage [] []) ≡ bare (stand_of (Some m))
  there = ap (λ x. bare (seat_with x [] [])) stage-is

  -- ---- it was pushed aside

  module _ (only : OnlyWrites (snap_file (snap_of key)) (chain - 1) v w) (some : 1 ≤ chain)
      (free : (h : Shelf) (shown : Shown v held h) → (shown.versions.course.followed (snap_of key) chain ≡ false) × (chain ≤ held.limits.snaps))
      (stands-aside : IsTrue v.tells → IsAside v.content w.content key m.tsn chain)
      (holds : (h : Shelf) (shown : Shown v held h) → shown.versions.course.going (line_at v.content key).tsn.number ≡ false → shown.versions.course.going m.tsn.number ≡ true → HoldsAll w.content (course_pushed (snap_of key) chain shown.versions.course).followed held.limits.snaps behind.slots) where
    module _ (h : Shelf) (shown : Shown v held h) (stands : StageStands m.stage v shown.ledger s m) where
      abbrev course : Course
      course = course_pushed (snap_of key) chain shown.versions.course

      t : IsTrue v.tells
      t = shown.tells

      abbrev open-one : HasBegun shown.ledger s m
      open-one = has h shown stands

      readers-now : ReaderFacts w shown.ledger held.limits.snaps course (set_waiting s (more h shown stands) shown.versions.waiting)
      readers-now = same_ledger w held.limits.snaps course (set_waiting s (more h shown stands) shown.versions.waiting) shown.ledger s (changing open-one.all open-one.stable) open-one.stands
          (line_joins v shown.ledger held.limits.snaps shown.versions.course shown.versions.waiting s open-one.all open-one.stable open-one.transaction shown.facts open-one.stands open-one.is_open shown.versions.readers w key line (more h shown stands) t some (free h shown).1 (free h shown).0 only
          (subst (λ (k : Tsn). entries_in w.content (snap_of key) chain (pushed key k (line_at v.content key))) (sym ((sound.each s m was).bears key before found)) (stands-aside t)) (ended h shown stands) (bears h shown stands) (has-before v shown.ledger s m key open-one all-in is)
          (puts-in (shown.versions.waiting s) m.pushed m.written n.written key before chain (once h shown stands) is keys-is (lines-is before found) (wait-was h shown stands)) (none-waits (shown.versions.waiting s) m.pushed m.written n.written key before chain (once h shown stands) is keys-is (lines-is before found) (wait-was h shown stands)))

      numbered : NumbersStand w shown.ledger behind.numbers behind.next
      numbered = subst (λ x. NumbersStand w shown.ledger x behind.next) (sym numbers-is) (subst (λ x. NumbersStand w shown.ledger held.numbers x) (sym next-is) (record {
        number = shown.numbers.number;
        first = shown.numbers.first;
        ceiling = aside-ceiling v w t (snap_file (snap_of key)) (chain - 1) (λ e. cc) only held.numbers shown.numbers.ceiling;
        group = shown.numbers.group;
      }))

      headers-stay : (r : ℕ) → SameHeader r v w
      headers-stay r = header-beside v w (snap_file (snap_of key)) (chain - 1) t (λ e. cc) only r

      abbrev to-pushed : ComesTo v w behind s n shown.ledger shown.versions.course shown.versions.waiting
      to-pushed = comes-so h shown stands course (areas v w (snap_of key) (chain - 1) t only) headers-stay (snap-keeps v w (snap_of key) (chain - 1) t only shown.ledger shown.facts) numbered
          (subst (λ x. TablesStand w shown.ledger x) (sym tables-is) (snap-tables v w (snap_of key) (chain - 1) t only shown.ledger held.tables shown.tables))
          (subst (λ x. ReaderFacts w shown.ledger x.snaps course (set_waiting s (more h shown stands) shown.versions.waiting)) (sym limits-is) readers-now)
          (subst (λ x. HoldsAll w.content course.followed x.snaps behind.slots) (sym limits-is) (holds h shown (ended h shown stands) (ap (λ (k : Tsn). shown.versions.course.going k.number) open-one.number ∙ shown.versions.readers.versions.goes s open-one.transaction open-one.is_open)))
          shown.versions.unused (λ r. refl)

    pub does-push : DoesOn s (stand_at held.members s) (λ h g. GoesOn s h g) v held w behind
    does-push = subst (λ x. DoesOn s (stand_of x) (λ h g. GoesOn s h g) v held w behind) (sym was)
        (does-step v w held behind s m n was becomes plain only.told only.leaves to-pushed only.later only.no_fewer (stand_of (Some m)) (λ h g. GoesOn s h g) there still
        (λ h shown stands. record { lines = refl; journal = refl; commit = refl }) (λ space. keeps-less held.slots behind.slots space)
        (λ h g start related moves. goes-on h g start related.seat related.steps_behind related.steps moves))

  -- ---- it was never used

  module _ (reads : OnlyReads v w) (none : chain ≡ 0) (never : (h : Shelf) (shown : Shown v held h) → shown.versions.course.going (line_at v.content key).tsn.number ≡ false → IsUnused (line_at v.content key)) (slots-is : behind.slots ≡ held.slots) where
    module _ (h : Shelf) (shown : Shown v held h) (stands : StageStands m.stage v shown.ledger s m) where
      p : Passes v w
      p = passes-reads v w shown.tells reads

      abbrev begun-one : HasBegun shown.ledger s m
      begun-one = has h shown stands

      readers-first : ReaderFacts v shown.ledger held.limits.snaps shown.versions.course (set_waiting s (more h shown stands) shown.versions.waiting)
      readers-first = same_ledger v held.limits.snaps shown.versions.course (set_waiting s (more h shown stands) shown.versions.waiting) shown.ledger s (changing begun-one.all begun-one.stable) begun-one.stands
          (line_first v shown.ledger held.limits.snaps shown.versions.course shown.versions.waiting s begun-one.all begun-one.stable begun-one.transaction shown.facts begun-one.stands begun-one.is_open shown.versions.readers key line (more h shown stands) (ended h shown stands) (bears h shown stands)
          (record { never = (never h shown (ended h shown stands)).never; none = (never h shown (ended h shown stands)).none; chain = none }) (has-before v shown.ledger s m key begun-one all-in is)
          (puts-in (shown.versions.waiting s) m.pushed m.written n.written key before chain (once h shown stands) is keys-is (lines-is before found) (wait-was h shown stands)) (none-waits (shown.versions.waiting s) m.pushed m.written n.written key before chain (once h shown stands) is keys-is (lines-is before found) (wait-was h shown stands)))

      numbered-first : NumbersStand w shown.ledger behind.numbers behind.next
      numbered-first = subst (λ x. NumbersStand w shown.ledger x behind.next) (sym numbers-is) (subst (λ x. NumbersStand w shown.ledger held.numbers x) (sym next-is) (record {
        number = shown.numbers.number;
        first = shown.numbers.first;
        ceiling = reads-ceiling v w shown.tells reads held.numbers shown.numbers.ceiling;
        group = shown.numbers.group;
      }))

      abbrev to-passed : ComesTo v w behind s n shown.ledger shown.versions.course shown.versions.waiting
      to-passed = comes-so h shown stands shown.versions.course p.areas (header-read v w shown.tells reads) (read_ledger v w shown.ledger shown.tells reads shown.facts) numbered-first
          (subst (λ x. TablesStand w shown.ledger x) (sym tables-is) (tables-pass v w p shown.ledger shown.ledger held.tables refl shown.tables))
          (subst (λ x. ReaderFacts w shown.ledger x.snaps shown.versions.course (set_waiting s (more h shown stands) shown.versions.waiting)) (sym limits-is) (p.readers shown.ledger held.limits.snaps shown.versions.course (set_waiting s (more h shown stands) shown.versions.waiting) readers-first))
          (subst (λ x. HoldsAll w.content shown.versions.course.followed x.snaps behind.slots) (sym limits-is) (subst (λ x. HoldsAll w.content shown.versions.course.followed held.limits.snaps x) (sym slots-is) (slots-pass v w p shown.versions.course.followed held.limits.snaps held.slots shown.versions.slots)))
          shown.versions.unused (λ r. refl)

    pub does-pass : DoesOn s (stand_at held.members s) (λ h g. GoesOn s h g) v held w behind
    does-pass = subst (λ x. DoesOn s (stand_of x) (λ h g. GoesOn s h g) v held w behind) (sym was)
        (does-step v w held behind s m n was becomes plain reads.told (reads-leave v w reads) to-passed reads.later reads.no_fewer (stand_of (Some m)) (λ h g. GoesOn s h g) there still
        (λ h shown stands. record { lines = refl; journal = refl; commit = refl }) (λ space. keeps-less held.slots behind.slots space)
        (λ h g start related moves. goes-on h g start related.seat related.steps_behind related.steps moves))
