-- A change is through: each line of the session waits as memory has it, and no slot is set aside for it any more.
use Rattle.std.proofs.Common.{◌≡◌, ◌≤◌, ◌-◌, ℕ, zero, suc, List, [], length, Option, Some, None, inl, refl, sym, ap, subst, ◌∙◌, arith}
use Rattle.std.specs.Prelude.{slice_get, if◌then◌else◌, is_some}
use Rattle.rdb_types.specs.declared.keys.Dbkey.{Dbkey}
use Rattle.rdb_types.specs.declared.keys.Line.{Line}
use Rattle.rdb_outside.specs.Disk.{View}
use Rattle.line_view.specs.declared.writes.Write.{Write}
use Rattle.line_view.specs.Knowledge.{Lines}
use Rattle.line_store.specs.Seats.{Seat, in_flight, done_at}
use Rattle.line_store.specs.Shelves.{Shelf}
use Rattle.line_store.specs.Calls.{IsDone}
use Rattle.line_store.specs.Sights.{seat_or}
use Rattle.line_moves.specs.Lines.{ChangedLines}
use Rattle.disk_seats.specs.Ledgers.{changing, Ledger}
use Rattle.ledger_versions.specs.Readers.{AreAlike, HasVersionOf, ReaderFacts, set_waiting}
use Rattle.ledger_versions.proofs.LinesJoin.{lines_alike}
use Rattle.ledger_versions.proofs.Restanding.{same_ledger}
use Rattle.member_memory.specs.Memory.{Memory, AreKeysOf, writes_in}
use Rattle.disk_store.specs.declared.member.Member.{Member}
use Rattle.disk_store.specs.declared.member.MemberStage.TheVariants as stage
use Rattle.disk_store.specs.ChangeSteps.{change_ended, written_now}
use Rattle.disk_store.specs.Memory.{StoreMemory}
use Rattle.disk_store.specs.Seats.{seat_with, stand_of, stand_at}
use Rattle.disk_store.specs.Standing.{HasBegun, HasJournalled, IsJournalling, StageStands}
use Rattle.disk_store.specs.Shown.{DoesOn, WaitPushed, WaitsAs, Shown}
use Rattle.disk_store.specs.Sound.{IsSound}
use Rattle.disk_store.proofs.Moving.{itself}
use Rattle.disk_store.proofs.Members.{get-within}
use Rattle.disk_store.proofs.Beside.{same-areas, stays-there}
use Rattle.disk_store.proofs.Kept.{kept-stays}
use Rattle.disk_store.proofs.Stepping.{ComesTo, Becomes, does-step}
use Rattle.disk_store.proofs.Passing.{passes-none, none-leaves, tables-pass}
use Rattle.disk_store.proofs.Changed.{got-within, used-all}
use Rattle.disk_store.proofs.FoundLines.{found-there, stands-there, key-there}
use Rattle.disk_store.proofs.SpentSlots.{fewer-left, held-left, space-less, keeps-less, stands-less}

-- ---- lines that wait

-- where all lines wait, they differ from those in memory in no more than what they show
module _ (waiting : ChangedLines) (pushed : ℕ) (written : Memory) (keys : AreKeysOf written.lines written.keys) (all : length written.keys ≤ pushed) (waits : WaitPushed waiting pushed written) where
  alike-each : (i : ℕ) (line : Dbkey × Line) → slice_get written.lines i ≡ Some line → HasVersionOf waiting line.0 line.1
  alike-each i line is =
      let found = found-there written.lines i line keys.ordered is in
      let at = key-there written.keys line.0 (keys.same line.0 ∙ ap is_some found) in
      let within = get-within written.keys at.place line.0 at.is in
      waits.all at.place line.0 line.1 (omega (arith, within, all)) at.is found

  alike-kept : (i : ℕ) (line : Dbkey × Line) → slice_get waiting i ≡ Some line → HasVersionOf written.lines line.0 line.1
  alike-kept i line is =
      let p = waits.each i line is in
      let at = stands-there written.lines line.0 p.now p.found in
      record { index = at.place; line = (line.0, p.now); is = at.is; key_is = refl; tsn_is = p.tsn; chain_is = p.chain }

  pub all-alike : AreAlike waiting written.lines
  all-alike = record { each = alike-each; kept = alike-kept }

-- ---- what is shown

module _ (v : View) (held : StoreMemory) (s : ℕ) (m : Member) (was : slice_get held.members s ≡ Some m) (sound : IsSound held) (at : m.stage ≡ stage.Changing) (all : length m.written.keys ≤ m.journalled) (through : length m.written.keys ≤ m.pushed) where
  abbrev n : Member
  n = written_now m

  abbrev behind : StoreMemory
  behind = change_ended s m held

  fewer : used-all behind.slots ≤ used-all held.slots
  fewer = fewer-left m.aside held.slots

  abbrev becomes : Becomes held behind s n
  becomes = record { limits = refl; members = refl; space_of = space-less held.slots behind.slots; spaced = λ space has. stands-less held behind space refl refl refl fewer has }

  abbrev its : AreKeysOf m.written.lines m.written.keys
  its = (sound.each s m was).keys

  module _ (h : Shelf) (shown : Shown v held h) (stands : StageStands m.stage v shown.ledger s m) where
    abbrev g : Ledger
    g = shown.ledger

    has : HasBegun g s m
    has = let is : IsJournalling v g s m = subst (λ x. StageStands x v g s m) at stands in is.begun

    -- there are no more before-images than lines
    no-more : m.journalled ≤ length m.written.keys
    no-more = by (m.journalled - length m.written.keys) refl
      where
        by : (k : ℕ) → m.journalled - length m.written.keys ≡ k → m.journalled ≤ length m.written.keys
        by zero e = omega (arith, e)
        by (suc k) e =
            let got = got-within has.all (length m.written.keys) (omega (arith, e, has.count)) in
            let less = get-within m.written.keys (length m.written.keys) got.0.key (has.keys (length m.written.keys) got.0 got.1) in
            absurd (omega (arith, less))

    begun-now : HasBegun g s n
    begun-now = record { transaction = has.transaction; all = has.all; stable = has.stable; stands = has.stands; is_open = has.is_open; number = has.number; count = has.count; keys = has.keys }

    mine : HasJournalled g s n
    mine = record { begun = begun-now; all_written = omega (arith, no-more, all) }

    waits-was : WaitPushed (shown.versions.waiting s) m.pushed m.written
    waits-was = subst (λ x. WaitsAs x shown.versions.waiting s m) at (shown.versions.waits s m was)

    readers-now : ReaderFacts v g held.limits.snaps shown.versions.course (set_waiting s m.written.lines shown.versions.waiting)
    readers-now = same_ledger v held.limits.snaps shown.versions.course (set_waiting s m.written.lines shown.versions.waiting) g s (changing has.all has.stable) has.stands
        (lines_alike v g held.limits.snaps shown.versions.course shown.versions.waiting s has.all has.stable has.transaction shown.facts has.stands has.is_open shown.versions.readers m.written.lines
        (all-alike (shown.versions.waiting s) m.pushed m.written its through waits-was))

    abbrev to-written : ComesTo v v behind s n g shown.versions.course shown.versions.waiting
    to-written = record {
      ledger = g;
      facts = shown.facts;
      limits = refl;
      none = λ t apart rests. rests;
      others = λ t x apart got stood. stays-there v v g g t (same-areas v) (record { standing = inl refl; going = refl; commit = refl }) x refl stood;
      mine = mine;
      numbered = record { number = shown.numbers.number; first = shown.numbers.first; ceiling = shown.numbers.ceiling; group = shown.numbers.group };
      kept = kept-stays held.members s held.numbers.next held.numbers.written m n was (omega arith) shown.kept;
      tabled = tables-pass v v (passes-none v) g g held.tables refl shown.tables;
      course_behind = shown.versions.course;
      waiting_behind = set_waiting s m.written.lines shown.versions.waiting;
      readers = readers-now;
      slots = held-left v shown.versions.course.followed held.limits.snaps m.aside held.slots shown.versions.slots;
      used = shown.versions.used;
      unused = shown.versions.unused;
      waits = ap (λ b. if b then m.written.lines else shown.versions.waiting s) (itself s);
      waits_beside = λ t apart. ap (λ b. if b then m.written.lines else shown.versions.waiting t) apart;
      reads = λ t. refl;
    }

  still : (ws : List Write) (start : Lines) → in_flight (seat_with m.stage ws start) ≡ None
  still ws start = ap (λ x. in_flight (seat_with x ws start)) at

  done : (ws : List Write) (start : Lines) → done_at (seat_with m.stage ws start) ≡ Some (seat_with stage.Writing ws start)
  done ws start = ap (λ x. done_at (seat_with x ws start)) at

  pub does-written : DoesOn s (seat_or (stand_at held.members s) (done_at (stand_at held.members s))) (λ h g. IsDone s h g) v held v behind
  does-written = subst (λ (x : Option Member). DoesOn s (seat_or (stand_of x) (done_at (stand_of x))) (λ h g. IsDone s h g) v held v behind) (sym was)
      (subst (λ (x : Option Seat). DoesOn s (seat_or (stand_of (Some m)) x) (λ h g. IsDone s h g) v held v behind) (sym (done [] []))
      (does-step v v held behind s m n was becomes (λ e. cc) refl (none-leaves v) to-written (omega arith) (omega arith) (seat_with stage.Writing [] []) (λ h g. IsDone s h g) refl
      still (λ h shown stands. record { lines = refl; journal = refl; commit = refl }) (λ space. keeps-less held.slots behind.slots space)
      (λ h g start related moves. record { seat = seat_with stage.Writing (writes_in m.written.lines) start; comes = ap done_at related.seat ∙ done (writes_in m.written.lines) start; moves = moves })))
