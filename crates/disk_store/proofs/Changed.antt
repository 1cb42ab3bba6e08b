-- A statement's writes are laid: what is shown behind it.
use Rattle.std.proofs.Common.{◌≡◌, ◌≤◌, ◌<◌, ◌+◌, ◌==◌, ℕ, zero, suc, Bool, true, false, List, [], ◌∷◌, length, Option, Some, None, inl, refl, sym, ap, subst, ◌∙◌, arith}
use Rattle.std.specs.Prelude.{slice_get, if◌then◌else◌, is_some}
use Rattle.std.specs.FinMap.Entries.{find}
use Rattle.std.proofs.lemmas.Bool.{false≢true}
use Rattle.std.proofs.lemmas.Option.{same_Some}
use Rattle.rdb_types.specs.declared.keys.Dbkey.{Dbkey}
use Rattle.rdb_types.specs.declared.keys.Line.{Line}
use Rattle.rdb_types.specs.Order.{dbkey_order}
use Rattle.rdb_outside.specs.Disk.{View}
use Rattle.line_view.specs.declared.writes.Write.{Write}
use Rattle.line_view.specs.Knowledge.{Lines}
use Rattle.line_store.specs.Seats.{changing, in_flight, lines_added, writes_of, Adds}
use Rattle.line_store.specs.Shelves.{Shelf, Space}
use Rattle.line_store.specs.Calls.{Changes, TakesSlots}
use Rattle.line_versions.specs.Versions.{Followed}
use Rattle.line_moves.specs.Lines.{ChangedLines}
use Rattle.reader_lines.specs.version_writing.Slots.{SlotTable, HoldsFile, with_aside}
use Rattle.reader_lines.specs.version_writing.Tables.{HoldsAll}
use Rattle.reader_lines.specs.version_writing.declared.snapshot_slots.SnapshotSlots.{SnapshotSlots}
use Rattle.reader_lines.specs.version_writing.declared.snapshot_slots.Wanted.{Wanted}
use Rattle.ledger_versions.specs.disk_seats.Ledgers.{Ledger}
use Rattle.ledger_versions.specs.Readers.{HasVersionOf}
use Rattle.member_memory.specs.Memory.{Memory, AreKeysOf, writes_in}
use Rattle.member_memory.specs.Changes.{Lays}
use Rattle.member_memory.proofs.Growing.{has-it}
use Rattle.member_memory.proofs.Laying.{lays}
use Rattle.disk_store.specs.declared.member.Member.{Member}
use Rattle.disk_store.specs.declared.member.MemberStage.TheVariants as stage
use Rattle.disk_store.specs.Memory.{StoreMemory, with_member}
use Rattle.disk_store.specs.Seats.{seat_with}
use Rattle.disk_store.specs.Standing.{HasBegun, HasJournalled, IsJournalling, StageStands}
use Rattle.disk_store.specs.Shown.{DoesOn, IsPushed, WaitPushed, WaitsAs, Shown, used_in}
use Rattle.disk_store.specs.Sound.{IsSound}
use Rattle.disk_store.specs.Changing.{LaysOver, all_of, with_asides, changing_with}
use Rattle.disk_store.proofs.Members.{get-within}
use Rattle.disk_store.proofs.Beside.{same-areas, stays-there}
use Rattle.disk_store.proofs.Kept.{kept-stays}
use Rattle.disk_store.proofs.Stepping.{ComesTo, Becomes, does-any, apart-flight, never, Related}
use Rattle.disk_store.proofs.Passing.{passes-none, none-leaves, tables-pass}
use Rattle.disk_store.proofs.FoundLines.{found-there, stands-there, key-there}

-- ---- slots

-- slots that are set aside hold what they held
pub held-aside : (v : View) (followed : Followed) (limit : ℕ) (wanted : Wanted) (slots : SnapshotSlots) → HoldsAll v.content followed limit slots → HoldsAll v.content followed limit (with_asides wanted slots)
held-aside v followed limit wanted slots was file is = by (file == 1) (file == 2) (was file is)
  where
    more : (n : ℕ) (t : SlotTable) → HoldsFile v.content followed file limit t → HoldsFile v.content followed file limit (with_aside n t)
    more n t has = record { long = has.long; used = has.used; pusher = has.pusher }

    by : (a b : Bool) → HoldsFile v.content followed file limit (if a then slots.catalog else (if b then slots.relations else slots.indexes)) →
        HoldsFile v.content followed file limit (if a then (with_asides wanted slots).catalog else (if b then (with_asides wanted slots).relations else (with_asides wanted slots).indexes))
    by true b has = more wanted.catalog slots.catalog has
    by false true has = more wanted.relations slots.relations has
    by false false has = more wanted.indexes slots.indexes has

-- how many are in use or set aside of all files
abbrev pub used-all : SnapshotSlots → ℕ
used-all slots = used_in slots.catalog + used_in slots.relations + used_in slots.indexes

used-more : (wanted : Wanted) (slots : SnapshotSlots) → used-all (with_asides wanted slots) ≡ used-all slots + all_of wanted
used-more wanted slots = omega arith

-- ---- the lines that wait

pub got-within : {X : Type 0} (xs : List X) (i : ℕ) → i < length xs → (x : X) × (slice_get xs i ≡ Some x)
got-within [] i less = absurd (omega (arith, less))
got-within (x ∷ xs) zero less = (x, refl)
got-within (x ∷ xs) (suc i) less = got-within xs i (omega (arith, less))

pub some-found : {X : Type 0} (x : Option X) → is_some x ≡ true → (y : X) × (x ≡ Some y)
some-found None has = absurd (false≢true has)
some-found (Some y) has = (y, refl)

module _ (m : Member) (more : List Write) (written : Memory) (keys : AreKeysOf m.written.lines m.written.keys) (over : LaysOver m.tsn more m.written written) where
  pub laid : Lays m.tsn more m.written written
  laid = subst (λ (w : Memory). Lays m.tsn more m.written w) (sym over.is) (lays m.tsn more m.written over.mid over.adding.grows over.adding.added keys.ordered)

  wait-each : (i : ℕ) (line : Dbkey × Line) → slice_get m.written.lines i ≡ Some line → IsPushed (length m.written.keys) written line.0 line.1
  wait-each i line is =
      let found = found-there m.written.lines i line keys.ordered is in
      let at = key-there m.written.keys line.0 (keys.same line.0 ∙ ap is_some found) in
      let kept = laid.kept line.0 line.1 found in
      record { place = at.place; early = get-within m.written.keys at.place line.0 at.is; is = laid.keys at.place line.0 at.is; now = kept.line; found = kept.is; tsn = kept.tsn; chain = kept.chain }

  wait-all : (place : ℕ) (key : Dbkey) (now : Line) → place < length m.written.keys → slice_get written.keys place ≡ Some key → find dbkey_order key written.lines ≡ Some now → HasVersionOf m.written.lines key now
  wait-all place key now early is found =
      let old = got-within m.written.keys place early in
      let same : old.0 ≡ key = same_Some _ _ (sym (laid.keys place old.0 old.1) ∙ is) in
      let has = some-found (find dbkey_order key m.written.lines) (sym (keys.same key) ∙ has-it m.written.keys place key (old.1 ∙ ap Some same)) in
      let at = stands-there m.written.lines key has.0 has.1 in
      let kept = laid.kept key has.0 has.1 in
      let one : kept.line ≡ now = same_Some _ _ (sym kept.is ∙ found) in
      record { index = at.place; line = (key, has.0); is = at.is; key_is = refl; tsn_is = sym kept.tsn ∙ ap (λ (l : Line). l.tsn) one; chain_is = sym kept.chain ∙ ap (λ (l : Line). l.chain) one }

  pub wait-laid : (lines : ChangedLines) → lines ≡ m.written.lines → WaitPushed lines (length m.written.keys) written
  wait-laid lines same = subst (λ (ls : ChangedLines). WaitPushed ls (length m.written.keys) written) (sym same) (record { each = wait-each; all = wait-all })

-- ---- what is shown

module _ (v : View) (held : StoreMemory) (s : ℕ) (m : Member) (more : List Write) (written : Memory) (wanted : Wanted) (was : slice_get held.members s ≡ Some m) (sound : IsSound held) (at : m.stage ≡ stage.Writing) (over : LaysOver m.tsn more m.written written)
    (count : all_of wanted ≤ lines_added (writes_in m.written.lines) more) where
  abbrev its : AreKeysOf m.written.lines m.written.keys
  its = (sound.each s m was).keys

  abbrev next : Member
  next = changing_with written wanted m

  abbrev behind : StoreMemory
  behind = record (with_member s next held) { slots = with_asides wanted held.slots }

  abbrev space_of : Space → Space
  space_of space = record { limits = space.limits; taken = space.taken; snaps = used-all (with_asides wanted held.slots); slots = space.slots }

  abbrev becomes : Becomes held behind s next
  becomes = record {
    limits = refl;
    members = refl;
    space_of = space_of;
    spaced = λ space has. record { limits = has.limits; pages = record { taken = has.pages.taken; limit = has.pages.limit }; snaps = refl; slots = has.slots };
  }

  module _ (h : Shelf) (shown : Shown v held h) (stands : StageStands m.stage v shown.ledger s m) where
    abbrev g : Ledger
    g = shown.ledger

    journalled : HasJournalled g s m
    journalled = subst (λ x. StageStands x v g s m) at stands

    begun : HasBegun g s next
    begun = let b = journalled.begun in record {
      transaction = b.transaction;
      all = b.all;
      stable = b.stable;
      stands = b.stands;
      is_open = b.is_open;
      number = b.number;
      count = b.count;
      keys = λ i undo got. (laid m more written its over).keys i undo.key (b.keys i undo got);
    }

    journals : IsJournalling v g s next
    journals = record { begun = begun; header = λ noted. absurd (false≢true noted) }

    abbrev to-change : ComesTo v v behind s next g shown.versions.course shown.versions.waiting
    to-change = record {
      ledger = g;
      facts = shown.facts;
      limits = refl;
      none = λ t apart rests. rests;
      others = λ t x apart got stood. stays-there v v g g t (same-areas v) (record { standing = inl refl; going = refl; commit = refl }) x refl stood;
      mine = journals;
      numbered = record { number = shown.numbers.number; first = shown.numbers.first; ceiling = shown.numbers.ceiling; group = shown.numbers.group };
      kept = kept-stays held.members s held.numbers.next held.numbers.written m next was (omega arith) shown.kept;
      tabled = tables-pass v v (passes-none v) g g held.tables refl shown.tables;
      course_behind = shown.versions.course;
      waiting_behind = shown.versions.waiting;
      readers = shown.versions.readers;
      slots = held-aside v shown.versions.course.followed held.limits.snaps wanted held.slots shown.versions.slots;
      waits = wait-laid m more written its over (shown.versions.waiting s) (subst (λ x. WaitsAs x shown.versions.waiting s m) at (shown.versions.waits s m was));
      waits_beside = λ t apart. refl;
      reads = λ t. refl;
      used = shown.versions.used;
      unused = shown.versions.unused;
    }

  still : (ws : List Write) (start : Lines) → in_flight (seat_with m.stage ws start) ≡ None
  still ws start = ap (λ x. in_flight (seat_with x ws start)) at

  changes : (h g : Shelf) (start : Lines) → Related v v held behind s m next was becomes (λ e. cc) refl (none-leaves v) to-change h g start → Changes s more h g
  changes h g start related =
      let before : writes_of (h.seat s) ≡ writes_in m.written.lines = ap writes_of related.seat ∙ ap (λ x. writes_of (seat_with x (writes_in m.written.lines) start)) at in
      record {
        behind = writes_in written.lines;
        adds = subst (λ ws. Adds more ws (writes_in written.lines)) (sym before) (laid m more written its over).adds;
        now = related.now_behind ∙ sym related.shown.lines.now;
        mine = related.seat_behind;
        others = related.others;
        space = subst (λ ws. TakesSlots more ws h.space g.space) (sym before) (subst (λ space. TakesSlots more (writes_in m.written.lines) h.space space) (sym related.space_behind) (record {
          limits = refl;
          taken = λ file page. refl;
          snaps = let old = related.shown.space.snaps in let used = used-more wanted held.slots in omega (arith, old, used, count);
          slots = refl;
        }));
      }

  pub does-change : DoesOn s (changing []) (Changes s more) v held v behind
  does-change =
      does-any v v held behind s m next was becomes (λ e. cc) refl (none-leaves v) to-change (omega arith) (omega arith) (changing []) (Changes s more) refl
      (apart-flight v v held behind s m next was becomes (λ e. cc) refl (none-leaves v) to-change (omega arith) (omega arith) (changing []) (Changes s more) refl
      (never v v held behind s m next was becomes (λ e. cc) refl (none-leaves v) to-change (omega arith) (omega arith) (changing []) (Changes s more) refl still) (λ h shown stands. record { lines = refl; journal = refl; commit = refl }))
      (λ h shown stands base last was. was)
      changes
