-- An open transaction of which no page was written ends as undone.
use Rattle.std.proofs.Common.{◌≡◌, ◌≢◌, ◌==◌, ℕ, Bool, true, false, not, IsTrue, [], Some, None, inl, refl, sym, ap, ◌∙◌, arith}
use Rattle.std.specs.Prelude.{slice_get, if◌then◌else◌}
use Rattle.std.proofs.lemmas.Bool.{eqb-true, eq-eqb, true≢false, and_parts}
use Rattle.rdb_outside.specs.Disk.{View, LeftNow}
use Rattle.line_view.specs.Knowledge.{Lines}
use Rattle.line_store.specs.Seats.{Seat}
use Rattle.line_store.specs.Shelves.{Shelf}
use Rattle.line_store.specs.Calls.{Moves}
use Rattle.line_store.specs.Sights.{bare}
use Rattle.snapshot_file.specs.declared.entry.SnapEntry.{SnapEntry}
use Rattle.line_versions.specs.Files.{entries_in}
use Rattle.line_versions.specs.Course.{Course}
use Rattle.stable_lines.specs.Slots.{IsAreaFile}
use Rattle.stable_lines.specs.Progress.{Open, Progress}
use Rattle.ledger_versions.specs.disk_seats.Ledgers.{Standing, resting, changing, broken, committing, undoing, ended_by, Ledger}
use Rattle.ledger_versions.specs.disk_seats.Members.{MemberStands, MayEnd}
use Rattle.ledger_versions.proofs.of_disk_seats.EndsUndone.{ended_facts}
use Rattle.ledger_versions.proofs.of_disk_seats.Standings.{not_ending}
use Rattle.ledger_versions.specs.disk_versions.Courses.{course_given, course_undone}
use Rattle.reader_lines.specs.version_writing.Slots.{pusher_at}
use Rattle.reader_lines.specs.version_writing.Tables.{table_of, HoldsAll}
use Rattle.reader_lines.specs.version_writing.declared.snapshot_slots.SnapshotSlots.{SnapshotSlots}
use Rattle.ledger_versions.specs.Readers.{MayEndUndone, Waiting, set_waiting}
use Rattle.ledger_versions.proofs.MembersEnd.{member_ends}
use Rattle.member_memory.specs.Memory.{writes_in}
use Rattle.disk_store.specs.declared.member.Member.{Member}
use Rattle.disk_store.specs.declared.member.MemberStage.{MemberStage}
use Rattle.disk_store.specs.declared.member.MemberStage.TheVariants as stage
use Rattle.disk_store.specs.Memory.{StoreMemory, with_member, at_stage}
use Rattle.disk_store.specs.Numbers.{kept_at}
use Rattle.disk_store.specs.Seats.{seat_with}
use Rattle.disk_store.specs.Standing.{StageStands}
use Rattle.disk_store.specs.Shown.{DoesOn, WaitsAs, Shown}
use Rattle.disk_store.proofs.Moving.{itself}
use Rattle.disk_store.proofs.Kept.{kept-stays}
use Rattle.disk_store.proofs.Beside.{StaysOf, same-areas, stays-there}
use Rattle.disk_store.proofs.Stepping.{ComesTo, does-apart, becomes-member, space-same}
use Rattle.disk_store.proofs.Passing.{passes-none, none-leaves, tables-pass}

-- its transaction
pub record HasTransaction (base : Progress) (s : ℕ) : Type 0 where
  pub transaction : Open
  pub is_open : base.going s ≡ Some transaction

open-of : (v : View) (base : Progress) (s : ℕ) (x : Standing) → MayEnd x → MemberStands v base s x → HasTransaction base s
open-of v base s resting may is = absurd may
open-of v base s (changing all stable) may is = record { transaction = is.transaction; is_open = is.seat.is_open }
open-of v base s broken may is = record { transaction = is.transaction; is_open = is.is_open }
open-of v base s (committing all) may is = absurd may
open-of v base s (undoing all left) may is = absurd may

may-end-undone : (x : Standing) → MayEnd x → MayEndUndone x
may-end-undone resting may = absurd may
may-end-undone (changing all stable) may = tt
may-end-undone broken may = tt
may-end-undone (committing all) may = absurd may
may-end-undone (undoing all left) may = absurd may

-- the slots that hold what the transaction pushed, by the table
abbrev pub pushed-by : SnapshotSlots → ℕ → ℕ → ℕ → Bool
pushed-by slots tsn = λ file chain. (pusher_at (table_of slots file).pushers chain).number == tsn

module _ (v : View) (limit : ℕ) (slots : SnapshotSlots) (course : Course) (tsn : ℕ) (holds : HoldsAll v.content course.followed limit slots) (files : (file chain : ℕ) → course.followed file chain ≡ true → IsAreaFile file) where
  pub its : (file chain : ℕ) (e : SnapEntry) → pushed-by slots tsn file chain ≡ true → course.followed file chain ≡ true → entries_in v.content file chain e → e.pusher.number ≡ tsn
  its file chain e given follows stands =
      ap (λ t. t.number) (sym ((holds file (files file chain follows)).pusher chain e follows stands)) ∙ eqb-true _ tsn given

  pub none-left : (file chain : ℕ) (e : SnapEntry) → (course_given (pushed-by slots tsn) course).followed file chain ≡ true → entries_in v.content file chain e → e.pusher.number ≢ tsn
  none-left file chain e follows stands same =
      let both = and_parts _ _ follows in
      let pusher = ap (λ t. t.number) ((holds file (files file chain both.0)).pusher chain e both.0 stands) in
      true≢false (sym (ap not (sym (eq-eqb _ tsn (pusher ∙ same))) ∙ both.1))

  pub still-held : HoldsAll v.content (course_given (pushed-by slots tsn) course).followed limit slots
  still-held file is = record {
    long = (holds file is).long;
    used = λ chain first follows. (holds file is).used chain first (and_parts _ _ follows).0;
    pusher = λ chain e follows stands. (holds file is).pusher chain e (and_parts _ _ follows).0 stands;
  }

module _ (v : View) (held : StoreMemory) (s : ℕ) (m : Member) (was : slice_get held.members s ≡ Some m) (next : MemberStage) (left : IsTrue v.tells → LeftNow v v.content)
    (rests-next : (g : Ledger) → g.standing s ≡ resting → StageStands next v g s (at_stage next m)) (waits-next : (waiting : Waiting) → WaitsAs next waiting s (at_stage next m)) (plain : next ≢ stage.Reading) (free : kept_at next ≡ 0)
    (may : (g : Ledger) → StageStands m.stage v g s m → MayEnd (g.standing s)) where
  abbrev n : Member
  n = at_stage next m

  module _ (h : Shelf) (shown : Shown v held h) (stands : StageStands m.stage v shown.ledger s m) where
    abbrev g : Ledger
    g = shown.ledger

    has : HasTransaction g.base s
    has = open-of v g.base s (g.standing s) (may g stands) (shown.facts.member s)

    abbrev given : ℕ → ℕ → Bool
    given = pushed-by held.slots has.transaction.tsn.number

    stays : (t : ℕ) → (t == s) ≡ false → StaysOf t g (ended_by s g)
    stays t apart = record {
      standing = inl (ap (λ b. if b then resting else g.standing t) apart);
      going = ap (λ b. if b then None else g.base.going t) apart;
      commit = refl;
    }

    rests : (ended_by s g).standing s ≡ resting
    rests = ap (λ b. if b then resting else g.standing s) (itself s)

    abbrev ends-now : ComesTo v v (record (with_member s n held) { numbers = held.numbers }) s n g shown.versions.course shown.versions.waiting
    ends-now = record {
      ledger = ended_by s g;
      facts = ended_facts v g s shown.facts (may g stands) (not_ending v g s shown.facts (may g stands));
      limits = refl;
      none = λ t apart rests. ap (λ b. if b then resting else g.standing t) apart ∙ rests;
      others = λ t x apart got stands. stays-there v v g (ended_by s g) t (same-areas v) (stays t apart) x refl stands;
      mine = rests-next (ended_by s g) rests;
      numbered = record { number = shown.numbers.number; first = shown.numbers.first; ceiling = shown.numbers.ceiling; group = record { in_slot = shown.numbers.group.in_slot; numbered = shown.numbers.group.numbered } };
      kept = kept-stays held.members s held.numbers.next held.numbers.written m n was (omega (arith, free)) shown.kept;
      tabled = tables-pass v v (passes-none v) g (ended_by s g) held.tables refl shown.tables;
      course_behind = course_undone has.transaction.tsn.number (course_given given shown.versions.course);
      waiting_behind = set_waiting s [] shown.versions.waiting;
      readers = member_ends v g held.limits.snaps shown.versions.course shown.versions.waiting s has.transaction (left shown.tells) shown.facts (may-end-undone (g.standing s) (may g stands)) has.is_open given
          (its v held.limits.snaps held.slots shown.versions.course has.transaction.tsn.number shown.versions.slots shown.versions.readers.versions.files)
          (none-left v held.limits.snaps held.slots shown.versions.course has.transaction.tsn.number shown.versions.slots shown.versions.readers.versions.files)
          shown.versions.readers;
      slots = still-held v held.limits.snaps held.slots shown.versions.course has.transaction.tsn.number shown.versions.slots shown.versions.readers.versions.files;
      used = shown.versions.used;
      unused = shown.versions.unused;
      waits = waits-next (set_waiting s [] shown.versions.waiting);
      waits_beside = λ t apart. ap (λ b. if b then [] else shown.versions.waiting t) apart;
      reads = λ t. refl;
    }

  -- the call of the trait that comes to this
  pub does-end-at : (there : Seat) (R : Shelf → Shelf → Type 0) → bare (seat_with next [] []) ≡ bare there →
      ((h g : Shelf) (start : Lines) → h.seat s ≡ seat_with m.stage (writes_in m.written.lines) start → g.clock.time ≡ v.moment → Moves s (seat_with next (writes_in m.written.lines) start) h g → R h g) →
      DoesOn s there R v held v (with_member s n held)
  does-end-at there R arrives as-asked =
      does-apart v v held (record (with_member s n held) { numbers = held.numbers }) s m n was (becomes-member held held.numbers s n) plain refl (none-leaves v) ends-now (omega arith) (omega arith) there R arrives
      (λ h shown stands c is. not_ending v shown.ledger s shown.facts (may shown.ledger stands) c is) (λ h shown stands. record { lines = refl; journal = refl; commit = refl }) space-same (λ h g start related moves. as-asked h g start related.seat related.time_behind moves)

  -- at whatever moment
  pub does-end : (there : Seat) (R : Shelf → Shelf → Type 0) → bare (seat_with next [] []) ≡ bare there →
      ((h g : Shelf) (start : Lines) → h.seat s ≡ seat_with m.stage (writes_in m.written.lines) start → Moves s (seat_with next (writes_in m.written.lines) start) h g → R h g) →
      DoesOn s there R v held v (with_member s n held)
  does-end there R arrives as-asked = does-end-at there R arrives (λ h g start seat time moves. as-asked h g start seat moves)
