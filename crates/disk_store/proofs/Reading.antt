-- A call that only reads the disk: whoever makes it, nothing changes but time and faults.
use Rattle.std.proofs.Common.{◌≡◌, ◌≤◌, ◌∙◌, ℕ, [], Option, Some, None, Ok, Err, inl, refl, sym, ap, subst}
use Rattle.std.specs.Prelude.{slice_get}
use Rattle.rdb_types.specs.declared.file.FileId.{FileId}
use Rattle.rdb_outside.specs.Causes.{Rose}
use Rattle.rdb_outside.specs.Disk.{View, OnlyReads}
use Rattle.line_store.specs.declared.answers.Fault.{Fault}
use Rattle.line_store.specs.declared.answers.Fault.TheVariants.{Failed, Bad}
use Rattle.line_store.specs.declared.answers.Progress.TheVariants.{Done}
use Rattle.line_store.specs.declared.answers.ReadStop.{ReadStop}
use Rattle.line_store.specs.declared.answers.ReadStop.TheVariants as read
use Rattle.line_store.specs.Seats.{Seat, IsAtRest, failed_at}
use Rattle.line_store.specs.Shelves.{Shelf}
use Rattle.line_store.specs.Calls.{Moves}
use Rattle.line_store.specs.Sights.{Reads}
use Rattle.line_store.proofs.Causes.{cause-of}
use Rattle.ledger_versions.specs.disk_seats.Ledgers.{Ledger}
use Rattle.ledger_versions.specs.disk_seats.Members.{LedgerFacts}
use Rattle.member_rooms.proofs.of_member_steps.Journals.{read_ledger}
use Rattle.member_rooms.specs.store_shows.Shows.{ShowsLines}
use Rattle.member_rooms.proofs.of_store_shows.Standing.{may_stand, lasts_with, all-open}
use Rattle.disk_store.proofs.Agreeing.{shown-opens}
use Rattle.disk_store.specs.declared.member.Member.{Member}
use Rattle.disk_store.specs.Memory.{StoreMemory}
use Rattle.disk_store.specs.Seats.{seat_with, stand_of, stand_at}
use Rattle.disk_store.specs.Shown.{DoesOn, Sits, Shown}
use Rattle.disk_store.proofs.Beside.{stays-there}
use Rattle.disk_store.proofs.Passing.{Passes, header-read, passes-reads, reads-leave, reads-ceiling, tables-pass, slots-pass}
use Rattle.disk_store.proofs.Failing.{sits-failed}
use Rattle.disk_store.proofs.NoBackups.{copier-stays}
use Rattle.disk_store.proofs.Stepping.{space-same}

module _ (v w : View) (held : StoreMemory) (s : ℕ) (reads : OnlyReads v w) where
  module _ (h : Shelf) (shown : Shown v held h) where
    abbrev g : Ledger
    g = shown.ledger

    p : Passes v w
    p = passes-reads v w shown.tells reads

    facts : LedgerFacts w g
    facts = read_ledger v w g shown.tells reads shown.facts

    -- the shelf that is shown behind it
    abbrev after : Shelf
    after = record h { clock = record { time = w.moment; faults = w.faults; promised = held.numbers.ceiling } }

    lines-stand : ShowsLines w g after
    lines-stand = record { now = shown.lines.now; time = refl; faults = refl; flight = shown.lines.flight }

    sits-still : (t : ℕ) (x : Option Member) (seat : Seat) → Sits v g t x seat → Sits w g t x seat
    sits-still t None seat sits = sits
    sits-still t (Some x) seat sits = record { start = sits.start; is = sits.is; stands = stays-there v w g g t p.areas (record { standing = inl refl; going = refl; commit = refl }) x (header-read v w shown.tells reads t) sits.stands }

    abbrev shown-after : Shown w held after
    shown-after = record {
      tells = reads.told ∙ shown.tells;
      ledger = g;
      facts = facts;
      limits = shown.limits;
      lines = lines-stand;
      promised = refl;
      seats = λ t. sits-still t (slice_get held.members t) (h.seat t) (shown.seats t);
      steps = shown.steps;
      kept = shown.kept;
      numbers = record { number = shown.numbers.number; first = shown.numbers.first; ceiling = reads-ceiling v w shown.tells reads held.numbers shown.numbers.ceiling; group = shown.numbers.group };
      tables = tables-pass v w p g g held.tables refl shown.tables;
      versions = record {
        course = shown.versions.course;
        waiting = shown.versions.waiting;
        readers = p.readers g held.limits.snaps shown.versions.course shown.versions.waiting shown.versions.readers;
        slots = slots-pass v w p shown.versions.course.followed held.limits.snaps held.slots shown.versions.slots;
        waits = shown.versions.waits;
        reading = shown.versions.reading;
        only = shown.versions.only;
        used = shown.versions.used;
        unused = shown.versions.unused;
      };
      space = record { limits = shown.space.limits; pages = shown.space.pages; snaps = shown.space.snaps; slots = shown.space.slots };
    }

    moves : Moves s (h.seat s) h after
    moves = record {
      now = refl;
      mine = refl;
      others = record {
        seat = λ t apart. refl;
        steps = λ t apart. refl;
        later = record { later = subst (λ (n : ℕ). n ≤ w.moment) (sym shown.lines.time) reads.later; no_fewer = subst (λ (n : ℕ). n ≤ w.faults) (sym shown.lines.faults) reads.no_fewer };
      };
      space = space-same h.space;
    }

  does-look : (R : Shelf → Shelf → Type 0) → ((h k : Shelf) → Shown v held h → Moves s (h.seat s) h k → h.clock.faults ≡ v.faults → k.clock.faults ≡ w.faults → R h k) → DoesOn s (stand_at held.members s) R v held w held
  does-look R as-asked = record {
    does = record {
      mine = refl;
      others = λ t apart. refl;
      steps = λ t apart. refl;
      copier = λ number. copier-stays (stand_at held.members s) (slice_get held.members s) (stand_at held.members s) s number refl;
      each = λ h shown. record {
        shelf = after h shown;
        shown = shown-after h shown;
        related = as-asked h (after h shown) shown (moves h shown) shown.lines.faults refl;
        lasts = lasts_with v w h (after h shown) shown.lines.time (reads-leave v w reads shown.tells) (may_stand v shown.ledger h shown.facts shown.lines) (may_stand w shown.ledger (after h shown) (facts h shown) (lines-stand h shown));
        opens = all-open v w h shown.lines.time (reads-leave v w reads shown.tells) (shown-opens v held h shown) (shown-opens w held (after h shown) (shown-after h shown));
        backed = λ number t lines early apart was. was;
      };
    };
    rolls = λ h shown base last was. was;
  }

  pub reads-done : DoesOn s (stand_at held.members s) (Reads s (Ok Done)) v held w held
  reads-done = does-look (Reads s (Ok Done)) (λ h k shown moves before behind. moves)

  pub reads-no-memory : DoesOn s (stand_at held.members s) (Reads s (Err read.NoMemory)) v held w held
  reads-no-memory = does-look (Reads s (Err read.NoMemory)) (λ h k shown moves before behind. moves)

  -- who rests stays in its seat where a call fails
  rested : IsAtRest (stand_at held.members s) → (h : Shelf) → Shown v held h → failed_at (h.seat s) ≡ h.seat s
  rested rests h shown = by (slice_get held.members s) refl (shown.seats s) rests
    where
      by : (x : Option Member) → slice_get held.members s ≡ x → Sits v shown.ledger s x (h.seat s) → IsAtRest (stand_of x) → failed_at (h.seat s) ≡ h.seat s
      by None is sits quiet = ap failed_at sits.0 ∙ sym sits.0
      by (Some m) is sits quiet = sits-failed v held s m is (λ changes. subst (λ st. IsAtRest (seat_with st [] [])) changes quiet) h shown

  pub reads-fault : IsAtRest (stand_at held.members s) → (fault : Fault) → (fault ≡ Failed → Rose v.faults w.faults) → ((h : Shelf) → Shown v held h → (file : FileId) (slot : ℕ) → fault ≡ Bad file slot → ⊥) → DoesOn s (stand_at held.members s) (Reads s (Err (read.Fault fault))) v held w held
  reads-fault rests fault rose good = does-look (Reads s (Err (read.Fault fault))) (λ h k shown moves before behind. record {
    moves = subst (λ (seat : Seat). Moves s seat h k) (sym (rested rests h shown)) moves;
    cause = cause-of fault h.clock k.clock v.faults w.faults rose (λ file slot is. absurd (good h shown file slot is)) before behind;
  })

  pub reads-stop : IsAtRest (stand_at held.members s) → (stop : ReadStop) → (stop ≡ read.Fault Failed → Rose v.faults w.faults) → ((h : Shelf) → Shown v held h → (file : FileId) (slot : ℕ) → stop ≡ read.Fault (Bad file slot) → ⊥) → DoesOn s (stand_at held.members s) (Reads s (Err stop)) v held w held
  reads-stop rests read.NoMemory rose good = reads-no-memory
  reads-stop rests (read.Fault fault) rose good = reads-fault rests fault (λ is. rose (ap (λ (x : Fault). read.Fault x) is)) (λ h shown file slot is. good h shown file slot (ap (λ (x : Fault). read.Fault x) is))
