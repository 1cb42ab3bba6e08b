-- What a store shows behind calls that write a backup.
use Rattle.std.proofs.Common.{◌≤◌, ℕ, IsTrue, List, Option, Some, None, inl, refl, sym, subst}
use Rattle.std.specs.Prelude.{slice_get}
use Rattle.rdb_outside.specs.Disk.{View}
use Rattle.root_file.specs.Root.{IsRoot}
use Rattle.line_store.specs.Seats.{Seat}
use Rattle.line_store.specs.Shelves.{Shelf}
use Rattle.line_store.specs.Calls.{Moves}
use Rattle.backup_steps.specs.backup_making.Making.{file_of as backup_of}
use Rattle.backup_steps.specs.Beside.{IsBeside}
use Rattle.disk_seats.specs.Members.{LedgerFacts}
use Rattle.store_shows.specs.Shows.{ShowsLines}
use Rattle.store_shows.proofs.Standing.{may_stand, lasts_with, all-open}
use Rattle.disk_store.specs.declared.member.Member.{Member}
use Rattle.disk_store.specs.declared.held.Numbers.{Numbers}
use Rattle.disk_store.specs.Memory.{StoreMemory}
use Rattle.disk_store.specs.Seats.{stand_at}
use Rattle.disk_store.specs.Shown.{DoesOn, CeilingStands, Sits, Shown}
use Rattle.disk_store.proofs.Agreeing.{shown-opens}
use Rattle.disk_store.proofs.Beside.{stays-there}
use Rattle.disk_store.proofs.NoBackups.{copier-stays}
use Rattle.disk_store.proofs.Passing.{Passes, tables-pass, slots-pass}
use Rattle.disk_store.proofs.Stepping.{space-same}
use Rattle.copies_beside.specs.Moved.{moved_on}
use Rattle.copies_beside.proofs.Files.{area_left, area_reads, journal_reads, root_left, root_reads, versions_read}
use Rattle.copies_beside.proofs.Ledgers.{ledger_stays, readers_stay}

module _ (number : ℕ) (v w : View) (beside : IsBeside (backup_of number) v w) where
  passes : IsTrue v.tells → Passes v w
  passes t = record {
    told = beside.told;
    later = beside.later;
    no_fewer = beside.no_fewer;
    areas = record { content = λ file slot. area_reads number v w beside t file slot; pending = λ file slot x p. area_left number v w beside t file slot x p };
    snaps = λ file slot. versions_read number v w beside t file slot;
    readers = λ g limit course waiting was. readers_stay number v w beside t g limit course waiting was;
  }

  ceiling_stays : IsTrue v.tells → (numbers : Numbers) → CeilingStands v numbers → CeilingStands w numbers
  ceiling_stays t numbers was = record {
    pending = λ content root p is. was.pending content root (root_left number v w beside t content p) is;
    written = λ root is. was.written root (subst (λ (bytes : List ℕ). IsRoot bytes root) (root_reads number v w beside t) is);
    below = was.below;
    raised = was.raised;
  }

  module _ (held : StoreMemory) (h : Shelf) (shown : Shown v held h) where
    p : Passes v w
    p = passes shown.tells

    facts : LedgerFacts w shown.ledger
    facts = ledger_stays number v w beside shown.tells shown.ledger shown.facts

    lines : ShowsLines w shown.ledger (moved_on w held h)
    lines = record { now = shown.lines.now; time = refl; faults = refl; flight = shown.lines.flight }

    sits : (t : ℕ) (x : Option Member) (seat : Seat) → Sits v shown.ledger t x seat → Sits w shown.ledger t x seat
    sits t None seat was = was
    sits t (Some x) seat was = record { start = was.start; is = was.is; stands = stays-there v w shown.ledger shown.ledger t p.areas (record { standing = inl refl; going = refl; commit = refl }) x (journal_reads number v w beside shown.tells t 0) was.stands }

    pub shown_beside : Shown w held (moved_on w held h)
    shown_beside = record {
      tells = subst (λ b. IsTrue b) (sym beside.told) shown.tells;
      ledger = shown.ledger;
      facts = facts;
      limits = shown.limits;
      lines = lines;
      promised = refl;
      seats = λ t. sits t (slice_get held.members t) (h.seat t) (shown.seats t);
      steps = shown.steps;
      numbers = record { number = shown.numbers.number; first = shown.numbers.first; ceiling = ceiling_stays shown.tells held.numbers shown.numbers.ceiling; group = shown.numbers.group };
      kept = shown.kept;
      tables = tables-pass v w p shown.ledger shown.ledger held.tables refl shown.tables;
      versions = record {
        course = shown.versions.course;
        waiting = shown.versions.waiting;
        readers = p.readers shown.ledger held.limits.snaps shown.versions.course shown.versions.waiting shown.versions.readers;
        slots = slots-pass v w p shown.versions.course.followed held.limits.snaps held.slots shown.versions.slots;
        waits = shown.versions.waits;
        reading = shown.versions.reading;
        only = shown.versions.only;
        used = shown.versions.used;
        unused = shown.versions.unused;
      };
      space = record { limits = shown.space.limits; pages = shown.space.pages; snaps = shown.space.snaps; slots = shown.space.slots };
    }

    moves : (s : ℕ) → Moves s (h.seat s) h (moved_on w held h)
    moves s = record {
      now = refl;
      mine = refl;
      others = record {
        seat = λ t apart. refl;
        steps = λ t apart. refl;
        later = record { later = subst (λ (n : ℕ). n ≤ w.moment) (sym shown.lines.time) beside.later; no_fewer = subst (λ (n : ℕ). n ≤ w.faults) (sym shown.lines.faults) beside.no_fewer };
      };
      space = space-same h.space;
    }

  pub does_beside : (held : StoreMemory) (s : ℕ) → DoesOn s (stand_at held.members s) (λ old new. Moves s (old.seat s) old new) v held w held
  unfolding shown_beside
  does_beside held s = record {
    does = record {
      mine = refl;
      others = λ t apart. refl;
      steps = λ t apart. refl;
      copier = λ number. copier-stays (stand_at held.members s) (slice_get held.members s) (stand_at held.members s) s number refl;
      each = λ h shown. record {
        shelf = moved_on w held h;
        shown = shown_beside held h shown;
        related = moves held h shown s;
        lasts = lasts_with v w h (moved_on w held h) shown.lines.time (beside.leaves shown.tells) (may_stand v shown.ledger h shown.facts shown.lines) (may_stand w shown.ledger (moved_on w held h) (facts held h shown) (lines held h shown));
        opens = all-open v w h shown.lines.time (beside.leaves shown.tells) (shown-opens v held h shown) (shown-opens w held (moved_on w held h) (shown_beside held h shown));
        backed = λ number t lines early apart was. was;
      };
    };
    rolls = λ h shown base last was. was;
  }
