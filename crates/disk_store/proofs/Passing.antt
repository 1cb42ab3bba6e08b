-- A device call that writes no area file and no snapshot file, and what stays shown behind it.
use Rattle.std.proofs.Common.{◌≡◌, ◌≢◌, ◌≤◌, ◌-◌, ◌+◌, ℕ, IsTrue, List, ◌⊎◌, inl, refl, sym, ap, subst, arith}
use Rattle.std.specs.Prelude.{slice_set}
use Rattle.std.proofs.lemmas.Bool.{eqb-false}
use Rattle.rdb_types.specs.declared.file.FileId.{FileId}
use Rattle.rdb_types.specs.declared.file.FileKind.TheVariants.{Area, Ruj, Snap, Root as RootKind}
use Rattle.rdb_outside.specs.Disk.{View, LeavesOnly, IsPending, OnlyReads}
use Rattle.rdb_outside.specs.Moments.{weaker, started, each_slot}
use Rattle.root_file.specs.Root.{IsRoot}
use Rattle.new_database.specs.Maker.{root_file}
use Rattle.snapshot_file.specs.Entry.{IsEntry}
use Rattle.line_versions.specs.Files.{snap_file}
use Rattle.line_versions.specs.Course.{Course}
use Rattle.line_versions.specs.Versions.{Followed}
use Rattle.stable_lines.specs.Slots.{area_file, ruj_file}
use Rattle.line_moves.specs.Calls.{OnlyWrites}
use Rattle.line_store.specs.Shelves.{Shelf}
use Rattle.ledger_versions.specs.disk_seats.Ledgers.{Ledger}
use Rattle.ledger_versions.specs.disk_seats.Members.{LedgerFacts}
use Rattle.member_rooms.proofs.of_member_steps.Ceilings.{stays_written}
use Rattle.member_rooms.specs.committed_tables.Tables.{HasCommitted}
use Rattle.reader_lines.specs.version_writing.Tables.{HoldsAll}
use Rattle.reader_lines.specs.version_writing.declared.snapshot_slots.SnapshotSlots.{SnapshotSlots}
use Rattle.ledger_versions.specs.Readers.{ReaderFacts, Waiting}
use Rattle.ledger_versions.proofs.Written.{still_reads, still_aside}
use Rattle.disk_store.specs.declared.member.Member.{Member}
use Rattle.disk_store.specs.declared.held.Numbers.{Numbers}
use Rattle.disk_store.specs.declared.held.Tables.{Tables}
use Rattle.disk_store.specs.Memory.{StoreMemory, with_member}
use Rattle.disk_store.specs.Numbers.{kept_in}
use Rattle.disk_store.specs.Standing.{StageStands}
use Rattle.disk_store.specs.Shown.{CeilingStands, TablesStand, WaitsAs, Shown, pages_of}
use Rattle.disk_store.proofs.Beside.{SameAreas, SameHeader, SameHeaders, same-areas, same-classes, stays-there}
use Rattle.disk_store.proofs.Stepping.{ComesTo}

pub record Passes (v w : View) : Type 0 where
  pub told : w.tells ≡ v.tells
  pub later : v.moment ≤ w.moment
  pub no_fewer : v.faults ≤ w.faults
  pub areas : SameAreas v w
  pub snaps : (file slot : ℕ) → w.content (snap_file file) slot ≡ v.content (snap_file file) slot
  pub readers : (g : Ledger) (limit : ℕ) (course : Course) (waiting : Waiting) → ReaderFacts v g limit course waiting → ReaderFacts w g limit course waiting

pub passes-none : (v : View) → Passes v v
passes-none v = record { told = refl; later = omega arith; no_fewer = omega arith; areas = same-areas v; snaps = λ file slot. refl; readers = λ g limit course waiting was. was }

pub passes-reads : (v w : View) → IsTrue v.tells → OnlyReads v w → Passes v w
passes-reads v w t only = record {
  told = only.told;
  later = only.later;
  no_fewer = only.no_fewer;
  areas = record { content = λ file slot. (only.keeps t).content (area_file file) slot; pending = λ file slot x p. (only.keeps t).pending (area_file file) slot x p };
  snaps = λ file slot. (only.keeps t).content (snap_file file) slot;
  readers = λ g limit course waiting was. still_reads v w limit course waiting g t was only;
}

pub passes-aside : (v w : View) (file : FileId) (slot : ℕ) → IsTrue v.tells → file.kind ≢ Snap → file.kind ≢ Area → OnlyWrites file slot v w → Passes v w
passes-aside v w file slot t not-snap not-area only = record {
  told = only.told;
  later = only.later;
  no_fewer = only.no_fewer;
  areas = record {
    content = λ f i. only.content t (area_file f) i (λ same at. not-area (ap (λ (x : FileId). x.kind) (sym same)));
    pending = λ f i x p. only.pending t (area_file f) i x (λ same at. not-area (ap (λ (y : FileId). y.kind) (sym same))) p;
  };
  snaps = λ f i. only.content t (snap_file f) i (λ same at. not-snap (ap (λ (x : FileId). x.kind) (sym same)));
  readers = λ g limit course waiting was. still_aside v w limit course waiting g t was file slot not-snap not-area only;
}

-- ---- headers of before-image journals

pub header-read : (v w : View) → IsTrue v.tells → OnlyReads v w → (t : ℕ) → SameHeader t v w
header-read v w told only t = (only.keeps told).content (ruj_file t) 0

-- another file is written
pub header-beside : (v w : View) (file : FileId) (slot : ℕ) → IsTrue v.tells → file.kind ≢ Ruj → OnlyWrites file slot v w → (t : ℕ) → SameHeader t v w
header-beside v w file slot told other only t = only.content told (ruj_file t) 0 (λ same at. other (ap (λ (f : FileId). f.kind) (sym same)))

-- the journal of a member is written
pub headers-beside : (v w : View) (s slot : ℕ) → IsTrue v.tells → OnlyWrites (ruj_file s) slot v w → SameHeaders s v w
headers-beside v w s slot told only t apart = only.content told (ruj_file t) 0 (λ same at. eqb-false t s apart (ap (λ (f : FileId). f.number) same))

pub headers-all : (v w : View) (s : ℕ) → ((t : ℕ) → SameHeader t v w) → SameHeaders s v w
headers-all v w s each t apart = each t

-- ---- what a crash leaves

pub reads-leave : (v w : View) → OnlyReads v w → IsTrue v.tells → LeavesOnly v w (λ image. IsPending v image ⊎ IsPending w image)
reads-leave v w only t = weaker v w (IsPending v) (λ image. IsPending v image ⊎ IsPending w image) (λ image p. inl p) (only.leaves t)

pub none-leaves : (v : View) → IsTrue v.tells → LeavesOnly v v (λ image. IsPending v image ⊎ IsPending v image)
none-leaves v t = started v (λ image. IsPending v image ⊎ IsPending v image) (λ image left. inl (each_slot v image left))

pub reads-ceiling : (v w : View) → IsTrue v.tells → OnlyReads v w → (numbers : Numbers) → CeilingStands v numbers → CeilingStands w numbers
reads-ceiling v w t only numbers was = record {
  pending = λ content root p is. was.pending content root ((only.keeps t).pending root_file 0 content p) is;
  written = λ root is. was.written root (subst (λ (bytes : List ℕ). IsRoot bytes root) ((only.keeps t).content root_file 0) is);
  below = was.below;
  raised = was.raised;
}

-- another file than the root is written
pub aside-ceiling : (v w : View) → IsTrue v.tells → (file : FileId) (slot : ℕ) → file.kind ≢ RootKind → OnlyWrites file slot v w → (numbers : Numbers) → CeilingStands v numbers → CeilingStands w numbers
aside-ceiling v w t file slot other only numbers was = record {
  pending = stays_written v w numbers.ceiling file slot t other only was.pending;
  written = λ root is. was.written root (subst (λ (bytes : List ℕ). IsRoot bytes root) (only.content t root_file 0 (λ same at. other (ap (λ (f : FileId). f.kind) (sym same)))) is);
  below = was.below;
  raised = was.raised;
}

-- the slots of the snapshot files stay
pub slots-stay : (v w : View) → ((file slot : ℕ) → w.content (snap_file file) slot ≡ v.content (snap_file file) slot) → (followed : Followed) (limit : ℕ) (slots : SnapshotSlots) → HoldsAll v.content followed limit slots → HoldsAll w.content followed limit slots
slots-stay v w snaps followed limit slots was file is = record {
  long = (was file is).long;
  used = (was file is).used;
  pusher = λ chain entry follows stands. (was file is).pusher chain entry follows (record { number = stands.number; is = subst (λ bytes. IsEntry bytes entry) (snaps file (chain - 1)) stands.is });
}

module _ (v w : View) (passes : Passes v w) where
  pub tables-pass : (g h : Ledger) (tables : Tables) → h.base.lines ≡ g.base.lines → TablesStand v g tables → TablesStand w h tables
  tables-pass g h tables same was = record {
    committed = λ file is. subst (λ lines. HasCommitted (pages_of tables file) file lines) (sym same) (was.committed file is);
    classes = was.classes;
    lie = same-classes v w passes.areas was.classes was.lie;
    class = was.class;
    owned = λ place area is within plain owner x p. was.owned place area is within plain owner x (passes.areas.pending place.file (place.page - 1) x p);
  }

  pub slots-pass : (followed : Followed) (limit : ℕ) (slots : SnapshotSlots) → HoldsAll v.content followed limit slots → HoldsAll w.content followed limit slots
  slots-pass followed limit slots was = slots-stay v w passes.snaps followed limit slots was

  -- the ledger and the course stay, and the session comes to another member
  abbrev pub same-ledger : (held : StoreMemory) (s : ℕ) (n : Member) (h : Shelf) (shown : Shown v held h) → SameHeaders s v w → CeilingStands w held.numbers → held.numbers.next + kept_in (slice_set held.members s n) ≤ held.numbers.written → LedgerFacts w shown.ledger
      → StageStands n.stage w shown.ledger s n → WaitsAs n.stage shown.versions.waiting s n → ComesTo v w (record (with_member s n held) { numbers = held.numbers }) s n shown.ledger shown.versions.course shown.versions.waiting
  same-ledger held s n h shown headers ceiling kept facts mine waits = record {
    ledger = shown.ledger;
    facts = facts;
    limits = refl;
    none = λ t apart rests. rests;
    others = λ t x apart got stands. stays-there v w shown.ledger shown.ledger t passes.areas (record { standing = inl refl; going = refl; commit = refl }) x (headers t apart) stands;
    mine = mine;
    numbered = record { number = shown.numbers.number; first = shown.numbers.first; ceiling = ceiling; group = shown.numbers.group };
    kept = kept;
    tabled = tables-pass shown.ledger shown.ledger held.tables refl shown.tables;
    course_behind = shown.versions.course;
    waiting_behind = shown.versions.waiting;
    readers = passes.readers shown.ledger held.limits.snaps shown.versions.course shown.versions.waiting shown.versions.readers;
    slots = slots-pass shown.versions.course.followed held.limits.snaps held.slots shown.versions.slots;
    used = shown.versions.used;
    unused = shown.versions.unused;
    waits = waits;
    waits_beside = λ t apart. refl;
    reads = λ t. refl;
  }
