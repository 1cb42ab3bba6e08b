-- What is shown behind a page that is taken.
use Rattle.std.proofs.Common.{◌≡◌, ◌==◌, ℕ, Bool, true, false, not, length, inl, refl, sym, ap, subst, ◌∙◌, arith}
use Rattle.std.specs.Prelude.{slice_get}
use Rattle.std.proofs.lemmas.Bool.{eqb-true, eqb-false}
use Rattle.rdb_types.specs.declared.keys.Dbkey.{Dbkey}
use Rattle.rdb_page.specs.Page.{IsOwner}
use Rattle.rdb_outside.specs.Disk.{View}
use Rattle.line_store.specs.Shelves.{Shelf, Space}
use Rattle.line_store.specs.Rooms.{Takes, IsTaken}
use Rattle.member_rooms.specs.page_table.Pages.{Pages}
use Rattle.member_rooms.specs.page_table.Scans.{IsNew}
use Rattle.member_rooms.specs.committed_tables.Tables.{WereUsed}
use Rattle.member_rooms.proofs.of_committed_tables.EverUsed.{used_behind_page}
use Rattle.member_rooms.specs.store_shows.Rooms.{is_free, HasPages}
use Rattle.member_rooms.proofs.of_store_shows.Taken.{is_taken, page_is_taken}
use Rattle.disk_store.specs.declared.held.Tables.{Tables}
use Rattle.disk_store.specs.Memory.{StoreMemory, with_tables}
use Rattle.disk_store.specs.Seats.{stand_at}
use Rattle.disk_store.specs.Shown.{DoesOn, StaysOn, pages_of, TablesStand, HaveStarts, Shown}
use Rattle.disk_store.specs.Taken.{TakesIn}
use Rattle.disk_store.proofs.EverUsed.{takes-still}
use Rattle.disk_store.proofs.NoBackups.{copier-stays}
use Rattle.disk_store.proofs.Unused.{unused-still}

-- nothing changes
pub stays : (v : View) (held : StoreMemory) (s : ℕ) → StaysOn s v held v held
stays v held s = record {
  does = record {
    mine = refl;
    others = λ t apart. refl;
    steps = λ t apart. refl;
    copier = λ number. copier-stays (stand_at held.members s) (slice_get held.members s) (stand_at held.members s) s number refl;
    each = λ h shown. record { shelf = h; shown = shown; related = refl; lasts = record { since = λ t lines early is. inl is }; opens = λ t early was. was; backed = λ number t lines early apart was. was };
  };
  rolls = λ h shown base last was. was;
}

module _ (v : View) (held : StoreMemory) (s file class : ℕ) (key : Dbkey) (owner : IsOwner file key.area) where
  -- a page that isn't new was taken
  pub was-taken : (IsNew (pages_of held.tables file) key.page → ⊥) → (h : Shelf) → Shown v held h → IsTaken key h.space
  was-taken none h shown = record { file = file; lies = owner; taken = is_taken (pages_of held.tables) h.space shown.space.pages file key.page none }

  -- so taking it once more changes nothing
  pub takes-again : (IsNew (pages_of held.tables file) key.page → ⊥) → DoesOn s (stand_at held.members s) (Takes key) v held v held
  takes-again none = record {
    does = record {
      mine = refl;
      others = λ t apart. refl;
      steps = λ t apart. refl;
      copier = λ number. copier-stays (stand_at held.members s) (slice_get held.members s) (stand_at held.members s) s number refl;
      each = λ h shown. record {
        shelf = h;
        shown = shown;
        related = record {
          file = file;
          lies = owner;
          page = record { here = is_taken (pages_of held.tables) h.space shown.space.pages file key.page none; others = λ f p apart. refl; limits = refl; snaps = refl; slots = refl };
          now = refl;
          seat = λ t. refl;
          steps = λ t. refl;
          later = record { later = omega arith; no_fewer = omega arith };
        };
        lasts = record { since = λ t lines early is. inl is };
        opens = λ t early was. was;
        backed = λ number t lines early apart was. was;
      };
    };
    rolls = λ h shown base last was. was;
  }

  module _ (kept : Tables) (new : IsNew (pages_of held.tables file) key.page) (takes : TakesIn file key.page key.area class held.tables kept) (stand : (h : Shelf) (shown : Shown v held h) → TablesStand v shown.ledger kept) where
    abbrev space-behind : Shelf → Space
    space-behind h = record { limits = h.space.limits; taken = λ f p. not (is_free (pages_of kept f) p); snaps = h.space.snaps; slots = h.space.slots }

    abbrev behind : Shelf → Shelf
    behind h = record h { space = space-behind h }

    long : (f : ℕ) → length (pages_of kept f) ≡ length (pages_of held.tables f)
    long f = by (f == file) refl
      where
        by : (b : Bool) → (f == file) ≡ b → length (pages_of kept f) ≡ length (pages_of held.tables f)
        by true same = subst (λ (n : ℕ). length (pages_of kept n) ≡ length (pages_of held.tables n)) (sym (eqb-true f file same)) takes.here.long
        by false apart = ap (λ (ps : Pages). length ps) (takes.others f (eqb-false f file apart))

    has-pages : (h : Shelf) → Shown v held h → HasPages (pages_of kept) (space-behind h)
    has-pages h shown = record { taken = λ f p. refl; limit = λ f. long f ∙ shown.space.pages.limit f }

    used-kept : (h : Shelf) (shown : Shown v held h) → HaveStarts kept shown.versions.course
    used-kept h shown t f reading start is goes lines = by (f == file) refl
      where
        was : WereUsed (pages_of held.tables f) f start
        was = shown.versions.used t f reading start is goes lines

        by : (b : Bool) → (f == file) ≡ b → WereUsed (pages_of kept f) f start
        by true same =
            let e : f ≡ file = eqb-true f file same in
            subst (λ (n : ℕ). WereUsed (pages_of kept n) n start) (sym e)
            (used_behind_page (pages_of held.tables file) (pages_of kept file) file start key.page key.area class (subst (λ (n : ℕ). WereUsed (pages_of held.tables n) n start) e was) new.free takes.here)
        by false apart = subst (λ (ps : Pages). WereUsed ps f start) (sym (takes.others f (eqb-false f file apart))) was

    abbrev shown-behind : (h : Shelf) → Shown v held h → Shown v (with_tables kept held) (behind h)
    shown-behind h shown = record {
      tells = shown.tells;
      ledger = shown.ledger;
      facts = shown.facts;
      limits = shown.limits;
      lines = record { now = shown.lines.now; time = shown.lines.time; faults = shown.lines.faults; flight = shown.lines.flight };
      promised = shown.promised;
      seats = shown.seats;
      steps = shown.steps;
      numbers = shown.numbers;
      kept = shown.kept;
      tables = stand h shown;
      versions = record {
        course = shown.versions.course;
        waiting = shown.versions.waiting;
        readers = shown.versions.readers;
        slots = shown.versions.slots;
        waits = shown.versions.waits;
        reading = shown.versions.reading;
        only = shown.versions.only;
        used = used-kept h shown;
        unused = unused-still held.tables kept shown.versions.course (takes-still file key.page key.area class held.tables kept new takes) shown.versions.unused;
      };
      space = record { limits = shown.space.limits; pages = has-pages h shown; snaps = shown.space.snaps; slots = shown.space.slots };
    }

    pub takes-page : DoesOn s (stand_at held.members s) (Takes key) v held v (with_tables kept held)
    takes-page = record {
      does = record {
        mine = refl;
        others = λ t apart. refl;
        steps = λ t apart. refl;
        copier = λ number. copier-stays (stand_at held.members s) (slice_get held.members s) (stand_at held.members s) s number refl;
        each = λ h shown. record {
          shelf = behind h;
          shown = shown-behind h shown;
          related = record {
            file = file;
            lies = owner;
            page = page_is_taken (pages_of held.tables) (pages_of kept) h.space (space-behind h) file class key shown.space.pages (has-pages h shown) owner new.first takes.here takes.others refl refl refl;
            now = refl;
            seat = λ t. refl;
            steps = λ t. refl;
            later = record { later = omega arith; no_fewer = omega arith };
          };
          lasts = record { since = λ t lines early is. inl is };
          opens = λ t early was. was;
          backed = λ number t lines early apart was. was;
        };
      };
      rolls = λ h shown base last was. was;
    }
