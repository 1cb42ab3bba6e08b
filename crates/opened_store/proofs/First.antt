-- The first shelf that is shown.
use Rattle.std.proofs.Common.{◌≡◌, ◌≢◌, ◌⊎◌, inl, inr, ⊎_elim, ℕ, ◌+◌, ◌-◌, ◌%◌, not, ◌≤◌, List, [], Some, None, IsTrue, refl, sym, ap, subst, ◌∙◌, arith}
use Rattle.std.proofs.lemmas.Bool.{false≢true}
use Rattle.std.proofs.lemmas.Option.{none-some}
use Rattle.rdb_types.specs.declared.keys.Limits.{Limits}
use Rattle.rdb_outside.specs.Disk.{View, LeftNow, Pending, IsStable}
use Rattle.rdb_outside.specs.Moments.{each_slot}
use Rattle.rdb_page.specs.Page.{IsOwner}
use Rattle.area_files.specs.Areas.{IsPage, IsDataPage, space_page_of}
use Rattle.space_pages.specs.Space.{owner_of}
use Rattle.line_view.specs.Knowledge.{Lines, line_in}
use Rattle.line_versions.specs.Course.{Course, opened}
use Rattle.line_store.specs.Seats.{outside}
use Rattle.line_store.specs.Shelves.{Shelf}
use Rattle.new_database.specs.Maker.{root_file}
use Rattle.stable_lines.specs.Slots.{IsAreaFile, area_file, ruj_file, owner_at, line_at}
use Rattle.stable_lines.specs.Journal.{Journal}
use Rattle.stable_lines.specs.Kept.{IsWellFormed}
use Rattle.stable_lines.specs.Progress.{Progress}
use Rattle.stable_lines.specs.Facts.{Facts}
use Rattle.line_opening.specs.Passing.{IsNext}
use Rattle.line_moves.specs.declared.places.Place.{Place}
use Rattle.line_moves.specs.Classes.{IsClassed}
use Rattle.line_moves.proofs.Putting.{nat_cases}
use Rattle.database_opening.specs.declared.start.StoreStart.{StoreStart}
use Rattle.database_opening.specs.Owners.{owner_said}
use Rattle.database_opening.specs.Start.{beginning_with}
use Rattle.database_opening.proofs.Pages.{classes_stable}
use Rattle.disk_seats.specs.Ledgers.{Ledger, new_ledger}
use Rattle.disk_seats.specs.Members.{LedgerFacts}
use Rattle.member_steps.specs.Beginning.{HasCeiling}
use Rattle.page_table.specs.declared.uses.PageUse.{PageUse}
use Rattle.page_table.specs.Pages.{use_of, owner_in, class_in, IsWithin}
use Rattle.page_table.specs.Reading.{IsEntryOf}
use Rattle.committed_tables.specs.Tables.{HasCommitted}
use Rattle.committed_tables.proofs.AtOpening.{begins_with}
use Rattle.disk_versions.proofs.Beginnings.{opens}
use Rattle.ledger_versions.proofs.Restanding.{first_readers}
use Rattle.store_shows.specs.Rooms.{is_free}
use Rattle.store_shows.specs.Shows.{ShowsLines}
use Rattle.disk_store.specs.Memory.{StoreMemory}
use Rattle.disk_store.specs.Opening.{AreFresh, HasAllFree}
use Rattle.disk_store.specs.Seats.{steps_at}
use Rattle.disk_store.specs.Shown.{pages_of, used_in, NumbersStand, TablesStand, VersionsStand, SpaceStands, Shown}
use Rattle.opened_store.specs.Tables.{AreTablesOf}
use Rattle.opened_store.proofs.Free.{none-held}
use Rattle.opened_store.proofs.NeverUsed.{never-used}
use Rattle.opened_store.proofs.Fresh.{all-sit, none-waits, none-reads, none-kept}
use Rattle.opened_store.proofs.TakenPages.{tables-long}

abbrev pub first_shelf : View → StoreMemory → Lines → Shelf
first_shelf v held lines = record {
  now = lines;
  seat = λ s. outside;
  steps = steps_at held.members;
  space = record {
    limits = held.limits;
    taken = λ file page. not (is_free (pages_of held.tables file) page);
    snaps = used_in held.slots.catalog + used_in held.slots.relations + used_in held.slots.indexes;
    slots = held.next.slot - 1;
  };
  clock = record { time = v.moment; faults = v.faults; promised = held.numbers.ceiling };
}

-- What memory has of an opened database.
pub record IsHeldOf (v : View) (journal : Journal) (start : StoreStart) (held : StoreMemory) : Type 0 where
  pub limits : held.limits ≡ start.root.limits
  pub next : held.numbers.next ≡ start.next_tsn
  pub ceiling : HasCeiling (Pending v) held.numbers.ceiling
  pub written : held.numbers.written ≡ held.numbers.ceiling
  pub below : held.numbers.next ≤ held.numbers.ceiling
  pub group : IsNext journal held.next
  pub tables : AreTablesOf v.content start.root.limits.pages held.tables
  pub members : AreFresh held.members
  pub free : HasAllFree held

pub few-pages : (v : View) (left : LeftNow v v.content) (classes : ℕ → ℕ) (lines : Lines) (journal : Journal) (start : StoreStart) (moment : ℕ) → LedgerFacts v (new_ledger (beginning_with classes lines journal start) moment) → start.root.limits.pages ≤ 65536
few-pages v left classes lines journal start moment were =
    let root = were.facts.root (v.content root_file 0) (each_slot v v.content left root_file 0) in
    subst (λ (l : Limits). l.pages ≤ 65536) root.limits root.is.allowed.limits.pages.1

module _ (v : View) (t : IsTrue v.tells) (left : LeftNow v v.content) (stable : IsStable v) (classes : ℕ → ℕ) (lines : Lines) (journal : Journal) (start : StoreStart) (moment : ℕ)
    (were : LedgerFacts v (new_ledger (beginning_with classes lines journal start) moment)) (held : StoreMemory) (has : IsHeldOf v journal start held) (by_area : ℕ → ℕ) (lie : IsClassed by_area v.content) where
  abbrev base : Progress
  base = beginning_with classes lines journal start

  abbrev ledger : Ledger
  ledger = new_ledger base moment

  facts : Facts (Pending v) base
  facts = were.facts

  pends : (file number : ℕ) → Pending v (area_file file) (number - 1) (v.content (area_file file) (number - 1))
  pends file number = each_slot v v.content left (area_file file) (number - 1)

  -- ---- pages

  few : start.root.limits.pages ≤ 65536
  few = few-pages v left classes lines journal start moment were

  within-limit : (file page : ℕ) → IsAreaFile file → IsWithin (pages_of held.tables file) page → page ≤ start.root.limits.pages
  within-limit file page is within = let last = within.last in let long = (has.tables file is).long in omega (arith, last, long)

  a-page : (file page : ℕ) → IsAreaFile file → IsWithin (pages_of held.tables file) page → IsPage page
  a-page file page is within = let last = within-limit file page is within in let most = few in record { first = within.first; last = omega (arith, last, most) }

  -- what the space page and the page say of one
  entry : (file page : ℕ) → IsAreaFile file → IsDataPage page → IsWithin (pages_of held.tables file) page → IsEntryOf (owner_said v.content file page) page (v.content (area_file file) (page - 1)) (use_of (pages_of held.tables file) page)
  entry file page is plain within = (has.tables file is).page page plain (within-limit file page is within)

  -- nobody owns a space page
  nobodys-space : (file page : ℕ) → IsAreaFile file → IsWithin (pages_of held.tables file) page → (page - 1) % 200 ≡ 0 → owner_in (pages_of held.tables file) page ≡ 0
  nobodys-space file page is within space = ap (λ (u : PageUse). u.owner) ((has.tables file is).space page (a-page file page is within) space (within-limit file page is within))

  area-of : (file owner : ℕ) → IsOwner file owner → IsAreaFile file
  area-of file owner (inl first) = record { first = omega (arith, first.0); last = omega (arith, first.0) }
  area-of file owner (inr (inl second)) = record { first = omega (arith, second.0); last = omega (arith, second.0) }
  area-of file owner (inr (inr third)) = record { first = omega (arith, third.0); last = omega (arith, third.0) }

  some-owner : (file owner : ℕ) → IsOwner file owner → 1 ≤ owner
  some-owner file owner (inl first) = omega (arith, first.1)
  some-owner file owner (inr (inl second)) = omega (arith, second.1)
  some-owner file owner (inr (inr third)) = omega (arith, third.1)

  module _ (file page : ℕ) (within : IsWithin (pages_of held.tables file) page) (owner : IsOwner file (owner_in (pages_of held.tables file) page)) where
    abbrev used : PageUse
    used = use_of (pages_of held.tables file) page

    of-file : IsAreaFile file
    of-file = area-of file used.owner owner

    owned : 1 ≤ used.owner
    owned = some-owner file used.owner owner

    class-of-space : (page - 1) % 200 ≡ 0 → used.class ≡ by_area used.owner
    class-of-space space = let none : used.owner ≡ 0 = nobodys-space file page of-file within space in absurd (omega (arith, none, owned))

    class-of-data : (page - 1) % 200 ≢ 0 → used.class ≡ by_area used.owner
    class-of-data plain =
        let data_page : IsDataPage page = record { is_page = a-page file page of-file within; plain = plain } in
        ⊎_elim
        (λ free. let none : used.owner ≡ 0 = ap (λ (u : PageUse). u.owner) free.1 in absurd (omega (arith, none, owned)))
        (λ both.
        let same : used.owner ≡ owner_at (v.content (area_file file) (page - 1)) = both.1.owner in
        both.1.class ∙ lie file page of-file data_page (omega (arith, same, owned)) ∙ ap by_area (sym same))
        (entry file page of-file data_page within)

    class-is : class_in (pages_of held.tables file) page ≡ by_area (owner_in (pages_of held.tables file) page)
    class-is = ⊎_elim class-of-space class-of-data (nat_cases ((page - 1) % 200) 0)

  module _ (place : Place) (area : ℕ) (is : IsAreaFile place.file) (within : IsWithin (pages_of held.tables place.file) place.page) (data_page : IsDataPage place.page)
      (whose : (owner_in (pages_of held.tables place.file) place.page ≡ 0) ⊎ (owner_in (pages_of held.tables place.file) place.page ≡ area))
      (x : List ℕ) (p : Pending v (area_file place.file) (place.page - 1) x) (some : 1 ≤ owner_at x) where
    abbrev bytes : List ℕ
    bytes = v.content (area_file place.file) (place.page - 1)

    abbrev kept_of : PageUse
    kept_of = use_of (pages_of held.tables place.file) place.page

    read_is : owner_at x ≡ owner_at bytes
    read_is = ap owner_at (stable (area_file place.file) (place.page - 1) x p)

    owner-is : owner_at x ≡ area
    owner-is =
        let at_space : List ℕ = v.content (area_file place.file) (space_page_of place.page - 1) in
        ⊎_elim
        (λ free.
        let said : owner_of place.page at_space ≡ owner_at x = facts.pages.owner place.file place.page x at_space is data_page p some (pends place.file (space_page_of place.page)) in
        let none : owner_of place.page at_space ≡ 0 = free.0 in
        absurd (omega (arith, said, none, some)))
        (λ both. let its : kept_of.owner ≡ owner_at bytes = both.1.owner in ⊎_elim
        (λ (none : kept_of.owner ≡ 0). absurd (omega (arith, read_is, its, none, some)))
        (λ (here : kept_of.owner ≡ area). read_is ∙ sym its ∙ here)
        whose)
        (entry place.file place.page is data_page within)

  pub has-committed : (file : ℕ) → IsAreaFile file → HasCommitted (pages_of held.tables file) file lines
  has-committed file is = begins_with v left base facts (λ member. refl) file (pages_of held.tables file) (has.tables file is)

  formed : IsWellFormed v.content start.root.limits.pages
  formed = record {
    page = λ file number is plain. facts.pages.page file number (v.content (area_file file) (number - 1)) is plain (pends file number);
    space = λ file number is page space. facts.pages.space file number (v.content (area_file file) (number - 1)) is page space (pends file number);
    header = λ member is. facts.pages.header member (v.content (ruj_file member) 0) is (each_slot v v.content left (ruj_file member) 0);
    owner = λ file number is plain owned. facts.pages.owner file number (v.content (area_file file) (number - 1)) (v.content (area_file file) (space_page_of number - 1)) is plain (pends file number) owned (pends file (space_page_of number));
    past = λ file slot is le lt. facts.pages.past file slot (v.content (area_file file) slot) is le lt (each_slot v v.content left (area_file file) slot);
  }

  -- ---- what is shown

  pub numbers-stand : NumbersStand v ledger held.numbers held.next
  numbers-stand = record {
    number = sym has.next;
    first = let below = facts.below.header 1 (v.content (ruj_file 1) 0) (record { first = omega arith; last = omega arith }) (each_slot v v.content left (ruj_file 1) 0) in let next = has.next in omega (arith, below, next);
    ceiling = record {
      pending = has.ceiling;
      written = λ root is. let low = has.ceiling (v.content root_file 0) root (each_slot v v.content left root_file 0) is in let same = has.written in omega (arith, low, same);
      below = has.below;
      raised = inl has.written;
    };
    group = has.group;
  }

  pub tables-stand : TablesStand v ledger held.tables
  tables-stand = record {
    committed = has-committed;
    classes = by_area;
    lie = classes_stable v stable by_area lie;
    class = λ file page within owner. class-is file page within owner;
    owned = λ place area is within data_page whose x p some. owner-is place area is within data_page whose x p some;
  }

  pub versions-stand : VersionsStand v ledger held (first_shelf v held lines)
  versions-stand =
      let course : Course = opened base.next_tsn (line_at v.content) (λ key. line_in key base.lines) in
      record {
        course = course;
        waiting = λ member. [];
        readers = first_readers v base moment held.limits.snaps course (opens v base held.limits.snaps left facts (λ member. refl));
        slots = none-held held has.free v.content course.followed (λ file chain follows. false≢true follows);
        waits = none-waits held.members has.members (λ member. []);
        reading = λ s m lines_then at reads seat. absurd (none-reads held.members has.members s m at reads);
        only = λ s reading goes. absurd (none-some reading goes);
        used = λ s file reading start is goes seen. absurd (none-some reading goes);
        unused = λ file key owner never. never-used v.content file start.root.limits.pages (pages_of held.tables file) formed (has.tables file (area-of file key.area owner)) key owner never;
      }

  pub space-stands : SpaceStands held (first_shelf v held lines).space
  space-stands = record {
    limits = refl;
    pages = record { taken = λ file page. refl; limit = λ file. tables-long v.content start.root.limits.pages held.tables has.tables file ∙ ap (λ (l : Limits). l.pages) (sym has.limits) };
    snaps = refl;
    slots = refl;
  }

  pub lines-shown : ShowsLines v ledger (first_shelf v held lines)
  lines-shown = record { now = refl; time = refl; faults = refl; flight = λ c is. let bad : None ≡ Some c = is in absurd (cc) }

  abbrev pub first-shown : Shown v held (first_shelf v held lines)
  first-shown = record {
    tells = t;
    ledger = ledger;
    facts = were;
    limits = sym has.limits;
    lines = lines-shown;
    promised = refl;
    seats = all-sit held.members has.members v ledger (λ s. refl);
    steps = λ s. refl;
    numbers = numbers-stand;
    kept = let none = none-kept held.members has.members in let low = has.below in let same = has.written in omega (arith, none, low, same);
    tables = tables-stand;
    versions = versions-stand;
    space = space-stands;
  }
