-- A session that reads, as the steps of a copying ask it.
use Rattle.std.proofs.Common.{◌≡◌, ◌≢◌, ◌≤◌, ◌<◌, ◌%◌, ℕ, ◌⊎◌, inl, inr, List, Option, Some, None, refl, sym, ap, subst, ◌∙◌, arith}
use Rattle.std.specs.Prelude.{slice_get}
use Rattle.std.proofs.lemmas.Bool.{cases_lt}
use Rattle.rdb_types.specs.declared.keys.Dbkey.{Dbkey}
use Rattle.rdb_outside.specs.Disk.{View, LeftNow}
use Rattle.rdb_page.specs.Page.{IsOwner}
use Rattle.page_table.specs.Pages.{Pages, IsWithin, IsEverUsed, class_in, owner_in}
use Rattle.line_view.specs.declared.writes.Write.{Write}
use Rattle.line_view.specs.Knowledge.{Lines, line_in}
use Rattle.line_store.specs.Seats.{reading}
use Rattle.line_store.specs.Shelves.{Shelf, seen_by, seen_from}
use Rattle.stable_lines.specs.Slots.{IsAreaFile}
use Rattle.line_moves.proofs.Putting.{nat_cases}
use Rattle.backup_steps.specs.next_lines.Next.{AreClasses, WasUsed}
use Rattle.backup_steps.specs.reader_lines.Readers.{IsReader}
use Rattle.backup_steps.proofs.of_reader_lines.Unseen.{unseen_nowhere}
use Rattle.disk_store.specs.declared.held.Tables.{Tables}
use Rattle.disk_store.specs.declared.member.Member.{Member}
use Rattle.disk_store.specs.declared.member.MemberStage.{MemberStage}
use Rattle.disk_store.specs.declared.member.MemberStage.TheVariants as stage
use Rattle.disk_store.specs.Memory.{StoreMemory}
use Rattle.disk_store.specs.Seats.{seat_with}
use Rattle.disk_store.specs.Shown.{IsReading, Sits, SitsAs, pages_of, Shown}
use Rattle.copies_beside.specs.Read.{tables_of, IsReadBy}

-- ---- the file of an area

too_low : (area file : ℕ) → IsOwner file area → area ≢ 1 → area < 16 → ⊥
too_low area file (inl own) more few = more own.1
too_low area file (inr (inl own)) more few = let many = own.1 in omega (arith, many, few)
too_low area file (inr (inr own)) more few = let many = own.1 in omega (arith, many, few)

owner_or_none : (area : ℕ) → ((file : ℕ) × IsOwner file area) ⊎ ((file : ℕ) → IsOwner file area → ⊥)
owner_or_none area = one (nat_cases area 1)
  where
    odd_or_even : 16 ≤ area → (area % 2 ≡ 0) ⊎ (area % 2 ≢ 0) → (file : ℕ) × IsOwner file area
    odd_or_even many (inl even) = (2, inr (inl (refl, many, even)))
    odd_or_even many (inr odd) = (3, inr (inr (refl, omega (arith, many, odd), omega (arith, odd))))

    high : area ≢ 1 → (area < 16) ⊎ (16 ≤ area) → ((file : ℕ) × IsOwner file area) ⊎ ((file : ℕ) → IsOwner file area → ⊥)
    high more (inl few) = inr (λ file own. too_low area file own more few)
    high more (inr many) = inl (odd_or_even many (nat_cases (area % 2) 0))

    one : (area ≡ 1) ⊎ (area ≢ 1) → ((file : ℕ) × IsOwner file area) ⊎ ((file : ℕ) → IsOwner file area → ⊥)
    one (inl is) = inl (1, inl (refl, is))
    one (inr more) = high more (cases_lt area 16)

is_area_file : (file area : ℕ) → IsOwner file area → IsAreaFile file
is_area_file file area (inl own) = let is = own.0 in record { first = omega (arith, is); last = omega (arith, is) }
is_area_file file area (inr (inl own)) = let is = own.0 in record { first = omega (arith, is); last = omega (arith, is) }
is_area_file file area (inr (inr own)) = let is = own.0 in record { first = omega (arith, is); last = omega (arith, is) }

-- the store's table of its file
same_table : (tables : Tables) (file area : ℕ) → IsOwner file area → pages_of tables file ≡ tables_of tables file
same_table tables file area (inl own) = subst (λ (f : ℕ). pages_of tables f ≡ tables_of tables f) (sym own.0) refl
same_table tables file area (inr (inl own)) = subst (λ (f : ℕ). pages_of tables f ≡ tables_of tables f) (sym own.0) refl
same_table tables file area (inr (inr own)) = subst (λ (f : ℕ). pages_of tables f ≡ tables_of tables f) (sym own.0) refl

-- ---- the classes of pages

abbrev HasClass : (ℕ → ℕ) → ℕ → ℕ → Pages → Type 0
HasClass classes file page pages = IsWithin pages page → IsOwner file (owner_in pages page) → class_in pages page ≡ classes (owner_in pages page)

pub are_classes : (v : View) (held : StoreMemory) (h : Shelf) (shown : Shown v held h) → AreClasses (tables_of held.tables) shown.tables.classes
are_classes v held h shown file page within own =
    subst (λ (pages : Pages). HasClass shown.tables.classes file page pages) (same_table held.tables file (owner_in (tables_of held.tables file) page) own) (shown.tables.class file page) within own

-- ---- a reader

reads_at : (st : MemberStage) (ws : List Write) (start : Lines) → st ≡ stage.Reading → seat_with st ws start ≡ reading start
reads_at st ws start is = ap (λ (x : MemberStage). seat_with x ws start) is

module _ (v : View) (left : LeftNow v v.content) (held : StoreMemory) (h : Shelf) (shown : Shown v held h) (s : ℕ) (m : Member) (was : slice_get held.members s ≡ Some m) (reads : m.stage ≡ stage.Reading) where
  sat : SitsAs v shown.ledger s m (h.seat s)
  sat = subst (λ (x : Option Member). Sits v shown.ledger s x (h.seat s)) was (shown.seats s)

  abbrev start : Lines
  start = sat.start

  seat : h.seat s ≡ reading start
  seat = sat.is ∙ reads_at m.stage _ start reads

  goes : IsReading shown.versions.course s m start
  goes = shown.versions.reading s m start was reads seat

  sees : start ≡ seen_by s h
  sees = ap (λ x. seen_from x h.now) (sym seat)

  reader : IsReader v shown.ledger held.limits.snaps m.reader start
  reader = record {
    facts = shown.facts;
    course = shown.versions.course;
    versions = shown.versions.readers.versions;
    session = s;
    reading = goes.reading;
    goes = goes.goes;
    kept = sym goes.kept;
    shows = goes.lines;
  }

  has : (key : Dbkey) (image : List ℕ) → line_in key start ≡ Some image → ((file : ℕ) × IsOwner file key.area) ⊎ ((file : ℕ) → IsOwner file key.area → ⊥) → WasUsed (tables_of held.tables) key
  has key image there (inl own) = record {
    file = own.0;
    owner = own.1;
    used = subst (λ (pages : Pages). IsEverUsed pages key) (same_table held.tables own.0 key.area own.1)
        (shown.versions.used s own.0 goes.reading start (is_area_file own.0 key.area own.1) goes.goes goes.lines key image own.1 there);
  }
  has key image there (inr none) =
      let nowhere : line_in key start ≡ None = unseen_nowhere v left shown.ledger held.limits.snaps m.reader start reader key (λ place lies. none place.file lies.owner) in
      let bad : None ≡ Some image = sym nowhere ∙ there in absurd (cc)

  pub is_read : IsReadBy v shown.ledger held m (seen_by s h)
  is_read = subst (λ (lines : Lines). IsReadBy v shown.ledger held m lines) sees (record { reader = reader; ordered = goes.ordered; have = λ key image there. has key image there (owner_or_none key.area) })
