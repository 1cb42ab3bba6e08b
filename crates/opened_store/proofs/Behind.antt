-- What a store shows behind the opening, in terms of the image before it.
use Rattle.std.proofs.Common.{◌≡◌, ◌≢◌, ℕ, ◌+◌, ◌-◌, ◌^◌, ◌<◌, not, Bool, true, false, List, length, Option, Some, None, is_some, IsTrue, refl, sym, ap, subst, ◌∙◌, arith}
use Rattle.std.proofs.lemmas.Bool.{true≢false}
use Rattle.rdb_types.specs.declared.file.FileId.{FileId}
use Rattle.rdb_types.specs.declared.file.FileKind.TheVariants.{Root as OfRoot, Area}
use Rattle.rdb_types.specs.declared.keys.Dbkey.{Dbkey}
use Rattle.rdb_types.specs.declared.keys.Limits.{Limits}
use Rattle.root_file.specs.declared.Root.{Root}
use Rattle.root_file.specs.Root.{IsRoot}
use Rattle.root_file.proofs.Readings.{one_root}
use Rattle.rdb_outside.specs.Disk.{Image, View, LeftNow, Pending, IsStable, OnlyReads}
use Rattle.area_files.specs.Areas.{IsPage, IsSpacePage, IsDataPage}
use Rattle.new_database.specs.Maker.{root_file}
use Rattle.line_view.specs.Knowledge.{Lines, line_in}
use Rattle.line_versions.specs.Lines.{storage_area}
use Rattle.stable_lines.specs.Slots.{area_file}
use Rattle.stable_lines.specs.Journal.{Journal, slots_in}
use Rattle.line_opening.specs.declared.groups.NextGroup.{NextGroup}
use Rattle.line_opening.specs.Passing.{IsNext}
use Rattle.line_opening.proofs.Passed.{image_same}
use Rattle.line_moves.specs.declared.places.Place.{Place}
use Rattle.line_moves.specs.Changes.{IsPlaceOf}
use Rattle.line_moves.specs.Classes.{IsClassed, HasItsClass}
use Rattle.line_moves.proofs.KeyPlaces.{file_is, area_is, some_area}
use Rattle.line_moves.proofs.Runs.{still_tells}
use Rattle.database_opening.specs.declared.start.StoreStart.{StoreStart}
use Rattle.database_opening.specs.Start.{IsStart, beginning_with}
use Rattle.database_opening.specs.Owners.{owner_said}
use Rattle.journal_anew.specs.Anew.{journal_in_use}
use Rattle.database_opening.proofs.Begun.{stable_read}
use Rattle.disk_seats.specs.Ledgers.{new_ledger}
use Rattle.disk_seats.specs.Members.{LedgerFacts}
use Rattle.member_steps.specs.Beginning.{HasCeiling}
use Rattle.member_steps.proofs.Journals.{read_ledger}
use Rattle.store_shows.specs.Rooms.{is_free}
use Rattle.store_shows.proofs.Taken.{not_free}
use Rattle.committed_lines.proofs.Nowhere.{nowhere}
use Rattle.disk_store.specs.declared.held.Tables.{Tables}
use Rattle.disk_store.specs.Memory.{StoreMemory}
use Rattle.disk_store.specs.Opening.{AreFresh, HasAllFree}
use Rattle.disk_store.specs.Shown.{pages_of, Shown}
use Rattle.opened_store.specs.Tables.{AreTablesOf}
use Rattle.opened_store.specs.Opened.{is_taken_in, BeginsFrom, LacksNumbers}
use Rattle.opened_store.proofs.Free.{none-in-use}
use Rattle.opened_store.proofs.TakenPages.{taken-there, same-said}
use Rattle.opened_store.proofs.First.{IsHeldOf, few-pages, first_shelf, first-shown, has-committed}

-- What memory was made of: the start, and the tables that were read.
pub record IsMadeOf (start : StoreStart) (tables : Tables) (held : StoreMemory) : Type 0 where
  pub limits : held.limits ≡ start.root.limits
  pub next : held.numbers.next ≡ start.next_tsn
  pub ceiling : held.numbers.ceiling ≡ start.next_tsn + 64
  pub written : held.numbers.written ≡ start.next_tsn + 64
  pub group : held.next ≡ start.next
  pub tables_are : held.tables ≡ tables
  pub members : AreFresh held.members
  pub free : HasAllFree held

-- the numbers don't suffice for what a store would begin with
pub lacks-numbers : (its : Journal) (root : Root) (start : StoreStart) → IsNext its start.next → start.root.limits ≡ root.limits → 2 ^ 62 + start.next.slot < start.next.number + start.root.limits.slots → LacksNumbers its root
lacks-numbers its root start next same few =
    let in_slot = next.in_slot in let numbered = next.numbered in let slots = ap (λ (l : Limits). l.slots) same in
    omega (arith, few, in_slot, numbered, slots)

-- a root that isn't one of a restored database
pub whole-root : (slot : List ℕ) (root other : Root) → IsRoot slot root → root.state ≡ 1 → IsRoot slot other → other.state ≢ 3
whole-root slot root other is whole its restored = let same = ap (λ (r : Root). r.state) (one_root slot root other is its) in omega (arith, same, whole, restored)

area-apart : (file : ℕ) → area_file file ≡ root_file → ⊥
area-apart file e = let kind : Area ≡ OfRoot = ap (λ (f : FileId). f.kind) e in absurd (cc)

some-line : {A : Type 0} (o : Option A) → is_some o ≡ true → (x : A) × (o ≡ Some x)
some-line (Some x) is = (x, refl)
some-line None is = absurd (cc)

-- the root was raised behind the opening, and the tables were read behind that
module _ (old mid raised v : View) (t : IsTrue old.tells) (told : mid.tells ≡ old.tells) (told_on : raised.tells ≡ mid.tells) (reads : OnlyReads raised v)
    (left : LeftNow v v.content)
    (classes : ℕ → ℕ) (lines : Lines) (before : Journal) (root : Root) (is_root : IsRoot (old.content root_file 0) root) (start : StoreStart) (begins : IsStart classes lines (journal_in_use root before) mid start)
    (limits : start.root.limits ≡ root.limits) (spaces : (file page : ℕ) → IsPage page → IsSpacePage page → mid.content (area_file file) (page - 1) ≡ old.content (area_file file) (page - 1))
    (others : (file : FileId) (slot : ℕ) → (file ≡ root_file → ⊥) → raised.content file slot ≡ mid.content file slot)
    (ledger : LedgerFacts raised (new_ledger (beginning_with classes lines (journal_in_use root before) start) raised.moment)) (ceiling : HasCeiling (Pending raised) (start.next_tsn + 64)) (stable : IsStable raised)
    (tables : Tables) (are : AreTablesOf raised.content start.root.limits.pages tables)
    (held : StoreMemory) (made : IsMadeOf start tables held) (by_area : ℕ → ℕ) (lie : IsClassed by_area mid.content) where
  abbrev journal : Journal
  journal = journal_in_use root before

  t_mid : IsTrue mid.tells
  t_mid = still_tells old mid told t

  t_raised : IsTrue raised.tells
  t_raised = still_tells mid raised told_on t_mid

  t_new : IsTrue v.tells
  t_new = still_tells raised v reads.told t_raised

  same-pages : (file slot : ℕ) → v.content (area_file file) slot ≡ mid.content (area_file file) slot
  same-pages file slot = (reads.keeps t_raised).content (area_file file) slot ∙ others (area_file file) slot (area-apart file)

  facts : LedgerFacts v (new_ledger (beginning_with classes lines journal start) raised.moment)
  facts = read_ledger raised v (new_ledger (beginning_with classes lines journal start) raised.moment) t_raised reads ledger

  lie-there : IsClassed by_area v.content
  lie-there file number is page = subst (λ (b : List ℕ). HasItsClass by_area b) (sym (same-pages file (number - 1))) (lie file number is page)

  tables-there : AreTablesOf v.content start.root.limits.pages held.tables
  tables-there = subst (λ (kept : Tables). AreTablesOf v.content start.root.limits.pages kept) (sym made.tables_are)
      (subst (λ (image : Image). AreTablesOf image start.root.limits.pages tables) (sym (image_same raised v reads t_raised)) are)

  has : IsHeldOf v journal start held
  has = record {
    limits = made.limits;
    next = made.next;
    ceiling = subst (λ (n : ℕ). HasCeiling (Pending v) n) (sym made.ceiling) (λ content other q is. ceiling content other ((reads.keeps t_raised).pending root_file 0 content q) is);
    written = made.written ∙ sym made.ceiling;
    below = let next = made.next in let at = made.ceiling in omega (arith, next, at);
    group = record { in_slot = ap (λ (n : NextGroup). n.slot) made.group ∙ begins.next.in_slot; numbered = ap (λ (n : NextGroup). n.number) made.group ∙ begins.next.numbered };
    tables = tables-there;
    members = made.members;
    free = made.free;
  }

  said : (file page : ℕ) → IsDataPage page → owner_said v.content file page ≡ owner_said old.content file page
  said = same-said old.content v.content (λ file page is space. same-pages file (page - 1) ∙ spaces file page is space)

  taken-before : (file page : ℕ) → not (is_free (pages_of held.tables file) page) ≡ true → is_taken_in old.content held.limits.pages file page ≡ true
  taken-before file page is = subst (λ (l : Limits). is_taken_in old.content l.pages file page ≡ true) (sym has.limits)
      (taken-there v.content old.content start.root.limits.pages (few-pages v left classes lines journal start raised.moment facts) held.tables tables-there said file page is)

  abbrev is-shown : Shown v held (first_shelf v held lines)
  is-shown = first-shown v t_new left (stable_read raised v reads t_raised stable) classes lines journal start raised.moment facts held has by_area lie-there

  -- a line lies on a page that is its area's
  lies : (key : Dbkey) → is_some (line_in key lines) ≡ true → is_taken_in old.content held.limits.pages (storage_area key.area) key.page ≡ true
  lies key some = by (is_taken_in old.content held.limits.pages (storage_area key.area) key.page) refl
    where
      found : (image : List ℕ) × (line_in key lines ≡ Some image)
      found = some-line (line_in key lines) some

      placed : (place : Place) → IsPlaceOf key place → is_taken_in old.content held.limits.pages (storage_area key.area) key.page ≡ true
      placed place names =
          let used = (has-committed v t_new left (stable_read raised v reads t_raised stable) classes lines journal start raised.moment facts held has by_area lie-there place.file (area_is key place names)).committed key found.0 names.owner found.1 in
          let owned = used.is_line.owner in
          let area = some_area key place names in
          subst (λ (file : ℕ). is_taken_in old.content held.limits.pages file key.page ≡ true) (file_is key place names)
          (taken-before place.file key.page (ap not (not_free (pages_of held.tables place.file) key.page (λ new. let free = new.free in omega (arith, owned, area, free)))))

      by : (b : Bool) → is_taken_in old.content held.limits.pages (storage_area key.area) key.page ≡ b → is_taken_in old.content held.limits.pages (storage_area key.area) key.page ≡ true
      by true is = is
      by false isnt =
          let none : line_in key lines ≡ None = nowhere v left (new_ledger (beginning_with classes lines journal start) raised.moment) facts key (λ place names. true≢false (sym (placed place names) ∙ isnt)) in
          absurd (true≢false (sym some ∙ ap (λ (o : Option (List ℕ)). is_some o) none))

  slots-in-use : (other : Root) → IsRoot (old.content root_file 0) other → held.next.slot - 1 ≡ length (slots_in (journal_in_use other before))
  slots-in-use other is = subst (λ (r : Root). held.next.slot - 1 ≡ length (slots_in (journal_in_use r before))) (one_root (old.content root_file 0) root other is_root is)
      (let at : held.next.slot ≡ length (slots_in journal) + 1 = has.group.in_slot in omega (arith, at))

  pub begins-from : BeginsFrom old.content lines before v held
  begins-from = record {
    shelf = first_shelf v held lines;
    shown = is-shown;
    base = refl;
    groups = λ other is. ap (λ (r : Root). journal_in_use r before) (one_root (old.content root_file 0) root other is_root is);
    now = refl;
    seats = λ s. refl;
    limits = λ other is. has.limits ∙ limits ∙ ap (λ (r : Root). r.limits) (one_root (old.content root_file 0) root other is_root is);
    taken = taken-before;
    lie = lies;
    snaps = none-in-use held has.free;
    slots = slots-in-use;
  }
