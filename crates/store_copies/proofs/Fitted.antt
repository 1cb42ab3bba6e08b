-- The lines that are committed when a session begins to read fit a backup.
use Rattle.std.proofs.Common.{◌≡◌, ◌≤◌, ℕ, List, length, Some, sym, ap, ◌∙◌, arith}
use Rattle.std.specs.Prelude.{slice_get}
use Rattle.rdb_types.specs.declared.keys.Dbkey.{Dbkey}
use Rattle.rdb_types.specs.declared.keys.Limits.{Limits}
use Rattle.rdb_outside.specs.Disk.{View, LeftNow}
use Rattle.root_file.specs.Root.{AreLimits}
use Rattle.line_view.specs.Knowledge.{Lines, line_in}
use Rattle.line_store.specs.Seats.{reading}
use Rattle.line_store.specs.Shelves.{Shelf}
use Rattle.member_steps.specs.disk_seats.Ledgers.{progress_of}
use Rattle.member_steps.proofs.Standings.{same_lines}
use Rattle.copies_beside.specs.Read.{IsReadBy}
use Rattle.copies_beside.proofs.Readers.{are_classes}
use Rattle.disk_store.specs.declared.member.Member.{Member}
use Rattle.disk_store.specs.declared.member.MemberStage.TheVariants as stage
use Rattle.disk_store.specs.Classed.{LiesClassed, LieClassed}
use Rattle.disk_store.specs.Memory.{StoreMemory}
use Rattle.disk_store.specs.Shown.{pages_of, Shown}
use Rattle.store_copies.specs.Shown.{IsFit}
use Rattle.store_copies.proofs.Committed.{IsOfClass, committed-fits}
use Rattle.store_copies.proofs.Few.{few-lines}
use Rattle.store_copies.proofs.Fitting.{fit}
use Rattle.store_copies.proofs.Keeping.{begin}
use Rattle.store_copies.proofs.Working.{is-read-from}

module _ (v : View) (left : LeftNow v v.content) (held : StoreMemory) (h : Shelf) (shown : Shown v held h) (s : ℕ) (m : Member) (was : slice_get held.members s ≡ Some m) (reads : m.stage ≡ stage.Reading)
    (limited : AreLimits held.limits) (start : Lines) (seat : h.seat s ≡ reading start) (same : start ≡ shown.ledger.base.lines) where
  read : IsReadBy v shown.ledger held m start
  read = is-read-from v held h shown s m was reads start seat left

  lie : LieClassed held.tables shown.tables.classes start
  lie = begin held.tables shown.tables.classes start read.have (are_classes v held h shown)

  of-class : (key : Dbkey) (image : List ℕ) → line_in key start ≡ Some image → IsOfClass (shown.tables.classes key.area) image
  of-class key image there = committed-fits v left (progress_of shown.ledger) shown.facts.facts shown.tables.classes shown.tables.lie key image
      (ap (λ (lines : Lines). line_in key lines) (same_lines v shown.ledger shown.facts ∙ sym same) ∙ there)

  long : (file : ℕ) → length (pages_of held.tables file) ≤ 65536
  long file =
      let limit = shown.space.pages.limit file in
      let pages = ap (λ (l : Limits). l.pages) shown.space.limits in
      let most = limited.pages.1 in
      omega (arith, limit, pages, most)

  few : length start ≤ 1048576
  few = few-lines held.tables start read.ordered long (λ key image there. let its : LiesClassed held.tables shown.tables.classes key = lie key image there in (its.file, its.used))

  pub fit-now : IsFit held.tables held.limits shown.tables.classes start
  fit-now = record {
    ordered = read.ordered;
    lie = lie;
    class = λ key image there. (of-class key image there).is;
    image = λ key image there. (of-class key image there).fits;
    few = let most = few in omega (arith, most);
    limited = limited;
    pages = fit v left held h shown m start read limited.pages.1 lie;
  }
