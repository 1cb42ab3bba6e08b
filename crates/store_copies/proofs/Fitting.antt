-- The lines that a session reads have their places on data pages.
use Rattle.std.proofs.Common.{◌≡◌, ◌≢◌, ◌≤◌, ◌<◌, ◌∙◌, ◌-◌, ◌%◌, ℕ, List, None, Some, inl, inr, ◌⊎◌, sym, ap, subst, arith}
use Rattle.rdb_types.specs.declared.keys.Dbkey.{Dbkey}
use Rattle.rdb_types.specs.declared.keys.Limits.{Limits}
use Rattle.rdb_outside.specs.Disk.{View, LeftNow}
use Rattle.rdb_page.specs.Page.{IsOwner, lines_of}
use Rattle.line_view.specs.Knowledge.{Lines, line_in}
use Rattle.line_store.specs.area_files.Areas.{IsDataPage}
use Rattle.line_store.specs.Shelves.{Shelf}
use Rattle.page_table.proofs.of_line_moves.Putting.{nat_cases}
use Rattle.page_table.specs.Pages.{owner_in}
use Rattle.backup_steps.specs.next_lines.partial_backup.Left.{FitOnPages}
use Rattle.backup_steps.proofs.of_reader_lines.Unseen.{unseen_nowhere}
use Rattle.copies_beside.specs.Read.{IsReadBy}
use Rattle.disk_store.specs.declared.member.Member.{Member}
use Rattle.disk_store.specs.Memory.{StoreMemory}
use Rattle.disk_store.specs.Shown.{Shown, pages_of}
use Rattle.disk_store.proofs.Tabled.{one-file}
use Rattle.disk_store.specs.Classed.{LiesClassed, LieClassed}

module _ (v : View) (left : LeftNow v v.content) (held : StoreMemory) (h : Shelf) (shown : Shown v held h) (m : Member) (lines : Lines) (read : IsReadBy v shown.ledger held m lines)
    (most : held.limits.pages ≤ 65536) (lie : LieClassed held.tables shown.tables.classes lines) where
  within : (key : Dbkey) (image : List ℕ) → line_in key lines ≡ Some image → key.page ≤ held.limits.pages
  within key image there =
      let its : LiesClassed held.tables shown.tables.classes key = lie key image there in
      let last = its.used.used.is_line.within.last in
      let long = shown.space.pages.limit its.file in
      let same = ap (λ (l : Limits). l.pages) shown.space.limits in
      omega (arith, last, long, same)

  is-data : (key : Dbkey) (image : List ℕ) → line_in key lines ≡ Some image → IsDataPage key.page
  is-data key image there = by (nat_cases ((key.page - 1) % 200) 0)
    where
      by : ((key.page - 1) % 200 ≡ 0) ⊎ ((key.page - 1) % 200 ≢ 0) → IsDataPage key.page
      by (inl space) =
          let nowhere : line_in key lines ≡ None = unseen_nowhere v left shown.ledger held.limits.snaps m.reader lines read.reader key (λ place lies. lies.is_data.plain (ap (λ (n : ℕ). (n - 1) % 200) lies.page ∙ space)) in
          let bad : None ≡ Some image = sym nowhere ∙ there in absurd (cc)
      by (inr plain) = record {
        is_page = record {
          first = let its : LiesClassed held.tables shown.tables.classes key = lie key image there in its.used.used.is_line.within.first;
          last = let last = within key image there in omega (arith, last, most);
        };
        plain = plain;
      }

  -- a line's page is its area's, in the file of that area
  owner-there : (key : Dbkey) (image : List ℕ) (file : ℕ) → line_in key lines ≡ Some image → IsOwner file key.area → owner_in (pages_of held.tables file) key.page ≡ key.area
  owner-there key image file there owner =
      let its : LiesClassed held.tables shown.tables.classes key = lie key image there in
      subst (λ (f : ℕ). owner_in (pages_of held.tables f) key.page ≡ key.area) (one-file its.file file key.area its.used.owner owner) its.used.used.is_line.owner

  pub fit : FitOnPages shown.tables.classes held.limits.pages lines
  fit = record {
    page = is-data;
    within = within;
    line = λ key image there. let its : LiesClassed held.tables shown.tables.classes key = lie key image there in subst (λ (c : ℕ). key.line < lines_of c) its.class its.used.used.is_line.line;
    area = λ key image there. let its : LiesClassed held.tables shown.tables.classes key = lie key image there in (its.file, its.used.owner);
    share = λ a b x y file of_a of_b own_a own_b page.
        sym (owner-there a x file of_a own_a) ∙ (ap (λ (n : ℕ). owner_in (pages_of held.tables file) n) page ∙ owner-there b y file of_b own_b);
  }
