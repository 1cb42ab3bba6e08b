-- The least page is taken out of those that are left.
use Rattle.std.proofs.Common.{◌≡◌, ◌==◌, ◌&&◌, nat_le, true, false, ⊎_elim, refl, sym, ap, subst, ◌∙◌, arith}
use Rattle.std.proofs.lemmas.Bool.{and_parts, and_from, eqb-true, eq-eqb, le-leb}
use Rattle.std.specs.declared.cmp.Ordering.{Ordering}
use Rattle.std.specs.declared.cmp.Ordering.TheVariants.{Less, Equal, Greater}
use Rattle.std.specs.Ordering.{is_eq, is_gt}
use Rattle.std.specs.BTreeSet.{BTreeSet, contains, Updates, IsLowerBound}
use Rattle.rdb_types.specs.declared.keys.Dbkey.{Dbkey}
use Rattle.rdb_outside.specs.Disk.{Image, View}
use Rattle.backup_making.specs.declared.making.Backup.{Backup}
use Rattle.backup_making.specs.Making.{Former}
use Rattle.backup_file.specs.Whole.{lines_in}
use Rattle.stable_lines.specs.Progress.{Progress}
use Rattle.used_pages.specs.declared.pages.AreaPage.{AreaPage}
use Rattle.used_pages.specs.Pages.{page_order, has}
use Rattle.used_pages.proofs.Sets.{same_page, was_there, was_it}
use Rattle.copied_lines.specs.Holding.{page_of, is_on, on_pages, from_line, AreBehind}
use Rattle.copied_lines.specs.Copying.{Copying}
use Rattle.copied_lines.proofs.Holding.{passed}
use Rattle.copied_lines.proofs.Orders.{either, neither}

module _ (old new : BTreeSet AreaPage) (page : AreaPage) (updates : Updates page_order old new page false) (least : IsLowerBound page_order old page) where
  gone : contains page_order new page ≡ false
  gone = updates.1

  not_greater : (o : Ordering) → is_gt o ≡ false → (is_eq o ≡ true → ⊥) → o ≡ Less
  not_greater Less is nay = refl
  not_greater Equal is nay = absurd (nay refl)
  not_greater Greater is nay = cc

  pub all_behind : AreBehind page (contains page_order new)
  all_behind other is = not_greater (page_order page other) (least other (was_there old new page updates other is))
      (λ same. let there : has new page = subst (has new) (same_page page other same) is in let bad : true ≡ false = sym there ∙ gone in let nay : ⊥ = cc in nay)

  on_it : (q : Dbkey) → page_of q ≡ page → is_on page q ≡ true
  on_it q same = and_from (q.area == page.area) (q.page == page.page) (eq-eqb q.area page.area (ap (λ (p : AreaPage). p.area) same)) (eq-eqb q.page page.page (ap (λ (p : AreaPage). p.page) same))

  its_page : (q : Dbkey) → is_on page q ≡ true → page_of q ≡ page
  its_page q on = let both = and_parts (q.area == page.area) (q.page == page.page) on in
      let area : q.area ≡ page.area = eqb-true q.area page.area both.0 in
      let number : q.page ≡ page.page = eqb-true q.page page.page both.1 in
      λ i. record { area = area i; page = number i }

  module _ (member : has old page) where
    still_left : (q : Dbkey) → from_line (contains page_order new) page 0 q ≡ true → on_pages (contains page_order old) q ≡ true
    still_left q so = ⊎_elim (λ is. was_there old new page updates (page_of q) is)
        (λ is. subst (has old) (sym (its_page q (and_parts (is_on page q) (nat_le 0 q.line) is).0)) member)
        (either (contains page_order new (page_of q)) (is_on page q && nat_le 0 q.line) so)

    none_passed : (q : Dbkey) → on_pages (contains page_order old) q ≡ true → from_line (contains page_order new) page 0 q ≡ false → ⊥
    none_passed q so nay =
        let parts = neither (contains page_order new (page_of q)) (is_on page q && nat_le 0 q.line) nay in
        let same : page_of q ≡ page = was_it old new page updates (page_of q) parts.0 so in
        let bad : true ≡ false = sym (and_from (is_on page q) (nat_le 0 q.line) (on_it q same) (le-leb 0 q.line (omega arith))) ∙ parts.1 in let never : ⊥ = cc in never

    -- all of it is left
    pub popped : (former : Former) (image : Image) (now : Progress) (v : View) (b : Backup) → Copying former image now (on_pages (contains page_order old)) v b → Copying former image now (from_line (contains page_order new) page 0) v b
    popped former image now v b was = record {
      lines = was.lines;
      at = was.at;
      holds = passed image (on_pages (contains page_order old)) (from_line (contains page_order new) page 0) (lines_in was.lines) was.holds still_left (λ q so nay. absurd (none_passed q so nay));
      on_pages = was.on_pages;
      facts = was.facts;
      same = was.same;
      whole = was.whole;
    }
