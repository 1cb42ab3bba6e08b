-- A table behind a write.
use Rattle.std.proofs.Common.{◌≡◌, ◌≢◌, ℕ, ◌-◌, ◌≤◌, List, inl, inr, ⊎_elim, ap, sym, subst, ◌∙◌, refl, arith}
use Rattle.rdb_outside.specs.Disk.{Image}
use Rattle.rdb_page.specs.Page.{IsUnused}
use Rattle.area_files.specs.Areas.{IsDataPage, IsSpacePage, space_page_of}
use Rattle.space_pages.specs.Space.{owner_of}
use Rattle.database_opening.specs.stable_lines.Slots.{area_file}
use Rattle.database_opening.specs.Owners.{owner_said}
use Rattle.database_opening.proofs.of_line_moves.PageWrite.{space_apart}
use Rattle.database_opening.proofs.of_line_moves.Putting.{nat_cases}
use Rattle.page_table.specs.declared.uses.PageUse.{PageUse}
use Rattle.page_table.specs.Pages.{Pages, use_of, Puts}
use Rattle.page_table.specs.Reading.{SaysUse, IsEntryOf, IsTableOf}
use Rattle.page_table.proofs.Said.{unused_says}

-- an entry of the same owner, the same bytes and the same use
same_entry : (o p page : ℕ) (x y : List ℕ) (a b : PageUse) → p ≡ o → y ≡ x → b ≡ a → IsEntryOf o page x a → IsEntryOf p page y b
same_entry o p page x y a b owner bytes usage was = subst (λ (n : ℕ). IsEntryOf n page y b) (sym owner) (subst (λ (z : List ℕ). IsEntryOf o page z b) (sym bytes) (subst (λ (u : PageUse). IsEntryOf o page x u) (sym usage) was))

slots_apart : (p page : ℕ) → IsDataPage p → IsDataPage page → p ≢ page → p - 1 ≢ page - 1
slots_apart p page a b apart same = let pf = a.is_page.first in let qf = b.is_page.first in apart (omega (arith, same, pf, qf))

space_not : (p page : ℕ) → IsDataPage page → 1 ≤ p → space_page_of p - 1 ≢ page - 1
space_not p page plain first same = space_apart p page plain.is_page.first plain.plain same first

module _ (old new : Image) (file pages page : ℕ) (table : Pages) (was : IsTableOf old file pages table) (plain : IsDataPage page) where
  pub page_kept : (used : PageUse) (kept : Pages) → ((slot : ℕ) → slot ≢ page - 1 → new (area_file file) slot ≡ old (area_file file) slot) → 1 ≤ owner_said new file page
      → SaysUse page (new (area_file file) (page - 1)) used → Puts page used table kept → IsTableOf new file pages kept
  page_kept used kept beside owned says puts = record {
    long = puts.long ∙ was.long;
    page = λ p data_page le. ⊎_elim
        (λ (here : p ≡ page). subst (λ (n : ℕ). IsEntryOf (owner_said new file n) n (new (area_file file) (n - 1)) (use_of kept n)) (sym here) (inr (owned, subst (λ (u : PageUse). SaysUse page (new (area_file file) (page - 1)) u) (sym puts.here) says)))
        (λ away. same_entry (owner_said old file p) (owner_said new file p) p (old (area_file file) (p - 1)) (new (area_file file) (p - 1)) (use_of table p) (use_of kept p)
        (ap (λ (z : List ℕ). owner_of p z) (beside (space_page_of p - 1) (space_not p page plain data_page.is_page.first)))
        (beside (p - 1) (slots_apart p page data_page plain away)) (puts.others p data_page.is_page.first away) (was.page p data_page le))
        (nat_cases p page);
    space = λ p is_page is_space le. puts.others p is_page.first (λ same. plain.plain (subst (λ (n : ℕ). IsSpacePage n) same is_space)) ∙ was.space p is_page is_space le;
  }

  pub owner_kept : ((slot : ℕ) → slot ≢ space_page_of page - 1 → new (area_file file) slot ≡ old (area_file file) slot) → ((other : ℕ) → IsDataPage other → other ≢ page → owner_said new file other ≡ owner_said old file other)
      → (owner_said old file page ≡ 0 → IsUnused (old (area_file file) (page - 1))) → 1 ≤ owner_said new file page → IsTableOf new file pages table
  owner_kept beside owners unused owned = record {
    long = was.long;
    page = λ p data_page le. ⊎_elim
        (λ (here : p ≡ page). subst (λ (n : ℕ). IsEntryOf (owner_said new file n) n (new (area_file file) (n - 1)) (use_of table n)) (sym here)
        (subst (λ (z : List ℕ). IsEntryOf (owner_said new file page) page z (use_of table page)) (sym (bytes page plain)) (entered (was.page page plain (subst (λ (n : ℕ). n ≤ pages) here le)))))
        (λ away. same_entry (owner_said old file p) (owner_said new file p) p (old (area_file file) (p - 1)) (new (area_file file) (p - 1)) (use_of table p) (use_of table p) (owners p data_page away) (bytes p data_page) refl (was.page p data_page le))
        (nat_cases p page);
    space = was.space;
  }
    where
      bytes : (p : ℕ) → IsDataPage p → new (area_file file) (p - 1) ≡ old (area_file file) (p - 1)
      bytes p data_page = beside (p - 1) (λ same. space_not page p data_page plain.is_page.first (sym same))

      entered : IsEntryOf (owner_said old file page) page (old (area_file file) (page - 1)) (use_of table page) → IsEntryOf (owner_said new file page) page (old (area_file file) (page - 1)) (use_of table page)
      entered (inl nobody) = inr (owned, subst (λ (u : PageUse). SaysUse page (old (area_file file) (page - 1)) u) (sym nobody.1) (unused_says page (old (area_file file) (page - 1)) (unused nobody.0)))
      entered (inr says) = inr (owned, says.1)
