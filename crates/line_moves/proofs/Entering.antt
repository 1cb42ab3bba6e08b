-- A page gets its owner on its space page.
use Rattle.std.proofs.Common.{◌≡◌, ℕ, ◌-◌, ◌%◌, ◌≤◌, List, inr, ⊎_elim, sym, subst, ◌∙◌, arith}
use Rattle.line_store.specs.area_files.Areas.{IsPage, IsDataPage, IsSpacePage, space_page_of}
use Rattle.stable_lines.specs.space_pages.Space.{IsSpace, IsWritten, IsBeside, owner_of}
use Rattle.stable_lines.specs.Slots.{area_file, owner_at, IsAreaFile}
use Rattle.stable_lines.specs.Progress.{Progress}
use Rattle.stable_lines.specs.Facts.{PendingContents, More, Facts}
use Rattle.stable_lines.proofs.SpaceWrite.{space_written}
use Rattle.line_moves.proofs.Putting.{nat_cases}

-- what was said of the other pages stays
pub record SetsOwner (page area : ℕ) (old new : List ℕ) : Type 0 where
  pub here : owner_of page new ≡ area
  pub others : (other : ℕ) → IsBeside page other → owner_of other new ≡ owner_of other old
  pub kept : IsSpace old (space_page_of page) → IsWritten new (space_page_of page)

space_first : (page : ℕ) → 1 ≤ page → 1 ≤ space_page_of page
space_first page first = omega arith

space_last : (page last : ℕ) → page ≤ last → space_page_of page ≤ last
space_last page last le = omega arith

is_space : (page : ℕ) → 1 ≤ page → (space_page_of page - 1) % 200 ≡ 0
is_space page first = omega arith

-- the space page of a data page is one
pub space_there : (P : PendingContents) (now : Progress) (file page : ℕ) (old : List ℕ) → IsAreaFile file → IsDataPage page → Facts P now → P (area_file file) (space_page_of page - 1) old → IsSpace old (space_page_of page)
space_there P now file page old file_is plain was pending = was.pages.space file (space_page_of page) old file_is (record { first = space_first page plain.is_page.first; last = space_last page 65536 plain.is_page.last }) (is_space page plain.is_page.first) pending

pub space_behind : (number : ℕ) (bytes : List ℕ) → IsSpacePage number → IsWritten bytes number → IsSpace bytes number
space_behind number bytes page is = record { page = page; bytes = inr is }

module _ (P Q : PendingContents) (now : Progress) (file page area : ℕ) (old new : List ℕ) (file_is : IsAreaFile file) (plain : IsDataPage page) (more : More Q P (area_file file) (space_page_of page - 1) new) (was : Facts P now)
    (pending : P (area_file file) (space_page_of page - 1) old) (sets : SetsOwner page area old new) (own : (x : List ℕ) → P (area_file file) (page - 1) x → 1 ≤ owner_at x → owner_at x ≡ area) (within : page ≤ now.limits.pages) where
  is_page : IsPage (space_page_of page)
  is_page = record { first = space_first page plain.is_page.first; last = space_last page 65536 plain.is_page.last }

  was_space : IsSpace old (space_page_of page)
  was_space = was.pages.space file (space_page_of page) old file_is is_page (is_space page plain.is_page.first) pending

  owners : (p : ℕ) (x : List ℕ) → IsDataPage p → space_page_of p ≡ space_page_of page → P (area_file file) (p - 1) x → 1 ≤ owner_at x → owner_of p new ≡ owner_at x
  owners p x data_page same there owned = ⊎_elim
      (λ here. let at = subst (λ (n : ℕ). P (area_file file) (n - 1) x) here there in subst (λ (n : ℕ). owner_of n new ≡ owner_at x) (sym here) (sets.here ∙ sym (own x at owned)))
      (λ apart. sets.others p (record { is_page = data_page; same = same; apart = apart }) ∙ was.pages.owner file p x old file_is data_page there owned (subst (λ (n : ℕ). P (area_file file) (n - 1) old) (sym same) pending))
      (nat_cases p page)

  pub enters : Facts Q now
  enters = space_written P Q now file (space_page_of page) new more file_is (record {
    is = record { page = is_space page plain.is_page.first; bytes = inr (sets.kept was_space) };
    page = is_page;
    within = space_last page now.limits.pages within;
    owners = owners;
    old = old;
    pending = pending;
  }) was
