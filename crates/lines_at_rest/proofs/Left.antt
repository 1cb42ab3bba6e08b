-- A page that is read, and what it leaves.
use Rattle.std.proofs.Common.{◌≡◌, ℕ, ◌+◌, ◌-◌, ◌≤◌, Bool, true, false, List, ◌⊎◌, inl, inr, refl, sym, ap, subst, ◌∙◌, arith}
use Rattle.rdb_types.specs.declared.keys.Dbkey.{Dbkey}
use Rattle.rdb_outside.specs.Disk.{Image}
use Rattle.journal_scan.specs.declared.group.Group.{Group}
use Rattle.rdb_page.specs.Page.{IsOwner, IsUnused}
use Rattle.rdb_page.specs.Lines.{never}
use Rattle.area_files.specs.Areas.{IsPage}
use Rattle.line_view.specs.Knowledge.{Lines}
use Rattle.stable_lines.specs.Slots.{IsAreaFile, area_file, owner_at, has_place, line_on}
use Rattle.line_moves.proofs.Putting.{place_says}
use Rattle.line_moves.proofs.Reading.{line_none}
use Rattle.page_faults.specs.Checks.{page_at, Passes}
use Rattle.before_images.specs.declared.lines.OpenTransaction.{OpenTransaction}
use Rattle.before_images.specs.Before.{LaysLines}
use Rattle.lines_at_rest.specs.declared.reading.FaultyPages.{FaultyPages}
use Rattle.lines_at_rest.specs.declared.reading.FaultyPages.TheVariants.{Refused, LeftOut}
use Rattle.lines_at_rest.specs.Area.{HoldsTo}
use Rattle.lines_at_rest.specs.Left.{IsLeftOf, LeavesOut, IsReadAs}
use Rattle.lines_at_rest.proofs.Pages.{isnt, unused_there, none_there}

pub file_of_owner : (file area : ℕ) → IsOwner file area → IsAreaFile file
file_of_owner file area (inl is) = let at = is.0 in record { first = omega (arith, at); last = omega (arith, at) }
file_of_owner file area (inr (inl is)) = let at = is.0 in record { first = omega (arith, at); last = omega (arith, at) }
file_of_owner file area (inr (inr is)) = let at = is.0 in record { first = omega (arith, at); last = omega (arith, at) }

-- ---- pages that were never used

unused_left : (file page : ℕ) (bytes left : List ℕ) → IsUnused bytes → IsLeftOf file page bytes left → IsUnused left
unused_left file page bytes left unused (inl kept) = subst IsUnused (sym kept.1) unused
unused_left file page bytes left unused (inr out) = out.1

pub read_unused : (faulty : FaultyPages) (image left : Image) (file page : ℕ) → IsReadAs faulty image left → IsAreaFile file → IsPage page → IsUnused (page_at image file page) → IsUnused (page_at left file page)
read_unused Refused image left file page so is_file is_page unused = subst (λ (m : Image). IsUnused (page_at m file page)) (sym so) unused
read_unused LeftOut image left file page so is_file is_page unused = unused_left file page (page_at image file page) (page_at left file page) unused (so.pages file page is_file is_page)

-- ---- one page

another : (key : Dbkey) (page : List ℕ) → (owner_at page ≡ key.area → ⊥) → line_on key page ≡ never
another key page off = line_none key page (isnt (has_place key page) (λ has. off (place_says key page has).owned))

module _ (before : List OpenTransaction) (page : List ℕ) (file area number : ℕ) (old new : Lines) where
  -- the page's lines were added, if it is the one that stands
  abbrev pub AddsPage : Type 0
  AddsPage = (image : Image) (groups : List Group) → LaysLines image groups before → IsOwner file area → page ≡ image (area_file file) (number - 1) → HoldsTo image before area number 0 old → HoldsTo image before area (number + 1) 0 new

  -- if it is what is left of it
  abbrev pub AddsLeft : Type 0
  AddsLeft = (left : Image) (groups : List Group) → LaysLines left groups before → IsOwner file area → IsLeftOf file number page (page_at left file number) → HoldsTo left before area number 0 old → HoldsTo left before area (number + 1) 0 new

  -- if it is read so
  abbrev pub AddsRead : FaultyPages → Type 0
  AddsRead faulty = (image left : Image) → page ≡ page_at image file number → IsReadAs faulty image left → (groups : List Group) → LaysLines left groups before → IsOwner file area → HoldsTo left before area number 0 old → HoldsTo left before area (number + 1) 0 new

  pub adds_refused : AddsPage → AddsRead Refused
  adds_refused adds image left there so groups lays owner was = adds left groups lays owner (there ∙ (λ i. page_at (sym so i) file number)) was

  pub adds_left : IsPage number → AddsLeft → AddsRead LeftOut
  adds_left is_page adds image left there so groups lays owner was =
      adds left groups lays owner (subst (λ (bytes : List ℕ). IsLeftOf file number bytes (page_at left file number)) (sym there) (so.pages file number (file_of_owner file area owner) is_page)) was

  -- a page that passes is left
  pub passing_left : Passes file number page → (left : Image) → IsLeftOf file number page (page_at left file number) → page ≡ left (area_file file) (number - 1)
  passing_left passes left (inl kept) = sym kept.1
  passing_left passes left (inr out) = absurd (out.0 passes)

  pub adds_passing : Passes file number page → AddsPage → AddsLeft
  adds_passing passes adds left groups lays owner is was = adds left groups lays owner (passing_left passes left is) was

-- a page of another area, or one that fails, leaves no line of the area
module _ (file area number : ℕ) (page left : List ℕ) (off : (owner_at page ≡ area → ⊥) ⊎ (Passes file number page → ⊥)) (key : Dbkey) (own : key.area ≡ area) where
  pub nothing_left : IsLeftOf file number page left → line_on key left ≡ never
  nothing_left (inr out) = unused_there key left out.1
  nothing_left (inl kept) = by off
    where
      by : (owner_at page ≡ area → ⊥) ⊎ (Passes file number page → ⊥) → line_on key left ≡ never
      by (inl other) = subst (λ (bytes : List ℕ). line_on key bytes ≡ never) (sym kept.1) (another key page (λ same. other (same ∙ own)))
      by (inr fails) = absurd (fails kept.0)

pub adds_nothing : (before : List OpenTransaction) (page : List ℕ) (file area number : ℕ) (found : Lines) → (owner_at page ≡ area → ⊥) ⊎ (Passes file number page → ⊥) → AddsLeft before page file area number found found
adds_nothing before page file area number found off left groups lays owner is was =
    none_there left groups before file area number (page_at left file number) found lays owner refl (λ key own. nothing_left file area number page (page_at left file number) off key own is) was
