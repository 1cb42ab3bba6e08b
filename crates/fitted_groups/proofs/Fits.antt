-- Groups whose lines fit the pages of an image fit whatever a roll-forward goes by there.
use Rattle.std.proofs.Common.{◌≡◌, ℕ, suc, ◌-◌, ◌≤◌, List, [], ◌∷◌, slice_get, Option, Some, None, inl, inr, ⊎_elim, refl, sym, ◌∙◌, ap, subst, arith}
use Rattle.rdb_outside.specs.Disk.{Image}
use Rattle.rdb_page.specs.Page.{IsOwner, IsUnused, class_at}
use Rattle.rdb_page.specs.Whole.{IsUsedPage}
use Rattle.aij_journal.specs.declared.part.GroupLine.{GroupLine}
use Rattle.journal_scan.specs.declared.group.Group.{Group}
use Rattle.line_view.specs.declared.writes.Write.{Write}
use Rattle.stable_lines.specs.Slots.{area_file, owner_at}
use Rattle.stable_lines.proofs.Lists.{got_either}
use Rattle.stable_lines.proofs.Never.{zeros_owner}
use Rattle.line_moves.specs.declared.places.Place.{Place}
use Rattle.line_moves.proofs.KeyPlaces.{area_is}
use Rattle.line_moves.proofs.Reading.{owner_is}
use Rattle.rolled_lines.specs.HalfLaid.{writes_of}
use Rattle.guarded_lines.specs.Laying.{IsOfArea}
use Rattle.laid_groups.specs.Forward.{Forward, MayBePage, IsUnderWay, FitsLine, FitLines}
use Rattle.fitted_groups.specs.Meeting.{lines_among, first_there, page_in, entry_in, owner_met, class_met, owner_over, class_over, IsOfLine, TakesFirst, FitsPage, FitPages}
use Rattle.fitted_groups.proofs.Meeting.{first_is, is_among, is_write, owner_stays, class_stays}
use Rattle.fitted_groups.proofs.Firsts.{some_first, its_page}

-- ---- a page that is used has an owner

owner_some : (file area : ℕ) → IsOwner file area → 1 ≤ area
owner_some file area (inl first) = omega (arith, first.1)
owner_some file area (inr (inl second)) = omega (arith, second.1)
owner_some file area (inr (inr third)) = omega (arith, third.1)

pub used_owner : (file number : ℕ) (x : List ℕ) → IsUsedPage file number x → 1 ≤ owner_at x
used_owner file number x used = subst (λ (n : ℕ). 1 ≤ n) (sym (owner_is x used.head used.stands.head)) (owner_some file used.head.owner used.stands.owner)

-- ---- whose the page of a line is

module _ (image : Image) (forward : Forward) (pages : ℕ) (groups : List Group) (under : IsUnderWay forward image) (takes : TakesFirst image forward groups) (index : ℕ) (l : GroupLine) (got : slice_get (lines_among groups) index ≡ Some l) (it : FitsPage image pages (lines_among groups) l) where
  abbrev page : List ℕ
  page = page_in image it.place.file it.place.page

  may : MayBePage forward it.place.file it.place.page (page_in image it.place.file it.place.page)
  may = (under (area_file it.place.file) (it.place.page - 1)).page it.place.file it.place.page (area_is l.key it.place it.names) it.names.is_data refl refl

  -- one that was never used takes that of its first line
  unused_is : IsUnused (page_in image it.place.file it.place.page) → IsOfLine forward it.place.file it.place.page l
  unused_is unused =
      let first = some_first image pages (lines_among groups) index l it.place got it.names in
      let none : owner_at page ≡ 0 = zeros_owner page unused in
      let its = takes it.place.file it.place.page first.0 (area_is l.key it.place it.names) it.names.is_data unused first.1 in
      let owner : first.0.key.area ≡ l.key.area = sym (ap (λ (w : Option GroupLine). owner_met (owner_at page) w (entry_in image it.place.file it.place.page)) first.1 ∙ ap (λ (n : ℕ). owner_met n (Some first.0) (entry_in image it.place.file it.place.page)) none) ∙ it.owner in
      let class : first.0.class ≡ l.class = sym (ap (λ (w : Option GroupLine). class_met (owner_at page) w (class_at page)) first.1 ∙ ap (λ (n : ℕ). class_met n (Some first.0) (class_at page)) none) ∙ it.class in
      (its.0 ∙ owner, its.1 ∙ class)

  -- one that is used keeps its own
  used_is : 1 ≤ owner_at (page_in image it.place.file it.place.page) → IsOfArea (forward.owners it.place.file it.place.page) (forward.sizes it.place.file it.place.page) (page_in image it.place.file it.place.page) → IsOfLine forward it.place.file it.place.page l
  used_is some of = (
    sym of.owner ∙ sym (owner_stays (owner_at page) (entry_in image it.place.file it.place.page) (first_there it.place.file it.place.page (lines_among groups)) some) ∙ it.owner,
    sym of.class ∙ sym (class_stays (owner_at page) (class_at page) (first_there it.place.file it.place.page (lines_among groups)) some) ∙ it.class,
  )

  page_is : IsOfLine forward it.place.file it.place.page l
  page_is = ⊎_elim unused_is
      (λ (used : IsUsedPage it.place.file it.place.page (page_in image it.place.file it.place.page)).
      let some = used_owner it.place.file it.place.page page used in
      ⊎_elim unused_is (used_is some) may.used)
      may.page

pub fits_forward : (image : Image) (forward : Forward) (groups : List Group) → IsUnderWay forward image → TakesFirst image forward groups → forward.writes ≡ writes_of groups → FitPages image forward.pages groups
    → (i : ℕ) (g : Group) → slice_get groups i ≡ Some g → FitLines forward g.lines
fits_forward image forward groups under takes writes fit i g at j l got =
    let among = is_among groups i j g l at got in
    let it = fit among.index l among.is in
    let of = page_is image forward forward.pages groups under takes among.index l among.is it in
    record {
      place = it.place;
      names = it.names;
      within = it.within;
      line = it.line;
      owner = of.0;
      size = of.1;
      allowed = it.allowed;
      index = among.index;
      write = ap (λ (ws : List Write). slice_get ws among.index) writes ∙ is_write groups among.index l among.is;
    }

-- ---- and the other way round

-- the group that a line is of
record IsInGroup (groups : List Group) (l : GroupLine) : Type 0 where
  index : ℕ
  group : Group
  place : ℕ
  at : slice_get groups index ≡ Some group
  got : slice_get group.lines place ≡ Some l

from_among : (groups : List Group) (k : ℕ) (l : GroupLine) → slice_get (lines_among groups) k ≡ Some l → IsInGroup groups l
from_among [] k l got = let bad : None ≡ Some l = got in absurd (cc)
from_among (g ∷ gs) k l got = ⊎_elim
    (λ early. record { index = 0; group = g; place = k; at = refl; got = early })
    (λ late. let rest = from_among gs late.0 l late.2 in record { index = suc rest.index; group = rest.group; place = rest.place; at = rest.at; got = rest.got })
    (got_either g.lines (lines_among gs) k l got)

-- Groups that fit what a roll-forward goes by take first lines, and fit the pages of each image that it may meet.
module _ (forward : Forward) (groups : List Group) (fits : (i : ℕ) (g : Group) → slice_get groups i ≡ Some g → FitLines forward g.lines) where
  fits_line : (k : ℕ) (l : GroupLine) → slice_get (lines_among groups) k ≡ Some l → FitsLine forward l
  fits_line k l got = let of = from_among groups k l got in fits of.index of.group of.at of.place l of.got

  pub takes_first : (image : Image) → TakesFirst image forward groups
  takes_first image file number l area plain unused first =
      let it = first_is file number (lines_among groups) l first in
      let fit = fits_line it.index l it.is in
      let page = its_page file number l fit.place fit.names it.there in (
        ap (λ (f : ℕ). forward.owners f number) page.0 ∙ ap (λ (n : ℕ). forward.owners fit.place.file n) page.1 ∙ fit.owner,
        ap (λ (f : ℕ). forward.sizes f number) page.0 ∙ ap (λ (n : ℕ). forward.sizes fit.place.file n) page.1 ∙ fit.size,
      )

  module _ (image : Image) (under : IsUnderWay forward image) (k : ℕ) (l : GroupLine) (got : slice_get (lines_among groups) k ≡ Some l) where
    abbrev place : Place
    place = (fits_line k l got).place

    abbrev bytes : List ℕ
    bytes = page_in image (fits_line k l got).place.file (fits_line k l got).place.page

    abbrev IsMet : Type 0
    IsMet = (owner_over image (lines_among groups) (fits_line k l got).place.file (fits_line k l got).place.page ≡ l.key.area) × (class_over image (lines_among groups) (fits_line k l got).place.file (fits_line k l got).place.page ≡ l.class)

    met_unused : IsUnused (page_in image (fits_line k l got).place.file (fits_line k l got).place.page) → IsMet
    met_unused unused =
        let fit = fits_line k l got in
        let first = some_first image forward.pages (lines_among groups) k l fit.place got fit.names in
        let none : owner_at bytes ≡ 0 = zeros_owner bytes unused in
        let its = takes_first image fit.place.file fit.place.page first.0 (area_is l.key fit.place fit.names) fit.names.is_data unused first.1 in (
          ap (λ (w : Option GroupLine). owner_met (owner_at bytes) w (entry_in image fit.place.file fit.place.page)) first.1 ∙ ap (λ (n : ℕ). owner_met n (Some first.0) (entry_in image fit.place.file fit.place.page)) none ∙ sym its.0 ∙ fit.owner,
          ap (λ (w : Option GroupLine). class_met (owner_at bytes) w (class_at bytes)) first.1 ∙ ap (λ (n : ℕ). class_met n (Some first.0) (class_at bytes)) none ∙ sym its.1 ∙ fit.size,
        )

    met_used : 1 ≤ owner_at (page_in image (fits_line k l got).place.file (fits_line k l got).place.page) → IsOfArea (forward.owners (fits_line k l got).place.file (fits_line k l got).place.page) (forward.sizes (fits_line k l got).place.file (fits_line k l got).place.page) (page_in image (fits_line k l got).place.file (fits_line k l got).place.page) → IsMet
    met_used some of =
        let fit = fits_line k l got in (
          owner_stays (owner_at bytes) (entry_in image fit.place.file fit.place.page) (first_there fit.place.file fit.place.page (lines_among groups)) some ∙ of.owner ∙ fit.owner,
          class_stays (owner_at bytes) (class_at bytes) (first_there fit.place.file fit.place.page (lines_among groups)) some ∙ of.class ∙ fit.size,
        )

    met : IsMet
    met =
        let fit = fits_line k l got in
        let may : MayBePage forward fit.place.file fit.place.page (page_in image fit.place.file fit.place.page) = (under (area_file fit.place.file) (fit.place.page - 1)).page fit.place.file fit.place.page (area_is l.key fit.place fit.names) fit.names.is_data refl refl in
        ⊎_elim met_unused
        (λ (used : IsUsedPage fit.place.file fit.place.page (page_in image fit.place.file fit.place.page)). ⊎_elim met_unused (met_used (used_owner fit.place.file fit.place.page bytes used)) may.used)
        may.page

    fits_page : FitsPage image forward.pages (lines_among groups) l
    fits_page = let fit = fits_line k l got in record { place = fit.place; names = fit.names; within = fit.within; line = fit.line; owner = met.0; class = met.1; allowed = fit.allowed }

  pub fit_pages : (image : Image) → IsUnderWay forward image → FitPages image forward.pages groups
  fit_pages image under k l got = fits_page image under k l got
