-- The pages of an image that is kept: each passes its decoder, and has the owner that its space page says.
use Rattle.std.proofs.Common.{◌≡◌, ◌≤◌, ℕ, zero, suc, List, [], ◌++◌, inl, inr, ⊎_elim, sym, subst, ◌∙◌, arith}
use Rattle.rdb_outside.specs.Disk.{Image}
use Rattle.rdb_page.specs.Page.{IsOwner}
use Rattle.area_files.specs.Areas.{IsPage}
use Rattle.stable_lines.specs.Slots.{IsAreaFile, owner_at}
use Rattle.stable_lines.specs.Kept.{IsWellFormed}
use Rattle.line_moves.proofs.Reading.{owner_is}
use Rattle.rmu_texts.specs.declared.faults.VerifyFault.{VerifyFault}
use Rattle.page_faults.specs.declared.checks.PageCheck.{PageCheck}
use Rattle.page_faults.specs.declared.checks.PageCheck.TheVariants.{Decodes, Owned}
use Rattle.page_faults.specs.Checks.{page_at, IsFine}
use Rattle.page_faults.specs.Listing.{Lists, ListsAll, ListsPages}
use Rattle.page_faults.proofs.Listed.{apart}
use Rattle.lines_at_rest.specs.Left.{AllPass}
use Rattle.rmu_verify.specs.Verified.{AllOwned}

-- ---- where each page is fine nothing is listed

abbrev AllFine : Image → PageCheck → Type 0
AllFine image asked = (file page : ℕ) → IsAreaFile file → IsPage page → IsFine image asked file page

none_to : (image : Image) (asked : PageCheck) (file last : ℕ) (listed : List VerifyFault) → ((page : ℕ) → 1 ≤ page → page ≤ last → IsFine image asked file page) → Lists image asked file last listed → listed ≡ []
unfolding Lists
none_to image asked file zero listed fine are = are
none_to image asked file (suc last) listed fine are = ⊎_elim
    (λ found. absurd (apart image asked file (suc last) found.2 (fine (suc last) (omega arith) (omega arith))))
    (λ rest. none_to image asked file last listed (λ page first within. fine page first (omega (arith, within))) rest.1)
    are

none_in : (image : Image) (asked : PageCheck) (file : ℕ) (listed : List VerifyFault) → AllFine image asked → IsAreaFile file → Lists image asked file 65536 listed → listed ≡ []
none_in image asked file listed fine is_file = none_to image asked file 65536 listed (λ page first last. fine file page is_file (record { first = first; last = last }))

none_of_all : (image : Image) (asked : PageCheck) (listed : List VerifyFault) → AllFine image asked → ListsAll image asked listed → listed ≡ []
none_of_all image asked listed fine lists =
    let c = none_in image asked 1 lists.catalog fine (record { first = omega arith; last = omega arith }) lists.first in
    let r = none_in image asked 2 lists.relations fine (record { first = omega arith; last = omega arith }) lists.second in
    let x = none_in image asked 3 lists.indexes fine (record { first = omega arith; last = omega arith }) lists.third in
    lists.are ∙ (λ i. (c i ++ r i) ++ x i)

-- ---- an image whose pages are well formed

some_owner : (file owner : ℕ) → IsOwner file owner → 1 ≤ owner
some_owner file owner (inl is) = let at = is.1 in omega (arith, at)
some_owner file owner (inr (inl is)) = let low = is.1 in omega (arith, low)
some_owner file owner (inr (inr is)) = let low = is.1 in omega (arith, low)

module _ (image : Image) (pages : ℕ) (formed : IsWellFormed image pages) where
  pub all_pass : AllPass image
  all_pass file page is_file is_page = record {
    space = λ is. formed.space file page is_file is_page is;
    plain = λ isnt. formed.page file page is_file (record { is_page = is_page; plain = isnt });
  }

  all_owned : AllOwned image
  all_owned file page is_file is_page isnt used space =
      let is : owner_at (page_at image file page) ≡ used.head.owner = owner_is (page_at image file page) used.head used.stands.head in
      formed.owner file page is_file (record { is_page = is_page; plain = isnt }) (subst (λ (n : ℕ). 1 ≤ n) (sym is) (some_owner file used.head.owner used.stands.owner)) ∙ is

  pub none_fails : (listed : List VerifyFault) → ListsAll image Decodes listed → listed ≡ []
  none_fails listed = none_of_all image Decodes listed all_pass

  pub none_differs : (listed : List VerifyFault) → ListsAll image Owned listed → listed ≡ []
  none_differs listed = none_of_all image Owned listed all_owned

  pub no_page : (listed : List VerifyFault) → ListsPages image listed → listed ≡ []
  no_page listed lists =
      let fails = none_fails lists.pages lists.decodes in
      let differs = none_differs lists.owners lists.owned in
      lists.are ∙ (λ i. fails i ++ differs i)
