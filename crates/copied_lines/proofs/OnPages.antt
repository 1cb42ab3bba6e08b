-- What a page says of its lines.
use Rattle.std.proofs.Common.{◌≡◌, ◌≢◌, ℕ, ◌-◌, ◌≤◌, Bool, false, List, None, inl, inr, refl, sym, ap, subst, ◌∙◌, arith}
use Rattle.rdb_types.specs.declared.keys.Dbkey.{Dbkey}
use Rattle.rdb_types.specs.declared.keys.Line.{Line}
use Rattle.rdb_outside.specs.Disk.{Image}
use Rattle.rdb_page.specs.declared.head.Head.{Head}
use Rattle.rdb_page.specs.Page.{IsOwner, IsHead, IsUnused, lines_of, class_at}
use Rattle.rdb_page.specs.Lines.{IsLine, never}
use Rattle.line_versions.specs.Lines.{shown, storage_area}
use Rattle.stable_lines.specs.Slots.{area_file, IsAreaFile, line_on, line_at}
use Rattle.stable_lines.proofs.Never.{nothing_on, zeros_owner}
use Rattle.line_moves.specs.declared.places.Place.{Place}
use Rattle.line_moves.specs.Changes.{IsPlaceOf}
use Rattle.line_moves.proofs.KeyPlaces.{file_is}
use Rattle.line_moves.proofs.Reading.{class_is, line_is}
use Rattle.line_moves.proofs.Spots.{place_has, never_of_another, never_past}
use Rattle.used_pages.specs.declared.pages.AreaPage.{AreaPage}
use Rattle.used_pages.specs.Pages.{bytes_at}
use Rattle.copied_lines.specs.Holding.{Holds, on_pages, from_line}
use Rattle.copied_lines.specs.Copying.{IsLineAt, page_named}
use Rattle.copied_lines.proofs.Holding.{passed}
use Rattle.copied_lines.proofs.Orders.{here, pages_left, rest_of_page}

pub file_of_owner : (file area : ℕ) → IsOwner file area → IsAreaFile file
file_of_owner file area (inl is) = let at = is.0 in record { first = omega (arith, at); last = omega (arith, at) }
file_of_owner file area (inr (inl is)) = let at = is.0 in record { first = omega (arith, at); last = omega (arith, at) }
file_of_owner file area (inr (inr is)) = let at = is.0 in record { first = omega (arith, at); last = omega (arith, at) }

-- the file of an area
pub file_of_area : (file area : ℕ) → IsOwner file area → file ≡ storage_area area
file_of_area file area owner = file_is (record { area = area; page = 2; line = 0 }) (record { file = file; page = 2 })
    (record { owner = owner; page = refl; is_data = record { is_page = record { first = omega arith; last = omega arith }; plain = λ is. let bad : 1 ≡ 0 = is in omega (arith, bad) } })

-- the bytes of a page of the area's file are those of the page of its lines
pub stands_there : (image : Image) (file : ℕ) (key : Dbkey) → IsOwner file key.area → line_at image key ≡ line_on key (bytes_at image file key.page)
stands_there image file key owner = ap (λ (f : ℕ). line_on key (image (area_file f) (key.page - 1))) (sym (file_of_area file key.area owner))

-- a line of a page
pub line_here : (image : Image) (file : ℕ) (head : Head) (line : ℕ) (stood : Line) → IsLineAt image file head line stood → line_at image (here (λ p. false) (page_named head) line) ≡ stood
line_here image file head line stood at =
    let key = here (λ p. false) (page_named head) line in
    let bytes = bytes_at image file head.page in
    let place : Place = record { file = file; page = head.page } in
    let names : IsPlaceOf key place = record { owner = at.stands.owner; page = refl; is_data = at.is_data } in
    let class : class_at bytes ≡ head.class = class_is bytes head at.stands.head in
    stands_there image file key at.stands.owner
    ∙ line_is key bytes stood (place_has key place bytes head names at.stands.head refl at.within) (subst (λ (c : ℕ). IsLine bytes c line stood) (sym class) at.is)

-- ---- lines of a page that aren't there

module _ (image : Image) (file : ℕ) (key : Dbkey) (owner : IsOwner file key.area) where
  abbrev its_bytes : List ℕ
  its_bytes = bytes_at image file key.page

  none_shown : line_on key its_bytes ≡ never → shown (line_at image key) ≡ None
  none_shown is = ap shown (stands_there image file key owner ∙ is)

  pub unused_page : IsUnused its_bytes → shown (line_at image key) ≡ None
  unused_page unused = none_shown (nothing_on key its_bytes (zeros_owner its_bytes unused))

  pub page_of_another : (head : Head) → IsHead its_bytes head → head.owner ≢ key.area → shown (line_at image key) ≡ None
  page_of_another head is apart = none_shown (never_of_another key its_bytes head is apart)

  pub line_past : (head : Head) → IsHead its_bytes head → lines_of head.class ≤ key.line → shown (line_at image key) ≡ None
  line_past head is past = none_shown (never_past key its_bytes head is past)

-- ---- a page none of whose lines is left to be found

module _ (image : Image) (file : ℕ) (left : AreaPage → Bool) (page : AreaPage) (owner : IsOwner file page.area) where
  -- what is left of it isn't there
  pub page_ends : (line : ℕ) (found : List (Dbkey × List ℕ)) → ((key : Dbkey) → key.area ≡ page.area → key.page ≡ page.page → line ≤ key.line → shown (line_at image key) ≡ None) → Holds image (from_line left page line) found → Holds image (on_pages left) found
  page_ends line found none was = passed image (from_line left page line) (on_pages left) found was (λ q so. pages_left left page line q so)
      (λ q so nay. let rest = rest_of_page left page line q so nay in none q rest.0 rest.1 rest.2)

  -- the bytes of the page at a key of it
  at_key : (P : List ℕ → Type 0) (key : Dbkey) → key.page ≡ page.page → P (bytes_at image file page.page) → P (bytes_at image file key.page)
  at_key P key at is = subst (λ (n : ℕ). P (bytes_at image file n)) (sym at) is

  owner_at_key : (key : Dbkey) → key.area ≡ page.area → IsOwner file key.area
  owner_at_key key own = subst (λ (a : ℕ). IsOwner file a) (sym own) owner

  pub unused_ends : (found : List (Dbkey × List ℕ)) → IsUnused (bytes_at image file page.page) → Holds image (from_line left page 0) found → Holds image (on_pages left) found
  unused_ends found unused = page_ends 0 found (λ key own at _. unused_page image file key (owner_at_key key own) (at_key IsUnused key at unused))

  pub another_ends : (found : List (Dbkey × List ℕ)) (head : Head) → IsHead (bytes_at image file page.page) head → head.owner ≢ page.area → Holds image (from_line left page 0) found → Holds image (on_pages left) found
  another_ends found head is apart = page_ends 0 found (λ key own at _. page_of_another image file key (owner_at_key key own) head (at_key (λ bytes. IsHead bytes head) key at is) (λ same. apart (same ∙ own)))

  pub lines_end : (found : List (Dbkey × List ℕ)) (head : Head) → IsHead (bytes_at image file page.page) head → Holds image (from_line left page (lines_of head.class)) found → Holds image (on_pages left) found
  lines_end found head is = page_ends (lines_of head.class) found (λ key own at past. line_past image file key (owner_at_key key own) head (at_key (λ bytes. IsHead bytes head) key at is) past)
