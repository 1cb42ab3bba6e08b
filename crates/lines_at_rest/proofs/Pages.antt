-- What a page says of the lines of an area.
use Rattle.std.proofs.Common.{◌≡◌, ◌≢◌, ℕ, ◌+◌, ◌-◌, ◌≤◌, ◌<◌, Bool, true, false, List, Option, ◌⊎◌, inr, ⊎_elim, length, replicate, refl, sym, ap, subst, ◌∙◌, arith}
use Rattle.std.proofs.lemmas.List.{length-replicate}
use Rattle.rdb_types.specs.declared.file.FileId.{FileId}
use Rattle.rdb_types.specs.File.{slot_bytes}
use Rattle.rdb_types.specs.declared.keys.Dbkey.{Dbkey}
use Rattle.rdb_types.specs.declared.keys.Line.{Line}
use Rattle.rdb_outside.specs.Disk.{Image, zeros}
use Rattle.journal_scan.specs.declared.group.Group.{Group}
use Rattle.rdb_page.specs.declared.head.Head.{Head}
use Rattle.rdb_page.specs.Page.{IsOwner, IsHead, IsUnused, StandsAs, lines_of, class_at}
use Rattle.rdb_page.specs.Lines.{IsLine, never}
use Rattle.area_files.specs.Areas.{IsDataPage}
use Rattle.space_pages.specs.Space.{IsSpace}
use Rattle.line_view.specs.Knowledge.{Lines}
use Rattle.line_versions.specs.Lines.{shown, storage_area}
use Rattle.stable_lines.specs.Slots.{area_file, file_of, slot_of, has_place, line_on, line_at}
use Rattle.stable_lines.proofs.Never.{nothing_on, zeros_owner, space_owner}
use Rattle.page_faults.specs.Checks.{page_at}
use Rattle.line_moves.specs.declared.places.Place.{Place}
use Rattle.line_moves.specs.Changes.{IsPlaceOf}
use Rattle.line_moves.proofs.KeyPlaces.{file_is}
use Rattle.line_moves.proofs.Putting.{place_says}
use Rattle.line_moves.proofs.Reading.{line_is, line_none}
use Rattle.line_moves.proofs.Spots.{place_has, never_of_another, never_past}
use Rattle.before_images.specs.declared.lines.OpenTransaction.{OpenTransaction}
use Rattle.before_images.specs.Before.{laid, LaysLines}
use Rattle.lines_at_rest.specs.Area.{with_present, present_at, HoldsTo}
use Rattle.lines_at_rest.proofs.Found.{nothing_present, next_line, next_page}

-- the file of an area
pub file_of_area : (file area : ℕ) → IsOwner file area → file ≡ storage_area area
file_of_area file area owner = file_is (record { area = area; page = 2; line = 0 }) (record { file = file; page = 2 })
    (record { owner = owner; page = refl; is_data = record { is_page = record { first = omega arith; last = omega arith }; plain = λ is. let bad : 1 ≡ 0 = is in omega (arith, bad) } })

pub isnt : (b : Bool) → (b ≡ true → ⊥) → b ≡ false
isnt true no_it = absurd (no_it refl)
isnt false no_it = refl

-- no file has such pages
pub no_such_page : (key : Dbkey) (bytes : List ℕ) → (key.page ≡ 0) ⊎ (65536 < key.page) → line_on key bytes ≡ never
no_such_page key bytes off = line_none key bytes (isnt (has_place key bytes) (λ has.
    let says = place_says key bytes has in let first = says.first in let last = says.last in
    ⊎_elim (λ zero. let no : ⊥ = omega (arith, zero, first) in no) (λ past. let no : ⊥ = omega (arith, past, last) in no) off))

-- the bytes of a slot of the area's file are those of the page of its lines
module _ (image : Image) (file area number : ℕ) (bytes : List ℕ) (owner : IsOwner file area) (there : bytes ≡ image (area_file file) (number - 1)) (key : Dbkey) (own : key.area ≡ area) (at : key.page ≡ number) where
  same_bytes : bytes ≡ image (file_of key) (slot_of key)
  same_bytes =
      let same : file ≡ storage_area key.area = file_of_area file area owner ∙ ap storage_area (sym own) in
      there ∙ (λ i. image (area_file (same i)) (sym at i - 1))

  pub stands_there : line_at image key ≡ line_on key bytes
  stands_there = ap (λ (b : List ℕ). line_on key b) (sym same_bytes)

-- a page on which the area has no line
pub none_there : (image : Image) (groups : List Group) (held : List OpenTransaction) (file area number : ℕ) (bytes : List ℕ) (found : Lines) → LaysLines image groups held → IsOwner file area → bytes ≡ image (area_file file) (number - 1)
    → ((key : Dbkey) → key.area ≡ area → line_on key bytes ≡ never) → HoldsTo image held area number 0 found → HoldsTo image held area (number + 1) 0 found
none_there image groups held file area number bytes found lays owner there none was =
    next_page image held area number 0 found was (λ q own at _. nothing_present image groups held lays q (stands_there image file area number bytes owner there q own at ∙ none q own))

pub unused_there : (key : Dbkey) (bytes : List ℕ) → IsUnused bytes → line_on key bytes ≡ never
unused_there key bytes unused = nothing_on key bytes (zeros_owner bytes unused)

pub space_there : (key : Dbkey) (bytes : List ℕ) (number : ℕ) → IsSpace bytes number → line_on key bytes ≡ never
space_there key bytes number space = nothing_on key bytes (space_owner bytes number space)

pub another_there : (key : Dbkey) (bytes : List ℕ) (head : Head) (area : ℕ) → IsHead bytes head → head.owner ≢ area → key.area ≡ area → line_on key bytes ≡ never
another_there key bytes head area is off own = never_of_another key bytes head is (λ same. off (same ∙ own))

-- ---- a page of the area

module _ (image : Image) (held : List OpenTransaction) (file : ℕ) (head : Head) (bytes : List ℕ) (stands : StandsAs bytes file head.page head) (there : bytes ≡ image (area_file file) (head.page - 1)) where
  -- a line that was read
  pub line_more : IsDataPage head.page → (line : ℕ) (stood counts : Line) (old new : Lines) → line < lines_of head.class → IsLine bytes (class_at bytes) line stood → counts ≡ laid held (record { area = head.owner; page = head.page; line = line }) stood
      → new ≡ with_present (record { area = head.owner; page = head.page; line = line }) (shown counts) old → HoldsTo image held head.owner head.page line old → HoldsTo image held head.owner head.page (line + 1) new
  line_more data_page line stood counts old new within is laid_is made was =
      let key : Dbkey = record { area = head.owner; page = head.page; line = line } in
      let place : Place = record { file = file; page = head.page } in
      let names : IsPlaceOf key place = record { owner = stands.owner; page = refl; is_data = data_page } in
      let on_page : line_on key bytes ≡ stood = line_is key bytes stood (place_has key place bytes head names stands.head refl within) is in
      let here : line_at image key ≡ stood = stands_there image file head.owner head.page bytes stands.owner there key refl refl ∙ on_page in
      let shows : shown counts ≡ present_at image held key = ap shown (laid_is ∙ ap (λ (l : Line). laid held key l) (sym here)) in
      next_line image held head.owner head.page line old new was (made ∙ ap (λ (w : Option (List ℕ)). with_present key w old) shows)

  -- it has no further lines
  pub no_more_lines : (groups : List Group) → LaysLines image groups held → (found : Lines) → HoldsTo image held head.owner head.page (lines_of head.class) found → HoldsTo image held head.owner (head.page + 1) 0 found
  no_more_lines groups lays found was = next_page image held head.owner head.page (lines_of head.class) found was
      (λ q own at past. nothing_present image groups held lays q (stands_there image file head.owner head.page bytes stands.owner there q own at ∙ never_past q bytes head stands.head past))

-- a page of this number and of the area, whose lines were added
pub page_added : (image : Image) (groups : List Group) (held : List OpenTransaction) (file area number : ℕ) (head : Head) (bytes : List ℕ) (old new : Lines) → StandsAs bytes file number head → head.owner ≡ area → LaysLines image groups held → bytes ≡ image (area_file file) (number - 1)
    → (bytes ≡ image (area_file file) (head.page - 1) → HoldsTo image held head.owner head.page 0 old → HoldsTo image held head.owner head.page (lines_of head.class) new) → HoldsTo image held area number 0 old → HoldsTo image held area (number + 1) 0 new
page_added image groups held file area number head bytes old new stands owned lays there added was =
    let numbered : head.page ≡ number = stands.page_number in
    let here : bytes ≡ image (area_file file) (head.page - 1) = there ∙ (λ i. image (area_file file) (sym numbered i - 1)) in
    let before : HoldsTo image held head.owner head.page 0 old = subst (λ (n : ℕ). HoldsTo image held head.owner n 0 old) (sym numbered) (subst (λ (a : ℕ). HoldsTo image held a number 0 old) (sym owned) was) in
    let stands_so : StandsAs bytes file head.page head = record { head = stands.head; page_number = refl; owner = stands.owner } in
    subst (λ (n : ℕ). HoldsTo image held area (n + 1) 0 new) numbered
    (subst (λ (a : ℕ). HoldsTo image held a (head.page + 1) 0 new) owned (no_more_lines image held file head bytes stands_so here groups lays new (added here before)))

-- ---- behind the last page

pub zeros_unused : (file : FileId) (x : List ℕ) → x ≡ zeros file → IsUnused x
zeros_unused file x is = is ∙ ap (λ (k : ℕ). replicate {A = ℕ} k 0) (sym (ap (λ (l : List ℕ). length l) is ∙ length-replicate (slot_bytes file) 0))

-- pages that were never used
module _ (image : Image) (file area count : ℕ) (owner : IsOwner file area) (ends : (page : ℕ) → count < page → page ≤ 65536 → IsUnused (page_at image file page)) (q : Dbkey) (own : q.area ≡ area) (past : count + 1 ≤ q.page) where
  never_used : q.page ≤ 65536 → line_at image q ≡ never
  never_used some =
      let same : file ≡ storage_area q.area = file_of_area file area owner ∙ ap storage_area (sym own) in
      unused_there q (image (file_of q) (slot_of q)) (subst (λ (f : ℕ). IsUnused (image (area_file f) (slot_of q))) same (ends q.page (omega (arith, past)) some))

  either_way : (a b : ℕ) → (b < a) ⊎ (a ≤ b)
  either_way a b = grind arith

  pub behind_the_end : line_at image q ≡ never
  behind_the_end = ⊎_elim (λ many. no_such_page q (image (file_of q) (slot_of q)) (inr many)) never_used (either_way q.page 65536)
