-- A page is entered on its space page, and a line put on it: what the image is then.
use Rattle.std.proofs.Common.{◌≡◌, ◌≢◌, ℕ, ◌-◌, ◌%◌, ◌≤◌, ◌<◌, List, ◌⊎◌, inl, inr, ⊎_elim, ap, sym, subst, ◌∙◌, refl, arith}
use Rattle.rdb_types.specs.declared.file.FileId.{FileId}
use Rattle.rdb_types.specs.declared.file.FileKind.TheVariants.{Area, Ruj}
use Rattle.rdb_types.specs.declared.keys.Dbkey.{Dbkey}
use Rattle.rdb_types.specs.declared.keys.Line.{Line}
use Rattle.rdb_outside.specs.Disk.{Image, zeros}
use Rattle.rdb_page.specs.Whole.{IsPageOf}
use Rattle.area_files.specs.Areas.{IsPage, IsDataPage, IsSpacePage, space_page_of}
use Rattle.space_pages.specs.Space.{IsSpace, owner_of}
use Rattle.stable_lines.specs.Slots.{ruj_file, area_file, owner_at, IsMember, IsAreaFile, line_on, line_at}
use Rattle.stable_lines.specs.Kept.{IsWellFormed, IsRujHeader}
use Rattle.line_moves.specs.declared.places.Place.{Place}
use Rattle.line_moves.specs.Contents.{IsOn}
use Rattle.line_moves.specs.Changes.{IsPlaceOf}
use Rattle.line_moves.proofs.KeyPlaces.{area_is, is_on, place_content}
use Rattle.line_moves.proofs.OnlyPut.{on_or_same, space_keeps}
use Rattle.line_moves.proofs.PageWrite.{space_apart}
use Rattle.line_moves.proofs.Putting.{nat_cases}
use Rattle.guarded_lines.specs.Laying.{IsOfArea, page_of, SaysOwner, Enters, BearsLine, PutsOn, LaysOn, Lays}

same_page : (a b : ℕ) → 1 ≤ a → 1 ≤ b → a - 1 ≡ b - 1 → a ≡ b
same_page a b la lb e = omega (arith, la, lb, e)

space_first : (page : ℕ) → 1 ≤ page → 1 ≤ space_page_of page
space_first page first = omega arith

space_last : (page : ℕ) → space_page_of page ≤ page
space_last page = omega arith

is_space : (page : ℕ) → 1 ≤ page → (space_page_of page - 1) % 200 ≡ 0
is_space page first = omega arith

-- a space page isn't a data page
not_data : (n page : ℕ) → 1 ≤ n → 1 ≤ page → (n - 1) % 200 ≡ 0 → (page - 1) % 200 ≢ 0 → n - 1 ≡ page - 1 → ⊥
not_data n page first some is plain same = plain (ap (λ (k : ℕ). k % 200) (sym same) ∙ is)

ruj_not_area : (member file : ℕ) → ruj_file member ≡ area_file file → ⊥
ruj_not_area member file same = let k : Ruj ≡ Area = ap (λ (f : FileId). f.kind) same in cc

-- what both writes come to
pub lays_on : (key : Dbkey) (place : Place) (class : ℕ) (value : Line) (old mid new : Image) → IsPlaceOf key place → Enters place key.area old mid → PutsOn key place class value mid new → LaysOn key place class value old new
lays_on key place class value old mid new names enters puts = record {
  says = subst (λ (b : List ℕ). SaysOwner place key.area (old (area_file place.file) (space_page_of place.page - 1)) b) (sym space_still) enters.says;
  bears = subst (λ (b : List ℕ). BearsLine key place class value b (new (area_file place.file) (place.page - 1))) entered puts.bears;
  apart = λ f i off_space off_page. puts.apart f i off_page ∙ enters.apart f i off_space;
}
  where
    space_still : new (area_file place.file) (space_page_of place.page - 1) ≡ mid (area_file place.file) (space_page_of place.page - 1)
    space_still = puts.apart (area_file place.file) (space_page_of place.page - 1) (λ same at. space_apart place.page place.page names.is_data.is_page.first names.is_data.plain at names.is_data.is_page.first)

    entered : mid (area_file place.file) (place.page - 1) ≡ old (area_file place.file) (place.page - 1)
    entered = enters.apart (area_file place.file) (place.page - 1) (λ same at. space_apart place.page place.page names.is_data.is_page.first names.is_data.plain (sym at) names.is_data.is_page.first)

pub space_there : (pages : ℕ) (image : Image) (key : Dbkey) (place : Place) → IsPlaceOf key place → IsWellFormed image pages → IsSpace (image (area_file place.file) (space_page_of place.page - 1)) (space_page_of place.page)
space_there pages image key place names was =
    let first = names.is_data.is_page.first in let last = names.is_data.is_page.last in let down = space_last place.page in
    was.space place.file (space_page_of place.page) (area_is key place names) (record { first = space_first place.page first; last = omega (arith, last, down) }) (is_space place.page first)

module _ (pages : ℕ) (key : Dbkey) (place : Place) (class : ℕ) (value : Line) (old mid new : Image) (names : IsPlaceOf key place) (within : key.page ≤ pages) (was : IsWellFormed old pages) (enters : Enters place key.area old mid) (puts : PutsOn key place class value mid new) where
  first_page : 1 ≤ place.page
  first_page = names.is_data.is_page.first

  number_of : (f g : ℕ) → area_file f ≡ area_file g → f ≡ g
  number_of f g same = ap (λ (x : FileId). x.number) same

  abbrev IsIt : ℕ → ℕ → Type 0
  IsIt f n = (f ≡ place.file) × (n ≡ place.page)

  it_or_other : (f n : ℕ) → IsIt f n ⊎ (f ≡ place.file → n ≢ place.page)
  it_or_other f n = ⊎_elim (λ same. ⊎_elim (λ page. inl (same, page)) (λ off. inr (λ _ is. off is)) (nat_cases n place.page)) (λ off. inr (λ is. absurd (off is))) (nat_cases f place.file)

  -- ---- slots that are as they were

  entered_data : (f n : ℕ) → IsDataPage n → mid (area_file f) (n - 1) ≡ old (area_file f) (n - 1)
  entered_data f n is = enters.apart (area_file f) (n - 1) (λ same at. space_apart place.page n is.is_page.first is.plain (sym at) first_page)

  other_page : (f n : ℕ) → IsDataPage n → (f ≡ place.file → n ≢ place.page) → new (area_file f) (n - 1) ≡ old (area_file f) (n - 1)
  other_page f n is off = puts.apart (area_file f) (n - 1) (λ same at. off (number_of f place.file same) (same_page n place.page is.is_page.first first_page at)) ∙ entered_data f n is

  put_space : (f n : ℕ) → 1 ≤ n → IsSpacePage n → new (area_file f) (n - 1) ≡ mid (area_file f) (n - 1)
  put_space f n some is = puts.apart (area_file f) (n - 1) (λ same at. not_data n place.page some first_page is names.is_data.plain at)

  other_space : (f n : ℕ) → 1 ≤ n → IsSpacePage n → (f ≡ place.file → n ≢ space_page_of place.page) → new (area_file f) (n - 1) ≡ old (area_file f) (n - 1)
  other_space f n some is off = put_space f n some is ∙ enters.apart (area_file f) (n - 1) (λ same at. off (number_of f place.file same) (same_page n (space_page_of place.page) some (space_first place.page first_page) at))

  its_space : new (area_file place.file) (space_page_of place.page - 1) ≡ mid (area_file place.file) (space_page_of place.page - 1)
  its_space = put_space place.file (space_page_of place.page) (space_first place.page first_page) (is_space place.page first_page)

  pub other_file : (file : FileId) (slot : ℕ) → ((f : ℕ) → file ≡ area_file f → ⊥) → new file slot ≡ old file slot
  other_file file slot off = puts.apart file slot (λ same. absurd (off place.file same)) ∙ enters.apart file slot (λ same. absurd (off place.file same))

  -- ---- each page

  data_page : (f n : ℕ) → IsAreaFile f → IsDataPage n → IsPageOf f n (new (area_file f) (n - 1))
  data_page f n file_is is = ⊎_elim
      (λ it. subst (λ (g : ℕ). IsPageOf g n (new (area_file g) (n - 1))) (sym it.0) (subst (λ (m : ℕ). IsPageOf place.file m (new (area_file place.file) (m - 1))) (sym it.1) puts.bears.page))
      (λ off. subst (IsPageOf f n) (sym (other_page f n is off)) (was.page f n file_is is)) (it_or_other f n)

  space_page : (f n : ℕ) → IsAreaFile f → IsPage n → IsSpacePage n → IsSpace (new (area_file f) (n - 1)) n
  space_page f n file_is page is = ⊎_elim
      (λ same. ⊎_elim
      (λ at. subst (λ (g : ℕ). IsSpace (new (area_file g) (n - 1)) n) (sym same) (subst (λ (m : ℕ). IsSpace (new (area_file place.file) (m - 1)) m) (sym at)
      (subst (λ (b : List ℕ). IsSpace b (space_page_of place.page)) (sym its_space) enters.says.space)))
      (λ off. kept (λ _ at. off at)) (nat_cases n (space_page_of place.page)))
      (λ off. kept (λ same. absurd (off same))) (nat_cases f place.file)
    where
      kept : (f ≡ place.file → n ≢ space_page_of place.page) → IsSpace (new (area_file f) (n - 1)) n
      kept off = subst (λ (b : List ℕ). IsSpace b n) (sym (other_space f n page.first is off)) (was.space f n file_is page is)

  header : (member : ℕ) → IsMember member → IsRujHeader (new (ruj_file member) 0)
  header member is = subst IsRujHeader (sym (other_file (ruj_file member) 0 (ruj_not_area member))) (was.header member is)

  abbrev IsOwned : ℕ → ℕ → Type 0
  IsOwned f n = owner_of n (new (area_file f) (space_page_of n - 1)) ≡ owner_at (new (area_file f) (n - 1))

  its_owner : IsOwned place.file place.page
  its_owner = ap (λ (b : List ℕ). owner_of place.page b) its_space ∙ enters.says.here ∙ sym puts.bears.of_area.owner

  owned : (f n : ℕ) → IsAreaFile f → IsDataPage n → 1 ≤ owner_at (new (area_file f) (n - 1)) → IsOwned f n
  owned f n file_is is some = ⊎_elim
      (λ it. subst (λ (g : ℕ). IsOwned g n) (sym it.0) (subst (λ (m : ℕ). IsOwned place.file m) (sym it.1) its_owner))
      other (it_or_other f n)
    where
      before : (f ≡ place.file → n ≢ place.page) → owner_of n (old (area_file f) (space_page_of n - 1)) ≡ owner_at (new (area_file f) (n - 1))
      before off = let same = ap owner_at (other_page f n is off) in was.owner f n file_is is (subst (λ (k : ℕ). 1 ≤ k) same some) ∙ sym same

      beside : f ≡ place.file → space_page_of n ≡ space_page_of place.page → n ≢ place.page
          → owner_of n (new (area_file f) (space_page_of n - 1)) ≡ owner_of n (old (area_file f) (space_page_of n - 1))
      beside same space apart = subst (λ (g : ℕ). owner_of n (new (area_file g) (space_page_of n - 1)) ≡ owner_of n (old (area_file g) (space_page_of n - 1))) (sym same)
          (subst (λ (m : ℕ). owner_of n (new (area_file place.file) (m - 1)) ≡ owner_of n (old (area_file place.file) (m - 1))) (sym space)
          (ap (λ (b : List ℕ). owner_of n b) its_space ∙ enters.says.beside n (record { is_page = is; same = space; apart = apart })))

      off_it : (f ≡ place.file → space_page_of n ≢ space_page_of place.page) → owner_of n (new (area_file f) (space_page_of n - 1)) ≡ owner_of n (old (area_file f) (space_page_of n - 1))
      off_it off = ap (λ (b : List ℕ). owner_of n b) (other_space f (space_page_of n) (space_first n is.is_page.first) (is_space n is.is_page.first) off)

      other : (f ≡ place.file → n ≢ place.page) → IsOwned f n
      other off = ⊎_elim
          (λ same. ⊎_elim (λ space. beside same space (off same)) (λ elsewhere. off_it (λ _ at. elsewhere at)) (nat_cases (space_page_of n) (space_page_of place.page)))
          (λ elsewhere. off_it (λ same. absurd (elsewhere same))) (nat_cases f place.file) ∙ before off

  past : (f slot : ℕ) → IsAreaFile f → pages ≤ slot → slot < 65536 → new (area_file f) slot ≡ zeros (area_file f)
  past f slot file_is from less =
      let up : place.page ≤ pages = subst (λ (n : ℕ). n ≤ pages) (sym names.page) within in
      let down = space_last place.page in let some = first_page in let begun = space_first place.page first_page in
      puts.apart (area_file f) slot (λ same at. let bad : slot ≡ place.page - 1 = at in omega (arith, bad, up, some, from))
      ∙ enters.apart (area_file f) slot (λ same at. let bad : slot ≡ space_page_of place.page - 1 = at in omega (arith, bad, up, down, begun, from))
      ∙ was.past f slot file_is from less

  -- ---- each line

  other_line : (k : Dbkey) → k ≢ key → line_at new k ≡ line_at old k
  other_line k apart = ⊎_elim on_it (λ same. same) (on_or_same mid new place.file place.page puts.apart k)
      ∙ space_keeps old mid place.file (space_page_of place.page) _ _ refl (space_there pages old key place names was) enters.says.space refl enters.apart k
    where
      on_it : IsOn place.file place.page k → line_at new k ≡ line_at mid k
      on_it on = ap (λ (b : List ℕ). line_on k b) (λ i. new (on.in_file i) (on.in_slot i)) ∙ puts.bears.others k on apart ∙ ap (λ (b : List ℕ). line_on k b) (sym (λ i. mid (on.in_file i) (on.in_slot i)))

  pub lays : Lays pages key class value old new
  lays = record {
    well_formed = record { page = data_page; space = space_page; header = header; owner = owned; past = past };
    stands = ap (λ (b : List ℕ). line_on key b) (sym (place_content new key place names)) ∙ puts.bears.here;
    page = subst (IsOfArea key.area class) (place_content new key place names) puts.bears.of_area;
    others = other_line;
    apart = λ f n is off. other_page f n is (λ same at. off ((is_on key place names).in_file ∙ ap area_file (sym same)) ((is_on key place names).in_slot ∙ ap (λ (k : ℕ). k - 1) (sym at)));
  }

-- the page of the line, behind the entry
pub entered_page : (key : Dbkey) (place : Place) (old mid : Image) → IsPlaceOf key place → Enters place key.area old mid → old (area_file place.file) (place.page - 1) ≡ mid (area_file place.file) (place.page - 1)
entered_page key place old mid names enters = sym (enters.apart (area_file place.file) (place.page - 1) (λ same at. space_apart place.page place.page names.is_data.is_page.first names.is_data.plain (sym at) names.is_data.is_page.first))

pub page_still : (key : Dbkey) (place : Place) (old mid : Image) → IsPlaceOf key place → Enters place key.area old mid → page_of old key ≡ mid (area_file place.file) (place.page - 1)
page_still key place old mid names enters = sym (place_content old key place names) ∙ entered_page key place old mid names enters
