-- What laying a line puts into slots is what they may hold.
use Rattle.std.proofs.Common.{◌≡◌, ℕ, suc, ◌-◌, ◌%◌, ◌≤◌, ◌<◌, List, inl, inr, ⊎_elim, refl, sym, ◌∙◌, ap, subst, arith}
use Rattle.rdb_types.specs.declared.file.FileId.{FileId}
use Rattle.rdb_types.specs.declared.keys.Dbkey.{Dbkey}
use Rattle.rdb_types.specs.declared.keys.Line.{Line}
use Rattle.rdb_types.specs.declared.keys.Tsn.{Tsn}
use Rattle.rdb_outside.specs.Disk.{Image}
use Rattle.area_files.specs.Areas.{IsPage, space_page_of}
use Rattle.space_pages.specs.Space.{owner_of}
use Rattle.aij_journal.specs.declared.part.GroupLine.{GroupLine}
use Rattle.line_versions.specs.Lines.{shown}
use Rattle.line_view.specs.Knowledge.{line_in}
use Rattle.stable_lines.specs.Slots.{area_file, IsAreaFile, line_on}
use Rattle.stable_lines.specs.Journal.{write_of}
use Rattle.line_moves.specs.declared.places.Place.{Place}
use Rattle.line_moves.proofs.KeyPlaces.{area_is}
use Rattle.line_moves.proofs.LinePut.{same_key}
use Rattle.line_moves.proofs.PageWrite.{space_apart}
use Rattle.line_moves.proofs.Putting.{nat_cases}
use Rattle.guarded_lines.specs.Laying.{HasRoom, SaysOwner, BearsLine, IsLaidSlot}
use Rattle.laid_groups.specs.Forward.{Forward, line_laid, IsHalfLaid, MayBePage, MayBeSpace, MayHold, IsUnderWay, FitsLine}
use Rattle.laid_groups.proofs.Behind.{behind_last}

pub same_page : (a b : ℕ) → 1 ≤ a → 1 ≤ b → a - 1 ≡ b - 1 → a ≡ b
same_page a b la lb e = omega (arith, la, lb, e)

pub space_first : (page : ℕ) → 1 ≤ page → 1 ≤ space_page_of page
space_first page first = omega arith

pub space_last : (page : ℕ) → space_page_of page ≤ page
space_last page = omega arith

pub is_space : (page : ℕ) → 1 ≤ page → (space_page_of page - 1) % 200 ≡ 0
is_space page first = omega arith

module _ (forward : Forward) (old : Image) (under : IsUnderWay forward old) (tsn : Tsn) (l : GroupLine) (fits : FitsLine forward l) where
  abbrev place : Place
  place = fits.place

  abbrev f : FileId
  f = area_file fits.place.file

  abbrev at_page : ℕ
  at_page = fits.place.page - 1

  abbrev at_space : ℕ
  at_space = space_page_of fits.place.page - 1

  first_page : 1 ≤ fits.place.page
  first_page = fits.names.is_data.is_page.first

  its_file : IsAreaFile fits.place.file
  its_file = area_is l.key fits.place fits.names

  its_space : IsPage (space_page_of fits.place.page)
  its_space = let last = fits.names.is_data.is_page.last in let down = space_last fits.place.page in record { first = space_first fits.place.page first_page; last = omega (arith, last, down) }

  pub page_was : MayBePage forward fits.place.file fits.place.page (old (area_file fits.place.file) (fits.place.page - 1))
  page_was = (under f at_page).page fits.place.file fits.place.page its_file fits.names.is_data refl refl

  pub space_was : MayBeSpace forward fits.place.file (space_page_of fits.place.page) (old (area_file fits.place.file) (space_page_of fits.place.page - 1))
  space_was = (under f at_space).space fits.place.file (space_page_of fits.place.page) its_file its_space (is_space fits.place.page first_page) refl refl

  pub room : HasRoom l.key l.class (old (area_file fits.place.file) (fits.place.page - 1))
  room = record { line = fits.line; page = ⊎_elim (λ unused. inl unused) (λ of. inr (record { owner = of.owner ∙ fits.owner; class = of.class ∙ fits.size })) page_was.used }

  module _ (few : tsn.number < forward.top) where
    may_page : (x : List ℕ) → BearsLine l.key fits.place l.class (line_laid tsn l) (old (area_file fits.place.file) (fits.place.page - 1)) x → MayBePage forward fits.place.file fits.place.page x
    may_page x bears = record {
      page = bears.page;
      used = inr (record { owner = bears.of_area.owner ∙ sym fits.owner; class = bears.of_area.class ∙ sym fits.size });
      line = λ k on. ⊎_elim
          (λ same. subst (λ (k : Dbkey). IsHalfLaid forward k (line_on k x)) (sym same) half)
          (λ apart. subst (λ (line : Line). IsHalfLaid forward k line) (sym (bears.others k on apart)) (page_was.line k on)) (same_key k l.key);
      below = λ k on. ⊎_elim
          (λ same. subst (λ (k : Dbkey). (line_on k x).tsn.number < forward.top) (sym same) (subst (λ (line : Line). line.tsn.number < forward.top) (sym bears.here) few))
          (λ apart. subst (λ (line : Line). line.tsn.number < forward.top) (sym (bears.others k on apart)) (page_was.below k on)) (same_key k l.key);
    }
      where
        half : IsHalfLaid forward l.key (line_on l.key x)
        half = (suc fits.index, ap shown bears.here ∙ sym (behind_last forward.writes fits.index (write_of l) (line_in l.key forward.base) fits.write))

    may_space : (x : List ℕ) → SaysOwner fits.place l.key.area (old (area_file fits.place.file) (space_page_of fits.place.page - 1)) x → MayBeSpace forward fits.place.file (space_page_of fits.place.page) x
    may_space x says = record {
      space = says.space;
      owner = λ page is same. ⊎_elim
          (λ (it : page ≡ fits.place.page). inl (subst (λ (n : ℕ). owner_of n x ≡ forward.owners fits.place.file n) (sym it) (says.here ∙ sym fits.owner)))
          (λ off. ⊎_elim (λ right. inl (says.beside page (record { is_page = is; same = same; apart = off }) ∙ right)) (λ by. inr by) (space_was.owner page is same))
          (nat_cases page fits.place.page);
    }

    file_is : (file : ℕ) (g : FileId) → g ≡ area_file fits.place.file → g ≡ area_file file → fits.place.file ≡ file
    file_is file g here there = ap (λ (h : FileId). h.number) (sym here ∙ there)

    pub may_slot : (g : FileId) (i : ℕ) (x : List ℕ) → IsLaidSlot old l.key fits.place l.class (line_laid tsn l) g i x → MayHold forward g i x
    may_slot g i x (inl it) = record {
      page = λ file number is plain same at. absurd (space_apart fits.place.page number plain.is_page.first plain.plain (sym it.1 ∙ at) first_page);
      space = λ file number is page space same at.
          subst (λ (m : ℕ). MayBeSpace forward m number x) (file_is file g it.0 same)
          (subst (λ (n : ℕ). MayBeSpace forward fits.place.file n x) (same_page (space_page_of fits.place.page) number its_space.first page.first (sym it.1 ∙ at)) (may_space x it.2));
      past = λ file is same from less. absurd (late it.1 from);
    }
      where
        late : i ≡ space_page_of fits.place.page - 1 → forward.pages ≤ i → ⊥
        late at from = let within = fits.within in let page = fits.names.page in let down = space_last fits.place.page in let some = space_first fits.place.page first_page in omega (arith, at, from, within, page, down, some)
    may_slot g i x (inr it) = record {
      page = λ file number is plain same at.
          subst (λ (m : ℕ). MayBePage forward m number x) (file_is file g it.0 same)
          (subst (λ (n : ℕ). MayBePage forward fits.place.file n x) (same_page fits.place.page number first_page plain.is_page.first (sym it.1 ∙ at)) (may_page x it.2));
      space = λ file number is page space same at. absurd (fits.names.is_data.plain (ap (λ (n : ℕ). n % 200) (sym it.1 ∙ at) ∙ space));
      past = λ file is same from less. absurd (late it.1 from);
    }
      where
        late : i ≡ fits.place.page - 1 → forward.pages ≤ i → ⊥
        late at from = let within = fits.within in let page = fits.names.page in let some = first_page in omega (arith, at, from, within, page, some)
