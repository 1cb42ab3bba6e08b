-- The first line on a page, of lines one behind another, and whether a line that fits goes on fitting.
use Rattle.std.proofs.Common.{◌≡◌, ℕ, zero, suc, ◌≤◌, ◌==◌, Bool, true, false, cond, List, [], ◌∷◌, ◌++◌, slice_get, Option, Some, None, ⊎_elim, refl, sym, ◌∙◌, ap, subst}
use Rattle.std.proofs.lemmas.Bool.{eq-eqb, and_from}
use Rattle.rdb_outside.specs.Disk.{Image}
use Rattle.rdb_page.specs.Page.{class_at}
use Rattle.aij_journal.specs.declared.part.GroupLine.{GroupLine}
use Rattle.line_versions.specs.Lines.{storage_area}
use Rattle.stable_lines.specs.Slots.{owner_at}
use Rattle.stable_lines.proofs.Lists.{got_either, got_one}
use Rattle.line_moves.specs.declared.places.Place.{Place}
use Rattle.line_moves.specs.Changes.{IsPlaceOf}
use Rattle.line_moves.proofs.KeyPlaces.{file_is, some_area}
use Rattle.fitted_groups.specs.Meeting.{is_there, first_there, page_in, entry_in, owner_met, class_met, FitsPage, FitOver}
use Rattle.fitted_groups.proofs.Meeting.{first_is, first_true, second_true, same_number}

abbrev pub or_else : Option GroupLine → Option GroupLine → Option GroupLine
or_else None other = other
or_else (Some l) other = Some l

pub first_both : (file number : ℕ) (xs ys : List GroupLine) → first_there file number (xs ++ ys) ≡ or_else (first_there file number xs) (first_there file number ys)
first_both file number [] ys = refl
first_both file number (x ∷ xs) ys = by (is_there file number x) (first_both file number xs ys)
  where
    by : (b : Bool) → first_there file number (xs ++ ys) ≡ or_else (first_there file number xs) (first_there file number ys)
        → cond b (Some x) (first_there file number (xs ++ ys)) ≡ or_else (cond b (Some x) (first_there file number xs)) (first_there file number ys)
    by true more = refl
    by false more = more

-- ---- one line

-- it lies on its page
pub on_place : (l : GroupLine) (place : Place) → IsPlaceOf l.key place → is_there place.file place.page l ≡ true
on_place l place names = and_from (storage_area l.key.area == place.file) (l.key.page == place.page) (eq-eqb (storage_area l.key.area) place.file (sym (file_is l.key place names))) (eq-eqb l.key.page place.page (sym names.page))

pub first_one : (file number : ℕ) (l : GroupLine) (ys : List GroupLine) → is_there file number l ≡ true → first_there file number (l ∷ ys) ≡ Some l
first_one file number l ys there = ap (λ (b : Bool). cond b (Some l) (first_there file number ys)) there

-- and on no other
pub first_none : (file number : ℕ) (l : GroupLine) → is_there file number l ≡ false → first_there file number (l ∷ []) ≡ None
first_none file number l off = ap (λ (b : Bool). cond b (Some l) (first_there file number [])) off

pub its_page : (file number : ℕ) (l : GroupLine) (place : Place) → IsPlaceOf l.key place → is_there file number l ≡ true → (file ≡ place.file) × (number ≡ place.page)
its_page file number l place names there = (
  sym (same_number (storage_area l.key.area) file (first_true (storage_area l.key.area == file) (l.key.page == number) there)) ∙ sym (file_is l.key place names),
  sym (same_number l.key.page number (second_true (storage_area l.key.area == file) (l.key.page == number) there)) ∙ sym names.page,
)

-- ---- behind a line of the page the rest says nothing

pub or_same : (first : Option GroupLine) (l : GroupLine) (other : Option GroupLine) → or_else (or_else first (Some l)) other ≡ or_else first (Some l)
or_same None l other = refl
or_same (Some x) l other = refl

module _ (image : Image) (pages : ℕ) where
  -- of lines with the same first one there the line fits as well
  pub fits_same : (xs ys : List GroupLine) (l : GroupLine) (it : FitsPage image pages xs l) → first_there it.place.file it.place.page ys ≡ first_there it.place.file it.place.page xs → FitsPage image pages ys l
  fits_same xs ys l it same = record {
    place = it.place;
    names = it.names;
    within = it.within;
    line = it.line;
    owner = ap (λ (w : Option GroupLine). owner_met (owner_at (page_in image it.place.file it.place.page)) w (entry_in image it.place.file it.place.page)) same ∙ it.owner;
    class = ap (λ (w : Option GroupLine). class_met (owner_at (page_in image it.place.file it.place.page)) w (class_at (page_in image it.place.file it.place.page))) same ∙ it.class;
    allowed = it.allowed;
  }

  -- lines up to this one
  upto : (xs ys : List GroupLine) (l : GroupLine) (place : Place) → IsPlaceOf l.key place → first_there place.file place.page (xs ++ l ∷ ys) ≡ or_else (first_there place.file place.page xs) (Some l)
  upto xs ys l place names = first_both place.file place.page xs (l ∷ ys) ∙ ap (λ (w : Option GroupLine). or_else (first_there place.file place.page xs) w) (first_one place.file place.page l ys (on_place l place names))

  pub fits_upto : (xs ys : List GroupLine) (l : GroupLine) → FitsPage image pages (xs ++ l ∷ ys) l → FitsPage image pages (xs ++ l ∷ []) l
  fits_upto xs ys l it = fits_same (xs ++ l ∷ ys) (xs ++ l ∷ []) l it (upto xs [] l it.place it.names ∙ sym (upto xs ys l it.place it.names))

  -- some line of the page among these
  pub some_first : (xs : List GroupLine) (i : ℕ) (l : GroupLine) (place : Place) → slice_get xs i ≡ Some l → IsPlaceOf l.key place → (first : GroupLine) × (first_there place.file place.page xs ≡ Some first)
  some_first [] i l place got names = let bad : None ≡ Some l = got in absurd (cc)
  some_first (x ∷ xs) zero l place got names = (x, first_one place.file place.page x xs (subst (λ (y : GroupLine). is_there place.file place.page y ≡ true) (sym (same x l got)) (on_place l place names)))
    where
      same : (a b : GroupLine) → Some a ≡ Some b → a ≡ b
      same a b is = cc
  some_first (x ∷ xs) (suc i) l place got names = by (is_there place.file place.page x) refl (some_first xs i l place got names)
    where
      by : (b : Bool) → is_there place.file place.page x ≡ b → (first : GroupLine) × (first_there place.file place.page xs ≡ Some first) → (first : GroupLine) × (first_there place.file place.page (x ∷ xs) ≡ Some first)
      by true is rest = (x, ap (λ (b : Bool). cond b (Some x) (first_there place.file place.page xs)) is)
      by false is rest = (rest.0, ap (λ (b : Bool). cond b (Some x) (first_there place.file place.page xs)) is ∙ rest.1)

  pub fits_more : (xs ys : List GroupLine) (i : ℕ) (l : GroupLine) → slice_get xs i ≡ Some l → FitsPage image pages xs l → FitsPage image pages (xs ++ ys) l
  fits_more xs ys i l got it =
      let first = some_first xs i l it.place got it.names in
      fits_same xs (xs ++ ys) l it (first_both it.place.file it.place.page xs ys ∙ ap (λ (w : Option GroupLine). or_else w (first_there it.place.file it.place.page ys)) first.1 ∙ sym first.1)

  -- one line more
  pub fit_one_more : (xs : List GroupLine) (l : GroupLine) → FitOver image pages xs → FitsPage image pages (xs ++ l ∷ []) l → FitOver image pages (xs ++ l ∷ [])
  fit_one_more xs l fit it i m got = ⊎_elim
      (λ early. fits_more xs (l ∷ []) i m early (fit i m early))
      (λ late. subst (λ (x : GroupLine). FitsPage image pages (xs ++ l ∷ []) x) (got_one l m late.0 late.2).1 it)
      (got_either xs (l ∷ []) i m got)

  -- the first line there of lines that fit has a logical area
  pub first_area : (xs : List GroupLine) → FitOver image pages xs → (file number : ℕ) (l : GroupLine) → first_there file number xs ≡ Some l → 1 ≤ l.key.area
  first_area xs fit file number l found =
      let first = first_is file number xs l found in
      let it = fit first.index l first.is in
      some_area l.key it.place it.names
