-- At a commit's gathering each line that it commits lies on a page of its area's class.
use Rattle.std.proofs.Common.{arith, ◌≡◌, ℕ, ◌%◌, ◌≤◌, ◌<◌, nat_eq, Bool, true, false, List, [], ◌∷◌, zero, suc, Some, None, ⊎_elim, length, ap, sym, subst, ◌∙◌, refl, slice_get}
use Rattle.std.specs.Prelude.{if◌then◌else◌}
use Rattle.rdb_types.specs.declared.keys.Dbkey.{Dbkey}
use Rattle.rdb_types.specs.declared.keys.Line.{Line}
use Rattle.rdb_types.specs.declared.keys.LineState.{LineState}
use Rattle.rdb_types.specs.declared.keys.LineState.TheVariants.{Never, Present, Erased}
use Rattle.rdb_types.specs.declared.keys.Tsn.{Tsn}
use Rattle.rdb_page.specs.Lines.{never, IsLine}
use Rattle.rdb_page.specs.Page.{class_at, lines_of}
use Rattle.rdb_page.specs.Whole.{IsUsedPage}
use Rattle.rdb_outside.specs.Disk.{View, LeftNow, Pending}
use Rattle.area_files.specs.Areas.{IsDataPage}
use Rattle.line_versions.specs.Lines.{storage_area, shown, shown_as}
use Rattle.disk_seats.specs.stable_lines.Slots.{file_of, slot_of, owner_at, has_place, line_on, IsAreaFile}
use Rattle.disk_seats.specs.stable_lines.Kept.{FitsClass}
use Rattle.disk_seats.specs.stable_lines.Progress.{Flight, Progress}
use Rattle.disk_seats.specs.stable_lines.Facts.{PendingContents, IsCommitted, IsChanged, Facts}
use Rattle.disk_seats.proofs.of_stable_lines.Laying.{IsLaid, IsLeft, found_behind}
use Rattle.disk_seats.proofs.of_stable_lines.Never.{zeros_owner, space_owner}
use Rattle.journal_scan.specs.declared.group.Group.{Group}
use Rattle.disk_seats.specs.line_moves.Classes.{HaveTheirClasses}
use Rattle.disk_seats.specs.line_moves.Lines.{ChangedLines, ArePut}
use Rattle.disk_seats.proofs.of_line_moves.Putting.{HasPlace, place_says}
use Rattle.disk_seats.proofs.of_line_moves.Reading.{class_is, line_is, line_none}
use Rattle.disk_seats.proofs.of_line_moves.Runs.{pends}
use Rattle.disk_seats.specs.line_seat.declared.commit.GroupPlace.{GroupPlace}
use Rattle.disk_seats.specs.line_seat.Groups.{HaveClasses, group_of}
use Rattle.disk_seats.proofs.of_line_seat.GroupSlots.{of_lines}

pub is_area_file : (area : ℕ) → IsAreaFile (storage_area area)
is_area_file area = of (nat_eq area 1) (nat_eq (area % 2) 0)
  where
    of : (a b : Bool) → IsAreaFile (if a then 1 else (if b then 2 else 3))
    of true b = record { first = omega arith; last = omega arith }
    of false true = record { first = omega arith; last = omega arith }
    of false false = record { first = omega arith; last = omega arith }

shown_bytes : (state : LineState) (image bytes : List ℕ) → shown_as state image ≡ Some bytes → image ≡ bytes
shown_bytes Never image bytes is = let bad : None ≡ Some bytes = is in absurd (cc)
shown_bytes Present image bytes is = let same : Some image ≡ Some bytes = is in cc
shown_bytes Erased image bytes is = let bad : None ≡ Some bytes = is in absurd (cc)

module _ (P : PendingContents) (now : Progress) (facts : Facts P now) (key : Dbkey) (x : List ℕ) (there : P (file_of key) (slot_of key) x) where
  module _ (has : has_place key x ≡ true) where
    says : HasPlace key x
    says = place_says key x has

    pub is_data : IsDataPage key.page
    is_data = record {
      is_page = record { first = says.first; last = says.last };
      plain = λ space. let none = space_owner x key.page (facts.pages.space (storage_area key.area) key.page x (is_area_file key.area) (record { first = says.first; last = says.last }) space there) in
          let owned = says.owned in let some = says.area in omega (arith, none, owned, some);
    }

    -- the line that stands there, with an image that fits the page's class
    within : length (line_on key x).image ≤ class_at x
    within = ⊎_elim
        (λ unused. let none = zeros_owner x unused in let owned = says.owned in let some = says.area in absurd (omega (arith, none, owned, some)))
        of_used (facts.pages.page (storage_area key.area) key.page x (is_area_file key.area) is_data there)
      where
        of_used : IsUsedPage (storage_area key.area) key.page x → length (line_on key x).image ≤ class_at x
        of_used used =
            let class = class_is x used.head used.stands.head in
            let line = used.lines key.line (subst (λ (c : ℕ). key.line < lines_of c) class says.line) in
            let here : IsLine x (class_at x) key.line line.0 = subst (λ (c : ℕ). IsLine x c key.line line.0) (sym class) line.1 in
            subst (λ (l : Line). length l.image ≤ class_at x) (sym (line_is key x line.0 has here)) here.allowed.image

  -- where it isn't as a line that was never used, the page has a place for it
  has_it : (line_on key x ≡ never → ⊥) → has_place key x ≡ true
  has_it used = of (has_place key x) refl
    where
      of : (b : Bool) → has_place key x ≡ b → has_place key x ≡ true
      of true is = is
      of false is = absurd (used (line_none key x is))

  pub fits_there : (classes : ℕ → ℕ) (bytes : List ℕ) → ((number : ℕ) → number ≡ key.page → IsDataPage number → 1 ≤ owner_at x → class_at x ≡ classes (owner_at x)) → (line_on key x ≡ never → ⊥) → length bytes ≤ class_at x → FitsClass x (classes key.area) bytes
  fits_there classes bytes its used le =
      let has = has_it used in let owned = (says has).owned in
      let class = its key.page refl (is_data has) (subst (λ (n : ℕ). 1 ≤ n) (sym owned) (says has).area) ∙ ap classes owned in
      record { same = class; fits = subst (λ (n : ℕ). length bytes ≤ n) class le }

  -- a line that is shown
  pub shown_fits : (bytes : List ℕ) → shown (line_on key x) ≡ Some bytes → (line_on key x ≡ never → ⊥) × (length bytes ≤ class_at x)
  shown_fits bytes is =
      let used : line_on key x ≡ never → ⊥ = λ none. let bad : None ≡ Some bytes = sym (ap shown none) ∙ is in cc in
      (used, subst (λ (b : List ℕ). length b ≤ class_at x) (shown_bytes (line_on key x).state (line_on key x).image bytes is) (within (has_it used)))

  -- a line that an open transaction has put there
  pub changed_used : IsChanged P now key (line_on key x) → line_on key x ≡ never → ⊥
  changed_used c none =
      let some = (facts.going c.member c.transaction c.is_open).number in
      let same : (line_on key x).tsn.number ≡ c.transaction.tsn.number = ap (λ (t : Tsn). t.number) c.tsn in
      let zero_is : (line_on key x).tsn.number ≡ 0 = ap (λ (l : Line). l.tsn.number) none in
      omega (arith, some, same, zero_is)

pub classes_had : (v : View) (now : Progress) (f : Flight) (place : GroupPlace) (lines : ChangedLines) (classes : List ℕ) → LeftNow v v.content → Facts (Pending v) now → f.group ≡ group_of place lines classes → ArePut v.content lines (length lines)
    → HaveTheirClasses f.classes (Pending v) → HaveClasses v.content now f
classes_had v now f place lines classes left facts is put had key bytes got = ⊎_elim laid kept (found_behind key f.group.lines now.lines)
  where
    x : List ℕ
    x = v.content (file_of key) (slot_of key)

    there : Pending v (file_of key) (slot_of key) x
    there = pends v left (file_of key) (slot_of key)

    its : (number : ℕ) → number ≡ key.page → IsDataPage number → 1 ≤ owner_at x → class_at x ≡ f.classes (owner_at x)
    its number at on = had (storage_area key.area) key.page x (is_area_file key.area) (subst IsDataPage at on) there

    of_shown : shown (line_on key x) ≡ Some bytes → FitsClass x (f.classes key.area) bytes
    of_shown shows = let fit = shown_fits (Pending v) now facts key x there bytes shows in fits_there (Pending v) now facts key x there f.classes bytes its fit.0 fit.1

    less_than : (i : ℕ) (line : Dbkey × Line) (ls : ChangedLines) → slice_get ls i ≡ Some line → i < length ls
    less_than i line [] at = let bad : ⊥ = cc in absurd bad
    less_than zero line (l ∷ ls) at = omega arith
    less_than (suc i) line (l ∷ ls) at = let rest = less_than i line ls at in omega (arith, rest)

    laid : IsLaid key f.group.lines now.lines → FitsClass x (f.classes key.area) bytes
    laid l =
        let line = of_lines lines classes l.index l.line (ap (λ (g : Group). slice_get g.lines l.index) (sym is) ∙ l.is) in
        let here = put l.index line.line (less_than l.index line.line lines line.got) line.got in
        let at_key : line_on key x ≡ line.line.1 = ap (λ (k : Dbkey). line_on k (v.content (file_of k) (slot_of k))) (sym l.same_key ∙ ap (λ g. g.key) line.is) ∙ here in
        of_shown (ap shown at_key ∙ ap (λ g. shown_as g.state g.image) (sym line.is) ∙ sym l.found ∙ got)

    kept : IsLeft key f.group.lines now.lines → FitsClass x (f.classes key.area) bytes
    kept l = let was = sym l.found ∙ got in ⊎_elim
        (λ (c : IsCommitted (Pending v) now key (line_on key x)). of_shown (c.shows ∙ was))
        (λ (c : IsChanged (Pending v) now key (line_on key x)). let old = facts.pages.class key bytes x was there in
        fits_there (Pending v) now facts key x there f.classes bytes its (changed_used (Pending v) now facts key x there c) (subst (λ (n : ℕ). length bytes ≤ n) (sym old.same) old.fits))
        (facts.line key x there)
