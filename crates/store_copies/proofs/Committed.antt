-- What is committed lies on pages of the areas' classes, and fits them.
use Rattle.std.proofs.Common.{◌≡◌, ◌≤◌, ◌∙◌, ℕ, Bool, true, false, List, length, Some, ⊎_elim, sym, subst, refl, arith}
use Rattle.rdb_types.specs.declared.keys.Dbkey.{Dbkey}
use Rattle.rdb_outside.specs.Disk.{View, LeftNow, Pending}
use Rattle.rdb_page.specs.Lines.{never}
use Rattle.rdb_page.specs.Page.{IsClass, class_at}
use Rattle.rdb_page.specs.Whole.{IsUsedPage}
use Rattle.area_files.specs.Areas.{IsDataPage}
use Rattle.line_versions.specs.Lines.{storage_area}
use Rattle.line_view.specs.Knowledge.{line_in}
use Rattle.stable_lines.specs.Slots.{file_of, slot_of, owner_at, has_place, line_on}
use Rattle.stable_lines.specs.Kept.{FitsClass}
use Rattle.stable_lines.specs.Progress.{Progress}
use Rattle.stable_lines.specs.Facts.{IsChanged, IsCommitted, Facts}
use Rattle.stable_lines.proofs.Never.{zeros_owner}
use Rattle.line_moves.specs.Classes.{HaveTheirClasses}
use Rattle.line_moves.proofs.Putting.{HasPlace, place_says}
use Rattle.line_moves.proofs.Reading.{class_is, line_none}
use Rattle.line_moves.proofs.Runs.{pends}
use Rattle.member_steps.proofs.ClassesHad.{changed_used, fits_there, is_area_file, is_data, shown_fits}

-- an image fits its area's class, which is one of the two
pub record IsOfClass (class : ℕ) (bytes : List ℕ) : Type 0 where
  pub is : IsClass class
  pub fits : length bytes ≤ class

module _ (v : View) (left : LeftNow v v.content) (now : Progress) (facts : Facts (Pending v) now) (classes : ℕ → ℕ) (had : HaveTheirClasses classes (Pending v)) (key : Dbkey) (bytes : List ℕ) (got : line_in key now.lines ≡ Some bytes) where
  abbrev x : List ℕ
  x = v.content (file_of key) (slot_of key)

  there : Pending v (file_of key) (slot_of key) x
  there = pends v left (file_of key) (slot_of key)

  its : (number : ℕ) → number ≡ key.page → IsDataPage number → 1 ≤ owner_at x → class_at x ≡ classes (owner_at x)
  its number at on = had (storage_area key.area) key.page x (is_area_file key.area) (subst IsDataPage at on) there

  -- the page has the line, and is of its area
  of-page : (line_on key x ≡ never → ⊥) → IsClass (class_at x)
  of-page used = of (has_place key x) refl
    where
      by : has_place key x ≡ true → IsClass (class_at x)
      by has =
          let says : HasPlace key x = place_says key x has in
          ⊎_elim
          (λ unused. let none = zeros_owner x unused in let owned = says.owned in let some = says.area in absurd (omega (arith, none, owned, some)))
          (λ (whole : IsUsedPage (storage_area key.area) key.page x). subst IsClass (sym (class_is x whole.head whole.stands.head)) whole.stands.head.class)
          (facts.pages.page (storage_area key.area) key.page x (is_area_file key.area) (is_data (Pending v) now facts key x there has) there)

      of : (b : Bool) → has_place key x ≡ b → IsClass (class_at x)
      of true is = by is
      of false is = absurd (used (line_none key x is))

  made : (line_on key x ≡ never → ⊥) → length bytes ≤ class_at x → IsOfClass (classes key.area) bytes
  made used le =
      let fits : FitsClass x (classes key.area) bytes = fits_there (Pending v) now facts key x there classes bytes its used le in
      record { is = subst IsClass fits.same (of-page used); fits = fits.fits }

  pub committed-fits : IsOfClass (classes key.area) bytes
  committed-fits = ⊎_elim
      (λ (c : IsCommitted (Pending v) now key (line_on key x)). let fit = shown_fits (Pending v) now facts key x there bytes (c.shows ∙ got) in made fit.0 fit.1)
      (λ (c : IsChanged (Pending v) now key (line_on key x)). let old = facts.pages.class key bytes x got there in
      made (changed_used (Pending v) now facts key x there c) (subst (λ (n : ℕ). length bytes ≤ n) (sym old.same) old.fits))
      (facts.line key x there)
