-- What an opening leaves as it is: classes of pages, space pages, and the root.
use Rattle.std.proofs.Common.{◌≡◌, ℕ, ◌+◌, ◌-◌, ◌%◌, List, IsTrue, sym, ap, ◌∙◌, subst, arith}
use Rattle.rdb_types.specs.declared.file.FileId.{FileId}
use Rattle.rdb_types.specs.declared.file.FileKind.TheVariants.{Root, Area, Ruj}
use Rattle.rdb_outside.specs.Disk.{Image, View, LeftNow, Pending, IsStable, OnlyReads}
use Rattle.area_files.specs.Areas.{IsDataPage}
use Rattle.new_database.specs.Maker.{root_file}
use Rattle.line_opening.specs.stable_lines.Slots.{area_file, ruj_file}
use Rattle.line_opening.specs.line_moves.Calls.{OnlyWrites}
use Rattle.line_opening.specs.line_moves.Classes.{HasItsClass, HaveTheirClasses, IsClassed}
use Rattle.line_opening.proofs.of_line_moves.PageClasses.{classes_beside as classes_aside}
use Rattle.line_opening.proofs.of_line_moves.Runs.{pends}
use Rattle.database_opening.specs.Untouched.{KeepsRootAndSpaces}

-- ---- nothing is written

pub classes_same : (old new : Image) (by_area : ℕ → ℕ) → ((file slot : ℕ) → new (area_file file) slot ≡ old (area_file file) slot) → IsClassed by_area old → IsClassed by_area new
classes_same old new by_area same lie file number is page = subst (λ (b : List ℕ). HasItsClass by_area b) (sym (same file (number - 1))) (lie file number is page)

pub classes_read : (old new : View) → OnlyReads old new → IsTrue old.tells → (by_area : ℕ → ℕ) → IsClassed by_area old.content → IsClassed by_area new.content
classes_read old new reads t by_area = classes_same old.content new.content by_area (λ file slot. (reads.keeps t).content (area_file file) slot)

-- where a crash leaves what reads give, each content has the classes that reads give
pub classes_stable : (v : View) → IsStable v → (by_area : ℕ → ℕ) → IsClassed by_area v.content → HaveTheirClasses by_area (Pending v)
classes_stable v stable by_area lie file number x is page p = subst (λ (b : List ℕ). HasItsClass by_area b) (sym (stable (area_file file) (number - 1) x p)) (lie file number is page)

-- what reads give is among what a crash may leave
pub classes_given : (v : View) → LeftNow v v.content → (by_area : ℕ → ℕ) → HaveTheirClasses by_area (Pending v) → IsClassed by_area v.content
classes_given v left by_area lie file number is page = lie file number (v.content (area_file file) (number - 1)) is page (pends v left (area_file file) (number - 1))

pub untouched_read : (old new : View) → OnlyReads old new → IsTrue old.tells → KeepsRootAndSpaces old.content new.content
untouched_read old new reads t = record { root = (reads.keeps t).content root_file 0; spaces = λ file page is space. (reads.keeps t).content (area_file file) (page - 1) }

pub untouched_on : (a b c : Image) → KeepsRootAndSpaces a b → KeepsRootAndSpaces b c → KeepsRootAndSpaces a c
untouched_on a b c first behind = record { root = behind.root ∙ first.root; spaces = λ file page is space. behind.spaces file page is space ∙ first.spaces file page is space }

-- ---- a header is written

areas_apart : (file member : ℕ) → area_file file ≡ ruj_file member → ⊥
areas_apart file member e = let kind : Area ≡ Ruj = ap (λ (f : FileId). f.kind) e in absurd (cc)

root_apart : (member : ℕ) → root_file ≡ ruj_file member → ⊥
root_apart member e = let kind : Root ≡ Ruj = ap (λ (f : FileId). f.kind) e in absurd (cc)

module _ (old new : View) (member : ℕ) (writes : OnlyWrites (ruj_file member) 0 old new) (t : IsTrue old.tells) where
  pub classes_beside : (by_area : ℕ → ℕ) → HaveTheirClasses by_area (Pending old) → HaveTheirClasses by_area (Pending new)
  classes_beside by_area = classes_aside by_area old new (ruj_file member) 0 t (λ kind. let bad : Ruj ≡ Area = kind in cc) writes

  pub untouched_beside : KeepsRootAndSpaces old.content new.content
  untouched_beside = record {
    root = writes.content t root_file 0 (λ same. absurd (root_apart member same));
    spaces = λ file page is space. writes.content t (area_file file) (page - 1) (λ same. absurd (areas_apart file member same));
  }

-- ---- a data page is written

off_areas : (number : ℕ) → root_file ≡ area_file number → ⊥
off_areas number e = let kind : Root ≡ Area = ap (λ (f : FileId). f.kind) e in absurd (cc)

pub page_untouched : (old new : View) (number slot : ℕ) → IsDataPage (slot + 1) → OnlyWrites (area_file number) slot old new → IsTrue old.tells → KeepsRootAndSpaces old.content new.content
page_untouched old new number slot is writes t = record {
  root = writes.content t root_file 0 (λ same. absurd (off_areas number same));
  spaces = λ file page whole space. writes.content t (area_file file) (page - 1) (λ same at. is.plain (ap (λ (n : ℕ). n % 200) (here page at) ∙ space));
}
  where
    here : (page : ℕ) → page - 1 ≡ slot → slot + 1 - 1 ≡ page - 1
    here page at = omega (arith, at)
