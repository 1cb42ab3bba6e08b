-- Pages keep the classes of their areas, and their owners.
use Rattle.std.proofs.Common.{◌≡◌, ◌≢◌, ℕ, ◌-◌, ◌≤◌, IsTrue, List, ⊎_elim, ap, sym, subst, ◌∙◌, arith}
use Rattle.line_store.specs.rdb_page.Page.{class_at}
use Rattle.rdb_types.specs.declared.file.FileId.{FileId}
use Rattle.rdb_types.specs.declared.file.FileKind.TheVariants.{Area}
use Rattle.line_store.specs.rdb_outside.Disk.{View, Pending, OnlyReads}
use Rattle.stable_lines.specs.Facts.{More}
use Rattle.line_moves.specs.Changes.{IsForArea}
use Rattle.line_store.specs.area_files.Areas.{IsDataPage, space_page_of}
use Rattle.stable_lines.specs.Slots.{area_file, owner_at}
use Rattle.line_moves.specs.declared.places.Place.{Place}
use Rattle.line_moves.specs.Calls.{OnlyWrites}
use Rattle.line_moves.specs.Lines.{IsStarted}
use Rattle.line_moves.specs.Classes.{HasItsClass, HaveTheirClasses, KeepsOwners}
use Rattle.line_moves.proofs.PageWrite.{space_apart}
use Rattle.line_moves.proofs.Reading.{owner_is, class_is}

-- nothing may be left that might not have been before
pub classes_stay : (classes : ℕ → ℕ) (old new : View) → ((f : FileId) (i : ℕ) (x : List ℕ) → Pending new f i x → Pending old f i x) → HaveTheirClasses classes (Pending old) → HaveTheirClasses classes (Pending new)
classes_stay classes old new fewer was file number x is on p = was file number x is on (fewer (area_file file) (number - 1) x p)

-- a page with the owner and the class that another had
pub class_kept : (classes : ℕ → ℕ) (y x : List ℕ) → owner_at x ≡ owner_at y → class_at x ≡ class_at y → HasItsClass classes y → HasItsClass classes x
class_kept classes y x owner class was owned = class ∙ was (subst (λ (n : ℕ). 1 ≤ n) owner owned) ∙ ap classes (sym owner)

-- a page that was begun for a line of its area
pub class_begun : (classes : ℕ → ℕ) (place : Place) (owner class : ℕ) (y z : List ℕ) → IsStarted place owner class y z → class ≡ classes owner → HasItsClass classes y → HasItsClass classes z
class_begun classes place owner class y z started its was = ⊎_elim
    (λ unused owned. let is = (started.unused unused).is in class_is z _ is ∙ its ∙ ap classes (sym (owner_is z _ is)))
    (λ (same : z ≡ y). subst (λ (b : List ℕ). HasItsClass classes b) (sym same) was) started.either

-- one page may be left otherwise
pub classes_behind : (classes : ℕ → ℕ) (old new : View) (file number : ℕ) (x : List ℕ) → More (Pending new) (Pending old) (area_file file) (number - 1) x → HasItsClass classes x → HaveTheirClasses classes (Pending old) → HaveTheirClasses classes (Pending new)
classes_behind classes old new file number x more its was f n y is on p = ⊎_elim
    (λ q. was f n y is on q)
    (λ here. subst (λ (b : List ℕ). HasItsClass classes b) (sym here.2) its)
    (more (area_file f) (n - 1) y p)

-- ---- calls that write no data page

pub classes_read : (classes : ℕ → ℕ) (old new : View) → OnlyReads old new → IsTrue old.tells → HaveTheirClasses classes (Pending old) → HaveTheirClasses classes (Pending new)
classes_read classes old new reads t = classes_stay classes old new (reads.keeps t).pending

-- a slot of another kind of file was written
pub classes_beside : (classes : ℕ → ℕ) (old new : View) (file : FileId) (slot : ℕ) → IsTrue old.tells → file.kind ≢ Area → OnlyWrites file slot old new → HaveTheirClasses classes (Pending old) → HaveTheirClasses classes (Pending new)
classes_beside classes old new file slot t other writes was f n x is on p =
    was f n x is on (writes.pending t (area_file f) (n - 1) x (λ same at. other (ap (λ (k : FileId). k.kind) (sym same))) p)

-- the space page that speaks of a page was written
pub classes_beside_space_of : (classes : ℕ → ℕ) (old new : View) (file number : ℕ) → IsTrue old.tells → IsDataPage number → OnlyWrites (area_file file) (space_page_of number - 1) old new → HaveTheirClasses classes (Pending old) → HaveTheirClasses classes (Pending new)
classes_beside_space_of classes old new file number t page writes was f n x is on p =
    was f n x is on (writes.pending t (area_file f) (n - 1) x (λ same at. space_apart number n on.is_page.first on.plain (sym at) page.is_page.first) p)

-- ---- owners of what may be left

-- nothing may be left that might not have been before
pub owners_stay : (old new : View) → ((f : FileId) (i : ℕ) (x : List ℕ) → Pending new f i x → Pending old f i x) → (there : Place) (area : ℕ) → KeepsOwners (Pending old) (Pending new) there area
owners_stay old new fewer there area was x p some = was x (fewer (area_file there.file) (there.page - 1) x p) some

-- One page may be left otherwise, with the owner that another content of it may have, or an area's of whose lines it is.
pub owners_behind : (old new : View) (file number : ℕ) (x : List ℕ) → 1 ≤ number → More (Pending new) (Pending old) (area_file file) (number - 1) x → (there : Place) (area : ℕ) → 1 ≤ there.page
    → (there.file ≡ file → there.page ≡ number → IsForArea (Pending old) there area → 1 ≤ owner_at x → owner_at x ≡ area) → KeepsOwners (Pending old) (Pending new) there area
owners_behind old new file number x first more there area some its was y p owned = ⊎_elim
    (λ q. was y q owned)
    (λ here. let same : y ≡ x = here.2 in
    ap owner_at same ∙ its (ap (λ (k : FileId). k.number) here.0) (same_number here.1) was (subst (λ (b : List ℕ). 1 ≤ owner_at b) same owned))
    (more (area_file there.file) (there.page - 1) y p)
  where
    same_number : there.page - 1 ≡ number - 1 → there.page ≡ number
    same_number at = omega (arith, some, first, at)

-- a slot of another kind of file was written
pub owners_beside : (old new : View) (file : FileId) (slot : ℕ) → IsTrue old.tells → file.kind ≢ Area → OnlyWrites file slot old new → (there : Place) (area : ℕ) → KeepsOwners (Pending old) (Pending new) there area
owners_beside old new file slot t other writes there area was x p some =
    was x (writes.pending t (area_file there.file) (there.page - 1) x (λ same at. other (ap (λ (k : FileId). k.kind) (sym same))) p) some

-- the space page that speaks of a page was written
pub owners_beside_space : (old new : View) (file number : ℕ) → IsTrue old.tells → IsDataPage number → OnlyWrites (area_file file) (space_page_of number - 1) old new → (there : Place) (area : ℕ) → IsDataPage there.page → KeepsOwners (Pending old) (Pending new) there area
owners_beside_space old new file number t page writes there area on was x p some =
    was x (writes.pending t (area_file there.file) (there.page - 1) x (λ same at. space_apart number there.page on.is_page.first on.plain (sym at) page.is_page.first) p) some

-- the owner of a page that was begun for a line
pub owner_begun : (place : Place) (owner class area : ℕ) (y z : List ℕ) → IsStarted place owner class y z → owner ≡ area → (1 ≤ owner_at y → owner_at y ≡ area) → 1 ≤ owner_at z → owner_at z ≡ area
owner_begun place owner class area y z started own was = ⊎_elim
    (λ unused some. owner_is z _ (started.unused unused).is ∙ own)
    (λ (same : z ≡ y) some. ap owner_at same ∙ was (subst (λ (b : List ℕ). 1 ≤ owner_at b) same some)) started.either
