-- The slots of all three files, behind a push into one of them.
use Rattle.std.proofs.Common.{◌≡◌, ◌≢◌, ℕ, ◌-◌, ◌≤◌, ◌==◌, true, false, if◌then◌else◌, ⊎_elim, ap, sym, subst, ◌∙◌, arith, IsTrue}
use Rattle.std.proofs.lemmas.Bool.{false≢true}
use Rattle.rdb_types.specs.declared.file.FileId.{FileId}
use Rattle.rdb_types.specs.declared.keys.Dbkey.{Dbkey}
use Rattle.rdb_outside.specs.Disk.{Image, View}
use Rattle.line_versions.specs.Versions.{Followed, snap_of}
use Rattle.line_versions.specs.Files.{snap_file}
use Rattle.line_versions.specs.Course.{with_entry}
use Rattle.stable_lines.specs.Slots.{IsAreaFile}
use Rattle.line_moves.specs.declared.places.Place.{Place}
use Rattle.line_moves.specs.Calls.{OnlyWrites}
use Rattle.line_moves.specs.Changes.{IsPlaceOf}
use Rattle.line_moves.proofs.KeyPlaces.{area_is, is_on}
use Rattle.line_moves.proofs.Putting.{nat_cases}
use Rattle.disk_versions.proofs.Choices.{passed_by}
use Rattle.disk_versions.proofs.Moves.{kept_in_slot}
use Rattle.version_writing.specs.Slots.{SlotTable, HoldsFile, Spends}
use Rattle.version_writing.specs.Tables.{table_of, HoldsAll}
use Rattle.version_writing.specs.declared.snapshot_slots.SnapshotSlots.{SnapshotSlots}
use Rattle.version_writing.proofs.Held.{holds_moved}
use Rattle.version_writing.proofs.Freed.{holds_beside}

-- the file of a line's place is that of its versions
pub its_file : (key : Dbkey) (place : Place) → IsPlaceOf key place → snap_of key ≡ place.file
its_file key place names = ap (λ (f : FileId). f.number) (is_on key place names).in_file

pub is_file : (key : Dbkey) (place : Place) → IsPlaceOf key place → IsAreaFile (snap_of key)
is_file key place names = subst (λ (n : ℕ). IsAreaFile n) (sym (its_file key place names)) (area_is key place names)

pub table_there : (slots : SnapshotSlots) (file number : ℕ) → file ≡ number → table_of slots file ≡ table_of slots number
table_there slots file number same = ap (λ (n : ℕ). table_of slots n) same

-- what is kept of its file's slots
pub held_there : (image : Image) (followed : Followed) (limit : ℕ) (slots : SnapshotSlots) (key : Dbkey) (place : Place) (number : ℕ) → IsPlaceOf key place → place.file ≡ number → HoldsAll image followed limit slots → HoldsFile image followed (snap_of key) limit (table_of slots number)
held_there image followed limit slots key place number names at held =
    subst (λ (t : SlotTable). HoldsFile image followed (snap_of key) limit t) (table_there slots (snap_of key) number (its_file key place names ∙ at)) (held (snap_of key) (is_file key place names))

pub all_held : (v w : View) (followed : Followed) (limit : ℕ) (old new : SnapshotSlots) (number chain : ℕ) → IsTrue v.tells → 1 ≤ chain → followed number chain ≡ false → OnlyWrites (snap_file number) (chain - 1) v w
    → ((f : ℕ) → IsAreaFile f → f ≢ number → table_of new f ≡ table_of old f) → HoldsFile w.content (with_entry number chain followed) number limit (table_of new number) → HoldsAll v.content followed limit old → HoldsAll w.content (with_entry number chain followed) limit new
all_held v w followed limit old new number chain t some free writes others own was file is = ⊎_elim
    (λ same. subst (λ (n : ℕ). HoldsFile w.content (with_entry number chain followed) n limit (table_of new n)) (sym same) own)
    (λ apart. subst (λ (x : SlotTable). HoldsFile w.content (with_entry number chain followed) file limit x) (sym (others file is apart))
    (holds_beside w.content followed file limit (table_of old file) number chain apart (holds_moved v.content w.content followed file limit (table_of old file) (kept_in_slot v w followed number (chain - 1) t no_other writes) (was file is))))
    (nat_cases file number)
  where
    no_other : (c : ℕ) → 1 ≤ c → chain - 1 ≡ c - 1 → followed number c ≡ true → ⊥
    no_other c low at held = let same : chain ≡ c = omega (arith, some, low, at) in false≢true (sym free ∙ ap (λ (n : ℕ). followed number n) same ∙ held)

-- what was spent of its file's slots
pub spends_there : (old new : SnapshotSlots) (key : Dbkey) (place : Place) (number : ℕ) → IsPlaceOf key place → place.file ≡ number → Spends (table_of old number) (table_of new number) → Spends (table_of old (snap_of key)) (table_of new (snap_of key))
spends_there old new key place number names at spends = subst (λ (n : ℕ). Spends (table_of old n) (table_of new n)) (sym (its_file key place names ∙ at)) spends

-- of all files, where one alone is another
pub all_hold : (image : Image) (followed : Followed) (limit : ℕ) (old new : SnapshotSlots) (number : ℕ) → ((f : ℕ) → IsAreaFile f → f ≢ number → table_of new f ≡ table_of old f) → HoldsFile image followed number limit (table_of new number) → HoldsAll image followed limit old → HoldsAll image followed limit new
all_hold image followed limit old new number others own was file is = ⊎_elim
    (λ same. subst (λ (n : ℕ). HoldsFile image followed n limit (table_of new n)) (sym same) own)
    (λ apart. subst (λ (x : SlotTable). HoldsFile image followed file limit x) (sym (others file is apart)) (was file is))
    (nat_cases file number)

-- ---- what stays of the other files

cases : (f : ℕ) → IsAreaFile f → f ≢ 1 → f ≢ 2 → f ≡ 3
cases f is one two = let first = is.first in let last = is.last in omega (arith, first, last, one, two)

pub third : (key : Dbkey) (place : Place) → IsPlaceOf key place → place.file ≢ 1 → place.file ≢ 2 → place.file ≡ 3
third key place names one two = cases place.file (area_is key place names) one two

pub others_first : (old : SnapshotSlots) (t : SlotTable) (f : ℕ) → f ≢ 1 → table_of (record old { catalog = t }) f ≡ table_of old f
others_first old t f apart = passed_by t (if f == 2 then old.relations else old.indexes) f 1 apart ∙ sym (passed_by old.catalog (if f == 2 then old.relations else old.indexes) f 1 apart)

pub others_second : (old : SnapshotSlots) (t : SlotTable) (f : ℕ) → f ≢ 2 → table_of (record old { relations = t }) f ≡ table_of old f
others_second old t f apart = ap (λ (x : SlotTable). if f == 1 then old.catalog else x) (passed_by t old.indexes f 2 apart ∙ sym (passed_by old.relations old.indexes f 2 apart))

pub others_third : (old : SnapshotSlots) (t : SlotTable) (f : ℕ) → IsAreaFile f → f ≢ 3 → table_of (record old { indexes = t }) f ≡ table_of old f
others_third old t f is apart = ⊎_elim
    (λ one. ap (λ (n : ℕ). table_of (record old { indexes = t }) n) one ∙ sym (ap (λ (n : ℕ). table_of old n) one))
    (λ off. ⊎_elim
    (λ two. ap (λ (n : ℕ). table_of (record old { indexes = t }) n) two ∙ sym (ap (λ (n : ℕ). table_of old n) two))
    (λ away. absurd (apart (cases f is off away))) (nat_cases f 2))
    (nat_cases f 1)
