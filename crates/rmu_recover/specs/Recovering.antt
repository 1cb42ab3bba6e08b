-- A roll-forward: what it goes by, what it leaves at each moment, and what behind it.
use Rattle.std.specs.Prelude.{ℕ, ◌≤◌, ◌<◌, ◌≡◌, ◌≢◌, ◌⊎◌, List, length, slice_get, Some}
use Rattle.rdb_types.specs.declared.file.FileId.{FileId}
use Rattle.rdb_types.specs.declared.file.FileKind.TheVariants.{Area, Aij, AijBackup}
use Rattle.rdb_types.specs.declared.keys.Dbkey.{Dbkey}
use Rattle.rdb_outside.specs.Disk.{Image, View, Pending, IsPending}
use Rattle.root_file.specs.declared.Root.{Root}
use Rattle.root_file.specs.Root.{IsRoot}
use Rattle.area_files.specs.Areas.{IsDataPage}
use Rattle.ruj_journal.specs.declared.entry.RujEntry.{RujEntry}
use Rattle.ruj_journal.specs.Entry.{IsEntry}
use Rattle.journal_scan.specs.declared.group.Group.{Group}
use Rattle.line_versions.specs.Lines.{storage_area}
use Rattle.line_view.specs.Knowledge.{IsInOrder, line_in}
use Rattle.new_database.specs.Maker.{root_file}
use Rattle.stable_lines.specs.Slots.{ruj_file, IsMember, named}
use Rattle.stable_lines.specs.Journal.{Journal, IsJournalOf, next_number}
use Rattle.stable_lines.specs.Kept.{Kept, HasNoCommit, IsRujHeader}
use Rattle.stable_lines.specs.Rolling.{laid_groups}
use Rattle.rolled_lines.specs.HalfLaid.{writes_of}
use Rattle.rolled_lines.specs.Journals.{follow, laid}
use Rattle.fitted_groups.specs.laid_groups.Forward.{Forward, MayHold, FitLines}
use Rattle.fitted_groups.specs.laid_groups.Passing.{ceiling_behind}
use Rattle.fitted_groups.specs.Meeting.{TakesFirst, FitPages}
use Rattle.rmu_recover.specs.Journals.{files_of, AreJournalsIn}

-- ---- the root

-- the root while groups are laid, and behind them
abbrev pub root_unfinished : Root → Root
root_unfinished root = record root { state = 4 }

abbrev pub root_rolled : Root → ℕ → Root
root_rolled root ceiling = record root { state = 1; ceiling = ceiling }

-- the slot is this root: restored, or rolled forward in part
pub record IsRootBefore (root : Root) (slot : List ℕ) : Type 0 where
  pub state : ℕ
  pub is : IsRoot slot (record root { state = state })
  pub before : (state ≡ 3) ⊎ (state ≡ 4)

-- neither the root's file nor that of a storage area
pub record IsOther (file : FileId) : Type 0 where
  pub root : file ≢ root_file
  pub area : file.kind ≢ Area

-- ---- what stands before

-- the after-image journal, or a copy of it
abbrev pub IsJournalFile : FileId → Type 0
IsJournalFile file = (file.kind ≡ Aij) ⊎ (file.kind ≡ AijBackup)

-- A slot of a database that may be rolled forward, which was restored, or rolled forward in part: its root; no before-image journal names a transaction; the journals are as they were.
pub record MayStand (former : Image) (root : Root) (forward : Forward) (f : FileId) (i : ℕ) (x : List ℕ) : Type 0 where
  pub hold : MayHold forward f i x
  pub root_slot : f ≡ root_file → i ≡ 0 → IsRootBefore root x
  pub journal : IsJournalFile f → x ≡ former f i
  pub header : (member : ℕ) → IsMember member → f ≡ ruj_file member → i ≡ 0 → IsRujHeader x
  pub none_named : (member : ℕ) → IsMember member → f ≡ ruj_file member → i ≡ 0 → named x ≡ 0
  pub entry : (member : ℕ) (e : RujEntry) → IsMember member → f ≡ ruj_file member → 1 ≤ i → IsEntry x e → e.tsn.number < root.ceiling

-- such an image
abbrev pub MayBeRolled : Image → Root → Forward → Image → Type 0
MayBeRolled former root forward image = (f : FileId) (i : ℕ) → MayStand former root forward f i (image f i)

-- a disk on which a crash leaves none but such
abbrev pub IsToRoll : Image → Root → Forward → View → Type 0
IsToRoll former root forward v = (f : FileId) (i : ℕ) (x : List ℕ) → Pending v f i x → MayStand former root forward f i x

-- ---- what is laid

-- The journals follow on from the root's applied group; these are the groups; the after-image journal is the last one.
pub record IsSource (former : Image) (copies : List ℕ) (root : Root) (forward : Forward) (journals : List Journal) (groups : List Group) (aij : Journal) : Type 0 where
  pub journals_stand : AreJournalsIn former (files_of copies) journals
  pub follows : follow root.applied journals ≡ laid groups
  pub writes : forward.writes ≡ writes_of groups
  pub pages : forward.pages ≡ root.limits.pages
  pub top : forward.top ≡ ceiling_behind root.ceiling groups
  pub journal : IsJournalOf former aij
  pub commits : HasNoCommit former (next_number aij)
  pub below : (i : ℕ) (g : Group) → slice_get aij.groups i ≡ Some g → g.tsn.number < forward.top

-- each line of the groups has its place in the end
abbrev pub AllFit : Forward → List Group → Type 0
AllFit forward groups = (i : ℕ) (g : Group) → slice_get groups i ≡ Some g → FitLines forward g.lines

-- The groups follow on from the root's applied one.
pub record HasGroups (former : Image) (copies : List ℕ) (root : Root) (journals : List Journal) (groups : List Group) : Type 0 where
  pub journals_stand : AreJournalsIn former (files_of copies) journals
  pub follows : follow root.applied journals ≡ laid groups

-- The groups fit the pages of the image, and a page that was never used is in the end that of the first line that is laid on it.
pub record FitsImage (forward : Forward) (root : Root) (groups : List Group) (image : Image) : Type 0 where
  pub fit : FitPages image root.limits.pages groups
  pub first : TakesFirst image forward groups

-- The lines that are rolled forward lie on data pages, and behind that each is of its page's class.
pub record AreSound (forward : Forward) (groups : List Group) (classes : ℕ → ℕ) : Type 0 where
  pub in_order : IsInOrder forward.base
  pub lie : (key : Dbkey) (bytes : List ℕ) → line_in key forward.base ≡ Some bytes → IsDataPage key.page
  pub class : (key : Dbkey) (bytes : List ℕ) → line_in key (laid_groups groups forward.base) ≡ Some bytes → forward.sizes (storage_area key.area) key.page ≡ classes key.area
  pub fits : (key : Dbkey) (bytes : List ℕ) → line_in key (laid_groups groups forward.base) ≡ Some bytes → length bytes ≤ classes key.area

-- ---- what is left

-- The image is in use, and stands for the lines rolled forward, with the journal that was there.
pub record IsRolled (classes : ℕ → ℕ) (root : Root) (forward : Forward) (groups : List Group) (aij : Journal) (image : Image) : Type 0 where
  pub root_is : IsRoot (image root_file 0) (root_rolled root forward.top)
  pub kept : Kept classes (laid_groups groups forward.base) aij image

-- What a crash may leave within it: what it might have left before; an image that says that it is unfinished and whose pages the groups fit, from which the same roll-forward gives the same lines; or the lines rolled forward.
pub data WithinRecover (v : View) (former : Image) (classes : ℕ → ℕ) (root : Root) (forward : Forward) (groups : List Group) (aij : Journal) (image : Image) : Type 0 where
  as_before : IsPending v image → WithinRecover v former classes root forward groups aij image
  unfinished : IsRoot (image root_file 0) (root_unfinished root) → MayBeRolled former root forward image → FitsImage forward root groups image → WithinRecover v former classes root forward groups aij image
  rolled : IsRolled classes root forward groups aij image → WithinRecover v former classes root forward groups aij image
