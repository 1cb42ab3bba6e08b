-- What RMU/RECOVER asks, leaves and writes.
use Rattle.std.specs.Prelude.{ℕ, ◌≡◌, ◌⊎◌, Bool, IsTrue, nat_eq, List, [], ◌∷◌, ◌++◌, length, codes}
use Rattle.std.specs.List.{list_any}
use Rattle.rdb_outside.specs.Disk.{Image, View, LeftNow, LeavesOnly}
use Rattle.root_file.specs.declared.Root.{Root}
use Rattle.root_file.specs.Root.{IsRoot}
use Rattle.journal_scan.specs.declared.group.Group.{Group}
use Rattle.new_database.specs.Maker.{root_file}
use Rattle.stable_lines.specs.Journal.{Journal}
use Rattle.rolled_lines.specs.Journals.{follow, gap}
use Rattle.laid_groups.specs.Forward.{Forward}
use Rattle.fitted_groups.specs.Meeting.{TakesFirst, FitPages}
use Rattle.rmu_texts.specs.Numbers.{count_line}
use Rattle.script_streams.specs.Fronts.{WritesFront}
use Rattle.rmu_recover.specs.declared.fault.RecoverFault.{RecoverFault}
use Rattle.rmu_recover.specs.declared.fault.RecoverFault.TheVariants.{Failed, NoMemory, Gap, Unfit, Bad}
use Rattle.rmu_recover.specs.Journals.{files_of, AreJournalsIn}
use Rattle.rmu_recover.specs.Recovering.{IsToRoll, IsSource, HasGroups, FitsImage, AreSound, IsRolled, WithinRecover}

-- ---- statuses

abbrev pub is_recover_status : ℕ → Bool
is_recover_status n = list_any (nat_eq n) (0 ∷ 3 ∷ 4 ∷ 5 ∷ 6 ∷ [])

-- the status of a roll-forward that gave up
abbrev pub rolling_status : RecoverFault → ℕ
rolling_status Failed = 3
rolling_status NoMemory = 5
rolling_status (Gap number) = 4
rolling_status (Unfit key) = 4
rolling_status (Bad file slot) = 4

-- the statuses at which it was carried out
abbrev pub HasRolled : ℕ → Type 0
HasRolled status = (status ≡ 0) ⊎ (status ≡ 6)

-- ---- what a database has to have

-- It was restored, or rolled forward in part; its journals follow on, and their groups fit its pages.
pub record MayBeRecovered (disk : View) (copies : List ℕ) : Type 0 where
  pub former : Image
  pub root : Root
  pub forward : Forward
  pub journals : List Journal
  pub groups : List Group
  pub aij : Journal
  pub to_roll : IsToRoll former root forward disk
  pub source : IsSource former copies root forward journals groups aij
  pub fits : FitsImage forward root groups disk.content

-- It is such a one, and between its journals a group is missing.
pub record LacksGroup (disk : View) (copies : List ℕ) : Type 0 where
  pub former : Image
  pub root : Root
  pub forward : Forward
  pub journals : List Journal
  pub number : ℕ
  pub to_roll : IsToRoll former root forward disk
  pub stand : AreJournalsIn former (files_of copies) journals
  pub missing : follow root.applied journals ≡ gap number

-- Its journals follow on, and their groups don't fit its pages.
pub record HasUnfit (disk : View) (copies : List ℕ) : Type 0 where
  pub former : Image
  pub root : Root
  pub forward : Forward
  pub journals : List Journal
  pub groups : List Group
  pub to_roll : IsToRoll former root forward disk
  pub has : HasGroups former copies root journals groups
  pub unfit : FitPages disk.content root.limits.pages groups → ⊥

-- the root is that of a database in use
pub record IsUsed (image : Image) : Type 0 where
  pub root : Root
  pub is : IsRoot (image root_file 0) root
  pub state : root.state ≡ 1

-- ---- what it leaves

-- Each crash behind it leaves a database in use that stands for the lines of the backup with the groups laid over them.
abbrev pub Rolls : View → View → List ℕ → Type 0
Rolls old new copies = (former : Image) (root : Root) (forward : Forward) (journals : List Journal) (groups : List Group) (aij : Journal) (classes : ℕ → ℕ)
    → IsToRoll former root forward old → IsSource former copies root forward journals groups aij → TakesFirst old.content forward groups → AreSound forward groups classes
    → (image : Image) → LeftNow new image → IsRolled classes root forward groups aij image

-- A crash at any moment of it leaves what one before might have left, an image that is rolled forward in part, from which the same command gives the same, or that.
abbrev pub RollsWithin : View → View → List ℕ → Type 0
RollsWithin old new copies = (former : Image) (root : Root) (forward : Forward) (journals : List Journal) (groups : List Group) (aij : Journal) (classes : ℕ → ℕ)
    → IsToRoll former root forward old → IsSource former copies root forward journals groups aij → TakesFirst old.content forward groups → AreSound forward groups classes
    → LeavesOnly old new (WithinRecover old former classes root forward groups aij)

-- ---- what it writes

-- how many groups were laid
abbrev pub groups_text : ℕ → List ℕ
groups_text count = count_line count (codes "groups")

-- A count is written: the whole text under 0, a front of it under 6, and else nothing. Where the disk tells it is that of the groups, and 0 of a database in use.
pub record TellsGroups (disk : View) (copies : List ℕ) (status : ℕ) (SinkTells : Type 0) (old new : List ℕ) : Type 0 where
  pub count : ℕ
  pub laid : HasRolled status → IsTrue disk.tells → (may : MayBeRecovered disk copies) → count ≡ length may.groups
  pub none : HasRolled status → IsTrue disk.tells → IsUsed disk.content → count ≡ 0
  pub whole : SinkTells → status ≡ 0 → new ≡ old ++ groups_text count
  pub front : SinkTells → status ≡ 6 → WritesFront old new (groups_text count)
  pub nothing : SinkTells → (status ≡ 3) ⊎ (status ≡ 4) ⊎ (status ≡ 5) → new ≡ old
