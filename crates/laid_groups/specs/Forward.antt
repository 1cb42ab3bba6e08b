-- A roll-forward: what lies below, what is laid over it, and what each slot may hold meanwhile.
use Rattle.std.specs.Prelude.{ℕ, ◌-◌, ◌≤◌, ◌<◌, ◌^◌, ◌≡◌, ◌⊎◌, List, take, slice_get, Some}
use Rattle.rdb_types.specs.declared.file.FileId.{FileId}
use Rattle.rdb_types.specs.declared.file.FileKind.TheVariants.{Area}
use Rattle.rdb_types.specs.declared.keys.Dbkey.{Dbkey}
use Rattle.rdb_types.specs.declared.keys.Line.{Line}
use Rattle.rdb_types.specs.declared.keys.Tsn.{Tsn}
use Rattle.rdb_outside.specs.Disk.{Image, View, Pending, zeros}
use Rattle.rdb_page.specs.Page.{IsUnused, lines_of}
use Rattle.rdb_page.specs.Whole.{IsPageOf}
use Rattle.area_files.specs.Areas.{IsPage, IsDataPage, IsSpacePage, space_page_of}
use Rattle.space_pages.specs.Space.{IsSpace, owner_of}
use Rattle.aij_journal.specs.declared.part.GroupLine.{GroupLine}
use Rattle.aij_journal.specs.Part.{IsAllowedLine}
use Rattle.journal_scan.specs.declared.group.Group.{Group}
use Rattle.line_view.specs.declared.writes.Write.{Write}
use Rattle.line_view.specs.Knowledge.{Lines, line_in}
use Rattle.line_versions.specs.Lines.{shown}
use Rattle.stable_lines.specs.Slots.{area_file, IsAreaFile, line_on}
use Rattle.stable_lines.specs.Journal.{write_of}
use Rattle.line_moves.specs.declared.places.Place.{Place}
use Rattle.line_moves.specs.Contents.{IsOn}
use Rattle.line_moves.specs.Changes.{IsPlaceOf}
use Rattle.rolled_lines.specs.HalfLaid.{line_behind}
use Rattle.guarded_root.specs.Guarded.{AddsOnly}
use Rattle.guarded_lines.specs.Laying.{IsOfArea}

-- The lines of the backup and the writes that are laid over them; how many pages an area file may have; a number that no transaction's reaches; and whose each page of an area file is in the end, with its class.
pub record Forward : Type 0 where
  pub base : Lines
  pub writes : List Write
  pub pages : ℕ
  pub top : ℕ
  pub owners : ℕ → ℕ → ℕ
  pub sizes : ℕ → ℕ → ℕ

-- one of these writes is of a line of the page
pub record IsWrittenBy (writes : List Write) (file number : ℕ) : Type 0 where
  pub index : ℕ
  pub write : Write
  pub is : slice_get writes index ≡ Some write
  pub on : IsOn file number write.key

-- ---- what slots may hold

-- the line is as some of the writes left it, from the first on
abbrev pub IsHalfLaid : Forward → Dbkey → Line → Type 0
IsHalfLaid forward key line = (count : ℕ) × (shown line ≡ line_behind key (take count forward.writes) (line_in key forward.base))

-- A page is never used, or one of its owner and class; each of its lines is as some of the writes left it.
pub record MayBePage (forward : Forward) (file number : ℕ) (x : List ℕ) : Type 0 where
  pub page : IsPageOf file number x
  pub used : IsUnused x ⊎ IsOfArea (forward.owners file number) (forward.sizes file number) x
  pub line : (key : Dbkey) → IsOn file number key → IsHalfLaid forward key (line_on key x)
  pub below : (key : Dbkey) → IsOn file number key → (line_on key x).tsn.number < forward.top

-- A space page says whose each page is, but of one that is written yet.
pub record MayBeSpace (forward : Forward) (file number : ℕ) (x : List ℕ) : Type 0 where
  pub space : IsSpace x number
  pub owner : (page : ℕ) → IsDataPage page → space_page_of page ≡ number → (owner_of page x ≡ forward.owners file page) ⊎ IsWrittenBy forward.writes file page

-- what a slot may hold while lines are laid
pub record MayHold (forward : Forward) (f : FileId) (i : ℕ) (x : List ℕ) : Type 0 where
  pub page : (file number : ℕ) → IsAreaFile file → IsDataPage number → f ≡ area_file file → i ≡ number - 1 → MayBePage forward file number x
  pub space : (file number : ℕ) → IsAreaFile file → IsPage number → IsSpacePage number → f ≡ area_file file → i ≡ number - 1 → MayBeSpace forward file number x
  pub past : (file : ℕ) → IsAreaFile file → f ≡ area_file file → forward.pages ≤ i → i < 65536 → x ≡ zeros (area_file file)

-- each slot of the image does
abbrev pub IsUnderWay : Forward → Image → Type 0
IsUnderWay forward image = (f : FileId) (i : ℕ) → MayHold forward f i (image f i)

-- whatever a crash leaves does
abbrev pub IsReady : Forward → View → Type 0
IsReady forward v = (f : FileId) (i : ℕ) (x : List ℕ) → Pending v f i x → MayHold forward f i x

-- a slot of an area file with what it may hold
abbrev pub IsHeld : Forward → FileId → ℕ → List ℕ → Type 0
IsHeld forward f i x = (f.kind ≡ Area) × MayHold forward f i x

-- A run of calls adds none but such slots to what a crash may leave, at every moment.
abbrev pub KeepsReady : Forward → View → View → Type 0
KeepsReady forward old new = IsReady forward old → AddsOnly (IsHeld forward) old new

-- ---- which groups may be laid

-- a line of a group as it is laid: the transaction of the group made it so, and it has no version before
abbrev pub line_laid : Tsn → GroupLine → Line
line_laid tsn l = record { state = l.state; tsn = tsn; chain = 0; image = l.image }

-- The line has its place on a page of its owner and class, and is one of the writes.
pub record FitsLine (forward : Forward) (l : GroupLine) : Type 0 where
  pub place : Place
  pub names : IsPlaceOf l.key place
  pub within : l.key.page ≤ forward.pages
  pub line : l.key.line < lines_of l.class
  pub owner : forward.owners place.file place.page ≡ l.key.area
  pub size : forward.sizes place.file place.page ≡ l.class
  pub allowed : IsAllowedLine l
  pub index : ℕ
  pub write : slice_get forward.writes index ≡ Some (write_of l)

abbrev pub FitLines : Forward → List GroupLine → Type 0
FitLines forward lines = (i : ℕ) (l : GroupLine) → slice_get lines i ≡ Some l → FitsLine forward l

pub record FitsGroup (forward : Forward) (g : Group) : Type 0 where
  pub tsn : g.tsn.number < forward.top
  pub few : forward.top ≤ 2 ^ 62
  pub each : FitLines forward g.lines

abbrev pub FitAll : Forward → List Group → Type 0
FitAll forward groups = (i : ℕ) (g : Group) → slice_get groups i ≡ Some g → FitsGroup forward g
