-- What makes an image one that opening can start from.
use Rattle.std.specs.Prelude.{ℕ, ◌-◌, ◌≤◌, ◌<◌, ◌≡◌, ◌⊎◌, false, List, length, slice_get, Option, Some, None}
use Rattle.rdb_types.specs.declared.keys.Dbkey.{Dbkey}
use Rattle.rdb_types.specs.declared.keys.Tsn.{Tsn}
use Rattle.rdb_types.specs.declared.keys.Line.{Line}
use Rattle.journal_reading.specs.rdb_outside.Disk.{Image, zeros}
use Rattle.new_database.specs.root_file.declared.Root.{Root}
use Rattle.new_database.specs.root_file.Root.{IsRoot}
use Rattle.ruj_journal.specs.rdb_page.Whole.{IsPageOf}
use Rattle.ruj_journal.specs.rdb_page.Page.{class_at}
use Rattle.space_pages.specs.area_files.Areas.{IsPage, IsSpacePage, IsDataPage, space_page_of}
use Rattle.space_pages.specs.Space.{IsSpace, owner_of}
use Rattle.ruj_journal.specs.declared.entry.RujEntry.{RujEntry}
use Rattle.ruj_journal.specs.Entry.{IsEntry}
use Rattle.ruj_journal.specs.Header.{IsHeader}
use Rattle.new_database.specs.aij_journal.declared.part.AijPart.{AijPart}
use Rattle.journal_reading.specs.journal_scan.declared.group.Group.{Group}
use Rattle.journal_reading.specs.journal_scan.Standing.{what_stands}
use Rattle.line_view.specs.Knowledge.{Lines, line_in}
use Rattle.new_database.specs.Maker.{root_file, aij_file}
use Rattle.stable_lines.specs.Slots.{ruj_file, area_file, file_of, slot_of, owner_at, IsMember, IsAreaFile, line_at, named}
use Rattle.stable_lines.specs.Journal.{Journal, IsJournalOf, next_number, has_group}
use Rattle.stable_lines.specs.Image.{IsEnded, IsBefore, StandsFor}

-- ---- what a slot may be

-- a header of a before-image journal
abbrev pub IsRujHeader : List ℕ → Type 0
IsRujHeader slot = (open_tsn : Option Tsn) × IsHeader slot open_tsn

-- a page that is used has this class, and an image of a line fits it
pub record FitsClass (page : List ℕ) (class : ℕ) (bytes : List ℕ) : Type 0 where
  pub same : class_at page ≡ class
  pub fits : length bytes ≤ class

-- ---- the image

-- The root: whole, or restored and not yet used; then no transaction is open.
pub record IsRootOf (image : Image) (root : Root) : Type 0 where
  pub is : IsRoot (image root_file 0) root
  pub state : (root.state ≡ 1) ⊎ (root.state ≡ 3)
  pub restored : root.state ≡ 3 → (member : ℕ) → IsMember member → named (image (ruj_file member) 0) ≡ 0

-- each page, each space page and each header passes its decoder, and what is past the limit of pages is zeros
pub record IsWellFormed (image : Image) (pages : ℕ) : Type 0 where
  pub page : (file number : ℕ) → IsAreaFile file → IsDataPage number → IsPageOf file number (image (area_file file) (number - 1))
  pub space : (file number : ℕ) → IsAreaFile file → IsPage number → IsSpacePage number → IsSpace (image (area_file file) (number - 1)) number
  pub header : (member : ℕ) → IsMember member → IsRujHeader (image (ruj_file member) 0)
  pub owner : (file number : ℕ) → IsAreaFile file → IsDataPage number → 1 ≤ owner_at (image (area_file file) (number - 1))
      → owner_of number (image (area_file file) (space_page_of number - 1)) ≡ owner_at (image (area_file file) (number - 1))
  pub past : (file slot : ℕ) → IsAreaFile file → pages ≤ slot → slot < 65536 → image (area_file file) slot ≡ zeros (area_file file)

-- every transaction number that counts is below the ceiling
pub record IsBelow (image : Image) (groups : List Group) (ceiling : ℕ) : Type 0 where
  pub line : (key : Dbkey) → (line_at image key).tsn.number < ceiling
  pub header : (member : ℕ) → IsMember member → named (image (ruj_file member) 0) < ceiling
  pub entry : (member slot : ℕ) (e : RujEntry) → IsMember member → 1 ≤ slot → IsEntry (image (ruj_file member) slot) e → e.tsn.number < ceiling
  pub group : (i : ℕ) (g : Group) → slice_get groups i ≡ Some g → g.tsn.number < ceiling

-- the line bears a transaction that this member's journal names, and that has no whole group
pub record BearsOpen (image : Image) (groups : List Group) (key : Dbkey) (member : ℕ) : Type 0 where
  pub is_member : IsMember member
  pub number : 1 ≤ (line_at image key).tsn.number
  pub names : named (image (ruj_file member) 0) ≡ (line_at image key).tsn.number
  pub no_group : has_group (line_at image key).tsn.number groups ≡ false

-- an entry of the transaction and of the line
pub record IsOf (e : RujEntry) (tsn : Tsn) (key : Dbkey) : Type 0 where
  pub same_tsn : e.tsn.number ≡ tsn.number
  pub same_key : e.key ≡ key

-- No other journal names it, and one slot of this one has the line as it was before, which bears an ended transaction.
pub record IsUndone (image : Image) (groups : List Group) (ceiling : ℕ) (key : Dbkey) (member : ℕ) : Type 0 where
  pub only : (other : ℕ) → IsMember other → named (image (ruj_file other) 0) ≡ (line_at image key).tsn.number → other ≡ member
  pub before : Line
  pub is : IsBefore image member (line_at image key).tsn key before
  pub one : (i k : ℕ) (a b : RujEntry) → 1 ≤ i → 1 ≤ k → IsEntry (image (ruj_file member) i) a → IsEntry (image (ruj_file member) k) b → IsOf a (line_at image key).tsn key → IsOf b (line_at image key).tsn key → i ≡ k
  pub below : before.tsn.number < ceiling
  pub ended : IsEnded image groups before.tsn.number

-- no slot is a commit of the next group, or of one behind it
abbrev pub HasNoCommit : Image → ℕ → Type 0
HasNoCommit image number = (slot : ℕ) (part : AijPart) → 1 ≤ slot → what_stands (image aij_file slot) ≡ Some part → part.line ≡ None → part.number < number

-- The image is one that opening can start from: these are its groups, and it stands for these lines, which lie on pages of these classes.
pub record Kept (classes : ℕ → ℕ) (lines : Lines) (j : Journal) (image : Image) : Type 0 where
  pub root : Root
  pub is_root : IsRootOf image root
  pub journal : IsJournalOf image j
  pub commits : HasNoCommit image (next_number j)
  pub stands : StandsFor image j.groups lines
  pub class : (key : Dbkey) (bytes : List ℕ) → line_in key lines ≡ Some bytes → FitsClass (image (file_of key) (slot_of key)) (classes key.area) bytes
  pub undone : (key : Dbkey) (member : ℕ) → BearsOpen image j.groups key member → IsUndone image j.groups root.ceiling key member
  -- no two journals name one transaction
  pub alone : (a b : ℕ) → IsMember a → IsMember b → 1 ≤ named (image (ruj_file a) 0) → named (image (ruj_file a) 0) ≡ named (image (ruj_file b) 0) → a ≡ b
  pub well_formed : IsWellFormed image root.limits.pages
  pub below : IsBelow image j.groups root.ceiling
