-- What every step of the engine keeps of the pending contents of slots. Nothing here speaks of a disk, or of whole images.
use Rattle.std.specs.Prelude.{ℕ, ◌+◌, ◌-◌, ◌≤◌, ◌<◌, ◌≡◌, ◌≢◌, ◌⊎◌, true, false, List, [], length, slice_get, Option, Some, None}
use Rattle.rdb_types.specs.declared.file.FileId.{FileId}
use Rattle.rdb_types.specs.declared.keys.Dbkey.{Dbkey}
use Rattle.rdb_types.specs.declared.keys.Line.{Line}
use Rattle.rdb_types.specs.declared.keys.Tsn.{Tsn}
use Rattle.journal_reading.specs.rdb_outside.Disk.{Image, zeros}
use Rattle.new_database.specs.root_file.declared.Root.{Root}
use Rattle.new_database.specs.root_file.Root.{IsRoot}
use Rattle.space_pages.specs.area_files.Areas.{IsPage, IsSpacePage, IsDataPage, space_page_of}
use Rattle.space_pages.specs.Space.{IsSpace, owner_of}
use Rattle.ruj_journal.specs.declared.entry.RujEntry.{RujEntry}
use Rattle.ruj_journal.specs.Entry.{IsEntry}
use Rattle.new_database.specs.aij_journal.declared.part.GroupLine.{GroupLine}
use Rattle.new_database.specs.aij_journal.declared.part.AijPart.{AijPart}
use Rattle.new_database.specs.aij_journal.Header.{IsHeader}
use Rattle.journal_reading.specs.journal_scan.declared.group.Group.{Group}
use Rattle.journal_reading.specs.journal_scan.Standing.{what_stands}
use Rattle.journal_reading.specs.journal_scan.Whole.{slots_of, IsWhole, AreWhole}
use Rattle.line_view.specs.Knowledge.{IsInOrder, line_in}
use Rattle.new_database.specs.Maker.{root_file, aij_file}
use Rattle.line_versions.specs.Lines.{shown, shown_as}
use Rattle.stable_lines.specs.Slots.{ruj_file, area_file, file_of, slot_of, owner_at, IsMember, IsAreaFile, line_on, named, Undo, entry_at}
use Rattle.stable_lines.specs.Journal.{Journal, slots_in, next_number, next_slot, has_group, commit_of}
use Rattle.ruj_journal.specs.rdb_page.Whole.{IsPageOf}
use Rattle.stable_lines.specs.Kept.{Kept, IsOf, IsRujHeader, FitsClass}
use Rattle.stable_lines.specs.Progress.{Open, Flight, Progress, lines_with, journal_with}

-- ---- contents that a crash may leave

-- what each slot may hold after a crash
abbrev pub PendingContents : Type 1
PendingContents = FileId → ℕ → List ℕ → Type 0

-- what a crash may leave is no more than before
abbrev pub Fewer : PendingContents → PendingContents → Type 0
Fewer Q P = (f : FileId) (i : ℕ) (x : List ℕ) → Q f i x → P f i x

-- no more than before, and these bytes in this slot
abbrev pub More : PendingContents → PendingContents → FileId → ℕ → List ℕ → Type 0
More Q P file slot bytes = (f : FileId) (i : ℕ) (x : List ℕ) → Q f i x → P f i x ⊎ ((f ≡ file) × (i ≡ slot) × (x ≡ bytes))

-- only one content of the slots is left
abbrev pub Only : PendingContents → Image → Type 0
Only P image = (f : FileId) (i : ℕ) (x : List ℕ) → P f i x → x ≡ image f i

-- each slot of the image has one of these contents
abbrev pub IsImageOf : PendingContents → Image → Type 0
IsImageOf P image = (f : FileId) (i : ℕ) → P f i (image f i)

-- what the page of a line may hold
abbrev pub OnPage : PendingContents → Dbkey → List ℕ → Type 0
OnPage P key x = P (file_of key) (slot_of key) x

-- ---- lines

-- A header that a crash may leave names the transaction only where that has a whole group.
abbrev pub HasEnded : PendingContents → Progress → ℕ → Type 0
HasEnded P now tsn = (member : ℕ) (h : List ℕ) → IsMember member → 1 ≤ tsn → P (ruj_file member) 0 h → named h ≡ tsn → has_group tsn now.journal.groups ≡ true

-- no open transaction has this number
abbrev pub IsNotOpen : Progress → ℕ → Type 0
IsNotOpen now tsn = (member : ℕ) (o : Open) → now.going member ≡ Some o → tsn ≢ o.tsn.number

-- the line is as committed
pub record IsCommitted (P : PendingContents) (now : Progress) (key : Dbkey) (line : Line) : Type 0 where
  pub shows : shown line ≡ line_in key now.lines
  pub ended : HasEnded P now line.tsn.number
  pub not_open : IsNotOpen now line.tsn.number

-- one slot alone may be an entry of the transaction and the line
abbrev pub HasOneEntry : PendingContents → ℕ → Tsn → Dbkey → Type 0
HasOneEntry P member tsn key = (i k : ℕ) (x y : List ℕ) (a b : RujEntry) → 1 ≤ i → 1 ≤ k → P (ruj_file member) i x → P (ruj_file member) k y → IsEntry x a → IsEntry y b → IsOf a tsn key → IsOf b tsn key → i ≡ k

-- The line is one that an open transaction put there, and that transaction's journal has it as committed.
pub record IsChanged (P : PendingContents) (now : Progress) (key : Dbkey) (line : Line) : Type 0 where
  pub member : ℕ
  pub transaction : Open
  pub is_open : now.going member ≡ Some transaction
  pub tsn : line.tsn ≡ transaction.tsn
  pub index : ℕ
  pub before : Line
  pub entry : slice_get transaction.entries index ≡ Some (record { key = key; before = before })
  pub committed : IsCommitted P now key before
  pub below : before.tsn.number < now.next_tsn
  pub one : HasOneEntry P member transaction.tsn key

-- ---- open transactions

pub record OpenFacts (P : PendingContents) (now : Progress) (member : ℕ) (o : Open) : Type 0 where
  pub is_member : IsMember member
  pub number : 1 ≤ o.tsn.number
  pub no_group : has_group o.tsn.number now.journal.groups ≡ false
  -- once it has entries its header names it, and no other header does
  pub names : (h : List ℕ) → 1 ≤ length o.entries → P (ruj_file member) 0 h → named h ≡ o.tsn.number
  pub only : (other : ℕ) (h : List ℕ) → IsMember other → P (ruj_file other) 0 h → named h ≡ o.tsn.number → other ≡ member
  pub alone : (other : ℕ) (p : Open) → now.going other ≡ Some p → p.tsn.number ≡ o.tsn.number → other ≡ member
  -- its entries stand
  pub entry : (i : ℕ) (undo : Undo) (x : List ℕ) → slice_get o.entries i ≡ Some undo → P (ruj_file member) (i + 1) x → IsEntry x (entry_at o.tsn (i + 1) undo)

-- ---- the after-image journal

-- a commit slot at or above the next number is that of the group in flight, in its place
pub record IsFlying (now : Progress) (slot : ℕ) (part : AijPart) : Type 0 where
  pub flight : Flight
  pub is : now.flight ≡ Some flight
  pub in_place : slot ≡ next_slot now.journal + length flight.group.lines
  pub is_commit : Some part ≡ commit_of flight.group

-- the slots of these groups stand
pub record GroupsStand (P : PendingContents) (j : Journal) : Type 0 where
  pub whole : AreWhole j.first j.groups
  pub stand : (i : ℕ) (what : Option AijPart) (x : List ℕ) → slice_get (slots_in j) i ≡ Some what → P aij_file (i + 1) x → what_stands x ≡ what

pub record JournalFacts (P : PendingContents) (now : Progress) : Type 0 where
  pub header : (x : List ℕ) → P aij_file 0 x → IsHeader x now.journal.first ⊎ ((former : Journal) × (now.former ≡ Some former) × IsHeader x former.first)
  pub groups : GroupsStand P now.journal
  pub commits : (slot : ℕ) (x : List ℕ) (part : AijPart) → 1 ≤ slot → P aij_file slot x → what_stands x ≡ Some part → part.line ≡ None → (part.number < next_number now.journal) ⊎ IsFlying now slot part

-- while the journal's new header may not stand yet
pub record FormerFacts (P : PendingContents) (now : Progress) (former : Journal) : Type 0 where
  pub empty : now.journal.groups ≡ []
  pub no_flight : now.flight ≡ None
  pub groups : GroupsStand P former
  pub commits : (slot : ℕ) (x : List ℕ) (part : AijPart) → 1 ≤ slot → P aij_file slot x → what_stands x ≡ Some part → part.line ≡ None → part.number < next_number former
  pub headers : (member : ℕ) (h : List ℕ) → IsMember member → P (ruj_file member) 0 h → named h ≡ 0
  pub below : (i : ℕ) (g : Group) → slice_get former.groups i ≡ Some g → g.tsn.number < now.next_tsn

-- ---- the group in flight

-- its line stands on the page
pub record HasLanded (group : Group) (of : GroupLine) (line : Line) : Type 0 where
  pub tsn : line.tsn ≡ group.tsn
  pub shows : shown line ≡ shown_as of.state of.image

-- a line of the group with this key
pub record IsInGroup (group : Group) (key : Dbkey) : Type 0 where
  pub index : ℕ
  pub line : GroupLine
  pub is : slice_get group.lines index ≡ Some line
  pub same_key : line.key ≡ key

pub record FlightFacts (P : PendingContents) (now : Progress) (f : Flight) : Type 0 where
  pub transaction : Open
  pub is_open : now.going f.member ≡ Some transaction
  pub tsn : f.group.tsn ≡ transaction.tsn
  pub whole : IsWhole (next_number now.journal) f.group
  -- its slots before the commit stand
  pub stand : (i : ℕ) (what : Option AijPart) (x : List ℕ) → i < length f.group.lines → slice_get (slots_of f.group) i ≡ Some what → P aij_file (next_slot now.journal + i) x → what_stands x ≡ what
  -- each line that the transaction changed is in the group, and each line of the group stands on its page
  pub changed : (i : ℕ) (undo : Undo) → slice_get transaction.entries i ≡ Some undo → IsInGroup f.group undo.key
  pub landed : (i : ℕ) (line : GroupLine) (x : List ℕ) → slice_get f.group.lines i ≡ Some line → OnPage P line.key x → HasLanded f.group line (line_on line.key x)
  pub class : (key : Dbkey) (bytes x : List ℕ) → line_in key (lines_with now f) ≡ Some bytes → OnPage P key x → FitsClass x (f.classes key.area) bytes

-- ---- the root, the pages, the transaction numbers

pub record RootStands (P : PendingContents) (now : Progress) (x : List ℕ) : Type 0 where
  pub root : Root
  pub is : IsRoot x root
  pub limits : root.limits ≡ now.limits
  pub state : (root.state ≡ 1) ⊎ (root.state ≡ 3)
  pub ceiling : now.next_tsn ≤ root.ceiling
  pub restored : root.state ≡ 3 → (member : ℕ) (h : List ℕ) → IsMember member → P (ruj_file member) 0 h → named h ≡ 0

pub record PageFacts (P : PendingContents) (now : Progress) : Type 0 where
  pub page : (file number : ℕ) (x : List ℕ) → IsAreaFile file → IsDataPage number → P (area_file file) (number - 1) x → IsPageOf file number x
  pub space : (file number : ℕ) (x : List ℕ) → IsAreaFile file → IsPage number → IsSpacePage number → P (area_file file) (number - 1) x → IsSpace x number
  pub header : (member : ℕ) (x : List ℕ) → IsMember member → P (ruj_file member) 0 x → IsRujHeader x
  pub owner : (file number : ℕ) (x y : List ℕ) → IsAreaFile file → IsDataPage number → P (area_file file) (number - 1) x → 1 ≤ owner_at x
      → P (area_file file) (space_page_of number - 1) y → owner_of number y ≡ owner_at x
  pub past : (file slot : ℕ) (x : List ℕ) → IsAreaFile file → now.limits.pages ≤ slot → slot < 65536 → P (area_file file) slot x → x ≡ zeros (area_file file)
  pub class : (key : Dbkey) (bytes x : List ℕ) → line_in key now.lines ≡ Some bytes → OnPage P key x → FitsClass x (now.classes key.area) bytes

pub record BelowFacts (P : PendingContents) (now : Progress) : Type 0 where
  pub line : (key : Dbkey) (x : List ℕ) → OnPage P key x → (line_on key x).tsn.number < now.next_tsn
  pub header : (member : ℕ) (h : List ℕ) → IsMember member → P (ruj_file member) 0 h → named h < now.next_tsn
  pub entry : (member slot : ℕ) (x : List ℕ) (e : RujEntry) → IsMember member → 1 ≤ slot → P (ruj_file member) slot x → IsEntry x e → e.tsn.number < now.next_tsn
  pub group : (i : ℕ) (g : Group) → slice_get now.journal.groups i ≡ Some g → g.tsn.number < now.next_tsn
  pub going : (member : ℕ) (o : Open) → now.going member ≡ Some o → o.tsn.number < now.next_tsn

-- ---- all of them

pub record Facts (P : PendingContents) (now : Progress) : Type 0 where
  pub in_order : IsInOrder now.lines
  -- each line that a crash may leave is as committed, or one that is sure to be put back
  pub line : (key : Dbkey) (x : List ℕ) → OnPage P key x → IsCommitted P now key (line_on key x) ⊎ IsChanged P now key (line_on key x)
  pub going : (member : ℕ) (o : Open) → now.going member ≡ Some o → OpenFacts P now member o
  -- no two journals name one transaction
  pub alone : (a b : ℕ) (h k : List ℕ) → IsMember a → IsMember b → P (ruj_file a) 0 h → P (ruj_file b) 0 k → 1 ≤ named h → named h ≡ named k → a ≡ b
  pub journal : JournalFacts P now
  pub former : (former : Journal) → now.former ≡ Some former → FormerFacts P now former
  pub flight : (f : Flight) → now.flight ≡ Some f → FlightFacts P now f
  pub root : (x : List ℕ) → P root_file 0 x → RootStands P now x
  pub pages : PageFacts P now
  pub below : BelowFacts P now

-- What an image stands for, by the facts: what is committed; or, where the group in flight is whole in it, that with the group.
pub data StandsAs (now : Progress) (image : Image) : Type 0 where
  as_committed : Kept now.classes now.lines now.journal image → StandsAs now image
  with_former : (former : Journal) → now.former ≡ Some former → Kept now.classes now.lines former image → StandsAs now image
  with_flight : (f : Flight) → now.flight ≡ Some f → Kept f.classes (lines_with now f) (journal_with now f) image → StandsAs now image
