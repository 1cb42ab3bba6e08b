-- Readers' versions beside the ledger of all members.
use Rattle.std.specs.Prelude.{ℕ, ◌≡◌, ◌==◌, true, if◌then◌else◌, List, length, slice_get, Some}
use Rattle.rdb_types.specs.declared.keys.Dbkey.{Dbkey}
use Rattle.rdb_types.specs.declared.keys.Line.{Line}
use Rattle.rdb_outside.specs.Disk.{View}
use Rattle.line_versions.specs.Course.{Course}
use Rattle.stable_lines.specs.Slots.{Undo}
use Rattle.stable_lines.specs.Progress.{Open}
use Rattle.line_moves.specs.Lines.{ChangedLines, ArePut}
use Rattle.disk_seats.specs.Ledgers.{Standing, resting, changing, broken, committing, undoing, entries_of, Commit, Ledger, flies}
use Rattle.disk_versions.specs.Versions.{VersionFacts, SeatVersions}

-- the lines of each member that wait to be put on their pages
abbrev pub Waiting : Type 0
Waiting = ℕ → ChangedLines

abbrev pub set_waiting : ℕ → ChangedLines → Waiting → Waiting
set_waiting member lines was = λ m. if m == member then lines else was m

-- its lines wait, or are being put
abbrev pub HasLines : Standing → Type 0
HasLines resting = ⊥
HasLines (changing all stable) = Unit {0}
HasLines broken = ⊥
HasLines (committing all) = Unit {0}
HasLines (undoing all left) = ⊥

-- no page was written, or all before-images are put back
abbrev pub MayEndUndone : Standing → Type 0
MayEndUndone resting = ⊥
MayEndUndone (changing all stable) = Unit {0}
MayEndUndone broken = Unit {0}
MayEndUndone (committing all) = ⊥
MayEndUndone (undoing all left) = left ≡ 0

-- the line has a before-image
pub record HasBefore (all : List Undo) (key : Dbkey) : Type 0 where
  pub index : ℕ
  pub undo : Undo
  pub is : slice_get all index ≡ Some undo
  pub key_is : undo.key ≡ key

-- among them is a line of the key with the transaction and the version before of this one
pub record HasVersionOf (lines : ChangedLines) (key : Dbkey) (of : Line) : Type 0 where
  pub index : ℕ
  pub line : Dbkey × Line
  pub is : slice_get lines index ≡ Some line
  pub key_is : line.0 ≡ key
  pub tsn_is : line.1.tsn ≡ of.tsn
  pub chain_is : line.1.chain ≡ of.chain

-- They are of the same keys, and differ in no more than what the lines show.
pub record AreAlike (lines more : ChangedLines) : Type 0 where
  pub each : (i : ℕ) (line : Dbkey × Line) → slice_get more i ≡ Some line → HasVersionOf lines line.0 line.1
  pub kept : (i : ℕ) (line : Dbkey × Line) → slice_get lines i ≡ Some line → HasVersionOf more line.0 line.1

-- Each reader comes to its lines, and each line that waits stands one version above the committed one, with its before-image journalled. Once the group of a commit flies, its lines stand on their pages.
pub record ReaderFacts (v : View) (g : Ledger) (limit : ℕ) (course : Course) (waiting : Waiting) : Type 0 where
  pub versions : VersionFacts v g.base limit course
  pub seats : (m : ℕ) (o : Open) → HasLines (g.standing m) → g.base.going m ≡ Some o → SeatVersions v course o.tsn (entries_of (g.standing m)) (waiting m)
  pub journalled : (m i : ℕ) (line : Dbkey × Line) → HasLines (g.standing m) → slice_get (waiting m) i ≡ Some line → HasBefore (entries_of (g.standing m)) line.0
  pub its : (c : Commit) → g.commit ≡ Some c → waiting c.member ≡ c.lines
  pub put : (c : Commit) → g.commit ≡ Some c → flies c.stage ≡ true → ArePut v.content c.lines (length c.lines)
