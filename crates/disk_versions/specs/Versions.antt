-- What readers' versions rest on, on a disk: the lines that reads give and the entries of the snapshot files, beside the progress of the transactions. Nothing here speaks of a crash.
use Rattle.std.specs.Prelude.{ℕ, ◌≡◌, ◌≢◌, ◌⊎◌, true, List, slice_get, Some}
use Rattle.rdb_types.specs.declared.keys.Dbkey.{Dbkey}
use Rattle.rdb_types.specs.declared.keys.Tsn.{Tsn}
use Rattle.rdb_types.specs.declared.keys.Line.{Line}
use Rattle.rdb_outside.specs.Disk.{View}
use Rattle.snapshot_file.specs.declared.entry.SnapEntry.{SnapEntry}
use Rattle.line_view.specs.Knowledge.{line_in}
use Rattle.line_versions.specs.Versions.{snap_of}
use Rattle.line_versions.specs.Files.{entries_in, IsWithin}
use Rattle.line_versions.specs.Course.{Course, AreRight, IsChanged}
use Rattle.line_versions.specs.Exact.{AreExact}
use Rattle.line_opening.specs.stable_lines.Slots.{Undo, IsAreaFile, line_at}
use Rattle.line_opening.specs.stable_lines.Progress.{Open, Progress}
use Rattle.line_opening.specs.line_moves.Lines.{ChangedLines, HasLine}

-- an open transaction has this number
pub record IsOpenNumber (now : Progress) (tsn : ℕ) : Type 0 where
  pub member : ℕ
  pub transaction : Open
  pub is_open : now.going member ≡ Some transaction
  pub number : transaction.tsn.number ≡ tsn

-- each before-image is the line as the last commit left it, with its transaction and its chain
abbrev pub AreBases : Course → List Undo → Type 0
AreBases course all = (i : ℕ) (undo : Undo) → slice_get all i ≡ Some undo → undo.before ≡ course.base undo.key

-- From what reads give each reader comes to its lines, over entries within the limit, and over none that isn't wanted. The course is that of the transactions.
pub record VersionFacts (v : View) (now : Progress) (limit : ℕ) (course : Course) : Type 0 where
  pub right : AreRight (entries_in v.content) (line_at v.content) course
  pub exact : AreExact (entries_in v.content) course
  pub within : IsWithin limit course.followed
  pub files : (file chain : ℕ) → course.followed file chain ≡ true → IsAreaFile file
  pub next : course.next ≡ now.next_tsn
  pub lines : (key : Dbkey) → course.lines key ≡ line_in key now.lines
  pub going : (tsn : ℕ) → course.going tsn ≡ true → IsOpenNumber now tsn
  pub goes : (member : ℕ) (o : Open) → now.going member ≡ Some o → course.going o.tsn.number ≡ true
  -- undo puts back what readers come to
  pub befores : (member : ℕ) (o : Open) → now.going member ≡ Some o → AreBases course o.entries

-- the entry is the version before of one of the lines
pub record IsPushedBy (lines : ChangedLines) (file chain : ℕ) (entry : SnapEntry) : Type 0 where
  pub index : ℕ
  pub line : Dbkey × Line
  pub is : slice_get lines index ≡ Some line
  pub key_is : line.0 ≡ entry.key
  pub chain_is : line.1.chain ≡ chain
  pub file_is : snap_of entry.key ≡ file

-- The lines of a transaction that wait to be put on their pages: each stands one version above the committed one, and nothing else was pushed for them.
pub record SeatVersions (v : View) (course : Course) (tsn : Tsn) (all : List Undo) (lines : ChangedLines) : Type 0 where
  pub bases : AreBases course all
  pub bears : (i : ℕ) (line : Dbkey × Line) → slice_get lines i ≡ Some line → line.1.tsn ≡ tsn
  pub above : (i : ℕ) (line : Dbkey × Line) → slice_get lines i ≡ Some line → IsChanged (entries_in v.content) course line.0 line.1
  pub pushed : (file chain : ℕ) (entry : SnapEntry) → course.followed file chain ≡ true → entries_in v.content file chain entry → entry.pusher.number ≡ tsn.number → IsPushedBy lines file chain entry

-- these lines are those before, with this one for its key
pub record PutsIn (lines : ChangedLines) (key : Dbkey) (line : Line) (more : ChangedLines) : Type 0 where
  pub each : (i : ℕ) (l : Dbkey × Line) → slice_get more i ≡ Some l → HasLine lines l.0 l.1 ⊎ ((l.0 ≡ key) × (l.1 ≡ line))
  pub kept : (i : ℕ) (l : Dbkey × Line) → slice_get lines i ≡ Some l → l.0 ≢ key → HasLine more l.0 l.1
  pub here : HasLine more key line

-- none of them is of the key
abbrev pub IsNoneOfThem : ChangedLines → Dbkey → Type 0
IsNoneOfThem lines key = (i : ℕ) (l : Dbkey × Line) → slice_get lines i ≡ Some l → l.0 ≢ key
