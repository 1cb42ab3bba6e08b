-- How lines were before the open transactions that changed them.
use Rattle.std.specs.Prelude.{ℕ, ◌≡◌, ◌==◌, List, [], ◌∷◌, Option, Some, None, if◌then◌else◌, unwrap_or}
use Rattle.std.specs.FinMap.Entries.{find}
use Rattle.rdb_types.specs.Order.{dbkey_order}
use Rattle.rdb_types.specs.declared.file.FileId.{FileId}
use Rattle.rdb_types.specs.declared.file.FileKind.TheVariants.{Area}
use Rattle.rdb_types.specs.declared.keys.Dbkey.{Dbkey}
use Rattle.rdb_types.specs.declared.keys.Tsn.{Tsn}
use Rattle.rdb_types.specs.declared.keys.Line.{Line}
use Rattle.rdb_outside.specs.Disk.{Image}
use Rattle.ruj_journal.specs.declared.entry.RujEntry.{RujEntry}
use Rattle.ruj_journal.specs.Entry.{IsEntry}
use Rattle.journal_scan.specs.declared.group.Group.{Group}
use Rattle.stable_lines.specs.Slots.{line_at}
use Rattle.stable_lines.specs.Image.{IsBefore, HasNoBefore, LineIs}
use Rattle.before_images.specs.declared.lines.OpenTransaction.{OpenTransaction}

-- the slot is this entry, which is the transaction's and has this index
pub record IsEntryOf (slot : List ℕ) (tsn : Tsn) (index : ℕ) (entry : RujEntry) : Type 0 where
  pub is : IsEntry slot entry
  pub same : entry.tsn ≡ tsn
  pub place : entry.index ≡ index

-- the line before the transaction, and None where none of its entries is of the line
abbrev pub BeforeIs : Image → ℕ → Tsn → Dbkey → Option Line → Type 0
BeforeIs image member tsn key None = HasNoBefore image member tsn key
BeforeIs image member tsn key (Some line) = IsBefore image member tsn key line

-- of each line that is what is held
abbrev pub HoldsBefore : Image → ℕ → Tsn → List (Dbkey × Line) → Type 0
HoldsBefore image member tsn before = (key : Dbkey) → BeforeIs image member tsn key (find dbkey_order key before)

-- what is held of the first transaction of this number
abbrev pub held_of : ℕ → List OpenTransaction → List (Dbkey × Line)
held_of number [] = []
held_of number (one ∷ more) = if one.tsn.number == number then one.before else held_of number more

-- The line, or where it bears one of these transactions that changed it, as it was before.
abbrev pub laid : List OpenTransaction → Dbkey → Line → Line
laid held key line = unwrap_or (find dbkey_order key (held_of line.tsn.number held)) line

-- laid over the image, they make each line the one that the image stands for
abbrev pub LaysLines : Image → List Group → List OpenTransaction → Type 0
LaysLines image groups held = (key : Dbkey) → LineIs image groups key (laid held key (line_at image key))

-- an image with the same files, but for those of the areas
abbrev pub HasOtherFiles : Image → Image → Type 0
HasOtherFiles image other = (file : FileId) (slot : ℕ) → (file.kind ≡ Area → ⊥) → other file slot ≡ image file slot
