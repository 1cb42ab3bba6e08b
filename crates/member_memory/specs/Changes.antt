-- What a statement's writes make of the lines in memory.
use Rattle.std.specs.Prelude.{◌≡◌, ◌<◌, ◌^◌, ℕ, ◌+◌, ◌++◌, true, false, List, [], ◌∷◌, length, slice_get, is_some, Option, Some, None}
use Rattle.std.specs.FinMap.Entries.{find, put}
use Rattle.rdb_types.specs.declared.keys.Dbkey.{Dbkey}
use Rattle.rdb_types.specs.declared.keys.Line.{Line}
use Rattle.rdb_types.specs.declared.keys.LineState.TheVariants.{Present, Erased}
use Rattle.rdb_types.specs.declared.keys.Tsn.{Tsn}
use Rattle.rdb_types.specs.Order.{dbkey_order}
use Rattle.line_view.specs.declared.writes.Write.{Write}
use Rattle.line_store.specs.Seats.{is_written, lines_added, Adds}
use Rattle.member_memory.specs.Memory.{Memory, AreKeysOf, writes_in}

-- ---- keys that are added

-- a line of a transaction without an image, which no version is before yet
abbrev pub blank : Tsn → Line
blank tsn = record { state = Erased; tsn = tsn; chain = 0; image = [] }

abbrev pub with_key : Tsn → Dbkey → Memory → Memory
with_key tsn key m = record { lines = put dbkey_order key (blank tsn) m.lines; keys = m.keys ++ key ∷ [] }

-- Keys of writes that had no line were put behind those before, each with a blank line.
pub data Grows (tsn : Tsn) (writes : List Write) (old : Memory) : Memory → Type 0 where
  same : (new : Memory) → new ≡ old → Grows tsn writes old new
  more : (before new : Memory) (key : Dbkey) → Grows tsn writes old before → is_written key writes ≡ true → find dbkey_order key before.lines ≡ None
      → new ≡ with_key tsn key before → Grows tsn writes old new

-- the writes, last first, and behind them those before
abbrev pub behind : List Write → List Write → List Write
behind before [] = before
behind before (write ∷ writes) = behind (write ∷ before) writes

-- each of the writes has a line now
pub record AreAdded (writes : List Write) (old new : Memory) : Type 0 where
  pub seen : (key : Dbkey) → is_some (find dbkey_order key new.lines) ≡ is_written key (behind (writes_in old.lines) writes)
  pub count : length new.keys ≡ length old.keys + lines_added (writes_in old.lines) writes

-- the first half of a change
pub record Adding (tsn : Tsn) (writes : List Write) (old new : Memory) : Type 0 where
  pub grows : Grows tsn writes old new
  pub added : AreAdded writes old new
  pub kept : AreKeysOf old.lines old.keys

-- keys were added behind so many
pub record HasGrown (count : ℕ) (new : Memory) : Type 0 where
  pub tsn : Tsn
  pub writes : List Write
  pub old : Memory
  pub grows : Grows tsn writes old new
  pub counted : count ≡ length old.keys
  pub kept : AreKeysOf old.lines old.keys
  pub few : length old.keys < 2 ^ 32

-- ---- lines that are laid

-- the line with another image, or none: it stays its transaction's, and the version before it stays
abbrev pub rewritten : Option (List ℕ) → Line → Line
rewritten (Some image) line = record { state = Present; tsn = line.tsn; chain = line.chain; image = image }
rewritten None line = record { state = Erased; tsn = line.tsn; chain = line.chain; image = [] }

abbrev pub rewritten_in : Write → Option Line → List (Dbkey × Line) → List (Dbkey × Line)
rewritten_in write None lines = lines
rewritten_in write (Some line) lines = put dbkey_order write.key (rewritten write.image line) lines

abbrev pub rewritten_at : Write → List (Dbkey × Line) → List (Dbkey × Line)
rewritten_at write lines = rewritten_in write (find dbkey_order write.key lines) lines

abbrev pub rewritten_all : List Write → List (Dbkey × Line) → List (Dbkey × Line)
rewritten_all [] lines = lines
rewritten_all (write ∷ writes) lines = rewritten_all writes (rewritten_at write lines)

-- ---- a change

-- a line that waited already keeps its transaction and its version before
pub record Keeps (new : List (Dbkey × Line)) (key : Dbkey) (before : Line) : Type 0 where
  pub line : Line
  pub is : find dbkey_order key new ≡ Some line
  pub tsn : line.tsn ≡ before.tsn
  pub chain : line.chain ≡ before.chain

-- The writes are laid over the lines.
pub record Lays (tsn : Tsn) (writes : List Write) (old new : Memory) : Type 0 where
  -- what the lines come to is what they came to before, and then these
  pub adds : Adds writes (writes_in old.lines) (writes_in new.lines)
  -- the keys before stay in their places, and each line that is added has one behind them
  pub keys : (i : ℕ) (key : Dbkey) → slice_get old.keys i ≡ Some key → slice_get new.keys i ≡ Some key
  pub count : length new.keys ≡ length old.keys + lines_added (writes_in old.lines) writes
  pub kept : (key : Dbkey) (before : Line) → find dbkey_order key old.lines ≡ Some before → Keeps new.lines key before
  pub added : (key : Dbkey) (line : Line) → find dbkey_order key old.lines ≡ None → find dbkey_order key new.lines ≡ Some line → (line.tsn ≡ tsn) × (line.chain ≡ 0)
  pub others : (key : Dbkey) → is_written key writes ≡ false → find dbkey_order key new.lines ≡ find dbkey_order key old.lines
