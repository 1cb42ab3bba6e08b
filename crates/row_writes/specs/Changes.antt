-- The pairs of a row changed in the indexes of its relation, for every map of lines that goes with the view.
use Rattle.std.specs.Prelude.{◌≡◌, ℕ, Bool, true, false, not, ◌&&◌, List, [], ◌∷◌, Option, Some, None, Result, filter, slice_get}
use Rattle.std.specs.FinMap.Entries.{find, put, is_sorted}
use Rattle.std.specs.Ordering.{is_eq}
use Rattle.rdb_types.specs.declared.keys.Dbkey.{Dbkey}
use Rattle.rdb_types.specs.Order.{dbkey_order}
use Rattle.rdo_ast.specs.Tree.{Name}
use Rattle.rdb_meaning.specs.declared.tables.Relation.{Relation as Rows}
use Rattle.rdb_meaning.specs.declared.tables.Tables.{Tables}
use Rattle.rdb_meaning.specs.Contents.{Row, relation_named, change_rows, is_used, is_taken}
use Rattle.line_view.specs.declared.stop.Stop.TheVariants.{Missing, Bad, NoMemory, Own}
use Rattle.line_view.specs.Knowledge.{Lines}
use Rattle.line_view.specs.Held.{Held, knows}
use Rattle.line_view.specs.Stops.{Answers, Lacks}
use Rattle.catalog_lines.specs.declared.line.IndexLine.{IndexLine}
use Rattle.sound_changes.specs.catalog.declared.reading.Catalog.{Catalog}
use Rattle.sound_changes.specs.sound_lines.Sound.{relation_in}
use Rattle.sound_changes.specs.Standing.{IsSoundFor, IsSoundAs, tables_for}
use Rattle.sound_changes.specs.InTurn.{IsIndexOn}
use Rattle.statement_view.specs.Over.{Over, Stands, laid_over}
use Rattle.row_writes.specs.declared.target.RowChange.{RowChange}
use Rattle.row_writes.specs.declared.target.RowChange.TheVariants.{Stored, Changed, Erased}
use Rattle.row_writes.specs.declared.stop.PairRefusal.{PairRefusal}
use Rattle.row_writes.specs.declared.stop.RowRefusal.{RowRefusal}
use Rattle.row_writes.specs.declared.stop.RowRefusal.TheVariants.{NoImage, NoRoom, Pair}
use Rattle.row_writes.specs.Stop.{PairStop, RowStop}
use Rattle.row_writes.specs.Target.{AreOwn, taken_in}
use Rattle.row_writes.specs.Pairs.{CanNotGrow, PairRefused, IsLongKey}

-- ---- what happens to a row

-- the row that the Dbkey had
abbrev pub row_before : RowChange → Option Row
row_before (Stored row) = None
row_before (Changed was row) = Some was.now
row_before (Erased was) = Some was.now

-- the row that it has then
abbrev pub row_behind : RowChange → Option Row
row_behind (Stored row) = Some row.now
row_behind (Changed was row) = Some row.now
row_behind (Erased was) = None

abbrev pub rows_to : Dbkey → Option Row → List (Dbkey × Row) → List (Dbkey × Row)
rows_to key (Some row) = put dbkey_order key row
rows_to key None = filter (λ e. not (is_eq (dbkey_order key e.0)))

abbrev pub tables_to : Name → Dbkey → Option Row → Tables → Tables
tables_to n key to = change_rows n (rows_to key to)

-- another row has the key of the row
abbrev pub is_key_taken : Rows → Dbkey → Option Row → List ℕ → Bool
is_key_taken rel key (Some row) = λ positions. is_taken positions row key rel.rows
is_key_taken rel key None = λ positions. false

-- ---- on the way

-- The row's line is written or erased, and its pairs in the indexes of these logical areas are changed. The relation is as it was in the tables before.
pub record Underway (c : Catalog) (n : Name) (rel : Rows) (t : Tables) (key : Dbkey) (was to : Option Row) (o : Over) (first : Lines) (done : List ℕ) : Type 0 where
  pub stands : Stands o first
  pub sound : IsSoundFor (laid_over o.lines first) c (tables_to n key to t) (tables_for rel.area done t (tables_to n key to t))
  pub named : relation_named n t ≡ Some rel
  pub own : relation_in rel.area t.relations ≡ Some rel
  pub sorted : is_sorted dbkey_order rel.rows ≡ true
  pub found : find dbkey_order key rel.rows ≡ was

-- ---- one index

-- there is a row behind, and this is true of it
abbrev pub HasRow : Option Row → (Row → Type 0) → Type 0
HasRow (Some row) P = P row
HasRow None P = ⊥

-- Only the pair of a row behind is refused.
abbrev pub RefusesPair : Held → Lines → Option Row → IndexLine → Type 0 → PairRefusal → Type 0
RefusesPair base first to x IsTaken = PairRefused IsTaken (HasRow to (IsLongKey x)) (HasRow to (λ row. CanNotGrow base first x))

abbrev pub PairChanged : Catalog → Name → Rows → Tables → Lines → List ℕ → Over → Over → IndexLine → Option Row → Option Row → Dbkey → Result (Unit {0}) PairStop → Type 0
PairChanged c n rel t first done old new x was to key =
    Answers (λ u. Underway c n rel t key was to new first (x.area ∷ done) × ((x.unique && is_key_taken rel key to x.fields) ≡ false)) (Lacks (knows old.base)) (λ at. ⊥) (RefusesPair old.base first to x ((x.unique && is_key_taken rel key to x.fields) ≡ true))

abbrev pub ChangesPair : Over → Over → IndexLine → Option Row → Option Row → Dbkey → Result (Unit {0}) PairStop → Type 0
ChangesPair old new x was to key result = (c : Catalog) (n : Name) (rel : Rows) (t : Tables) (first : Lines) (done : List ℕ) → Underway c n rel t key was to old first done → IsIndexOn c rel.area x → is_used x.area done ≡ false →
    PairChanged c n rel t first done old new x was to key result

-- ---- all indexes

abbrev pub row_stop_of : ℕ → PairStop → RowStop
row_stop_of at (Missing need) = Missing need
row_stop_of at (Bad key) = Bad key
row_stop_of at NoMemory = NoMemory
row_stop_of at (Own refusal) = Own (Pair at refusal)

-- The index at this place refuses the pair. Where another row has the key, it is the first in which one has.
abbrev pub RefusesAt : Held → Lines → Rows → Dbkey → Option Row → List IndexLine → ℕ → PairRefusal → Type 0
RefusesAt base first rel key to xs at refusal = (x : IndexLine) × (slice_get xs at ≡ Some x) × RefusesPair base first to x (taken_in (is_key_taken rel key to) xs ≡ Some x.name) refusal

abbrev pub IsRefused : Held → Lines → Rows → Dbkey → Option Row → List IndexLine → RowRefusal → Type 0
IsRefused base first rel key to xs (NoImage reason) = ⊥
IsRefused base first rel key to xs NoRoom = ⊥
IsRefused base first rel key to xs (Pair at refusal) = RefusesAt base first rel key to xs at refusal

-- the view is that behind the writes of the row, and no index has its key for another row
pub record AreChanged (c : Catalog) (n : Name) (rel : Rows) (t : Tables) (first : Lines) (new : Over) (xs : List IndexLine) (to : Option Row) (key : Dbkey) : Type 0 where
  pub stands : Stands new first
  pub sound : IsSoundAs (laid_over new.lines first) c (tables_to n key to t)
  pub untaken : taken_in (is_key_taken rel key to) xs ≡ None

abbrev pub PairsChanged : Catalog → Name → Rows → Tables → Lines → Over → Over → List IndexLine → Option Row → Dbkey → Result (Unit {0}) RowStop → Type 0
PairsChanged c n rel t first old new xs to key =
    Answers (λ u. AreChanged c n rel t first new xs to key) (Lacks (knows old.base)) (λ at. ⊥) (IsRefused old.base first rel key to xs)

abbrev pub ChangesPairs : Over → Over → List IndexLine → Option Row → Option Row → Dbkey → Result (Unit {0}) RowStop → Type 0
ChangesPairs old new xs was to key result = (c : Catalog) (n : Name) (rel : Rows) (t : Tables) (first : Lines) → Underway c n rel t key was to old first [] → AreOwn c rel.area [] xs →
    PairsChanged c n rel t first old new xs to key result
