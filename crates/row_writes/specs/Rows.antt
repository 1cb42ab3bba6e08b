-- A row stored, changed or erased over the view of a statement, for every map of lines that goes with the view.
use Rattle.std.specs.Prelude.{◌≡◌, ℕ, true, false, List, [], Option, Some, None, Result, slice_get}
use Rattle.std.specs.FinMap.Entries.{find}
use Rattle.rdb_types.specs.declared.keys.Dbkey.{Dbkey}
use Rattle.rdb_types.specs.Order.{dbkey_order}
use Rattle.rdo_ast.specs.Tree.{Name}
use Rattle.rdb_meaning.specs.declared.tables.Relation.{Relation as Rows}
use Rattle.rdb_meaning.specs.declared.tables.Tables.{Tables}
use Rattle.rdb_meaning.specs.Contents.{Row, relation_named, with_row, without_row, is_taken, is_too_long}
use Rattle.rdb_meaning.specs.Execution.{nowhere}
use Rattle.line_view.specs.declared.stop.Stop.TheVariants.{Missing, Bad, NoMemory, Own}
use Rattle.line_view.specs.Knowledge.{Lines, line_in}
use Rattle.line_view.specs.Held.{Held, knows}
use Rattle.line_view.specs.Stops.{Answers, Lacks}
use Rattle.catalog_lines.specs.declared.line.IndexLine.{IndexLine}
use Rattle.sound_changes.specs.catalog.declared.reading.Catalog.{Catalog}
use Rattle.sound_changes.specs.Standing.{IsSoundAs}
use Rattle.stored_rows.specs.declared.images.Unstored.{Unstored}
use Rattle.stored_rows.specs.declared.images.Unstored.TheVariants.{Misfit, TooLong}
use Rattle.stored_rows.specs.Fitting.{IsRowFor}
use Rattle.statement_view.specs.Over.{Over, Stands, laid_over, knows_over, room_at, all_rooms, AreRoomsKnown}
use Rattle.statement_view.specs.Areas.{IsRoomOf}
use Rattle.row_writes.specs.declared.target.TargetRelation.{TargetRelation}
use Rattle.row_writes.specs.declared.stop.PairRefusal.{PairRefusal}
use Rattle.row_writes.specs.declared.stop.RowRefusal.{RowRefusal}
use Rattle.row_writes.specs.declared.stop.RowRefusal.TheVariants.{NoImage, NoRoom, Pair}
use Rattle.row_writes.specs.Stop.{RowStop}
use Rattle.row_writes.specs.Target.{AreOwn, IsTarget, taken_in}
use Rattle.row_writes.specs.Pairs.{CanNotGrow, PairRefused, IsLongKey}

-- The view agrees with the map behind its writes, which is sound with this catalog and these tables; and what is known agrees with the map of the start.
pub record IsSoundView (o : Over) (c : Catalog) (t : Tables) (first : Lines) : Type 0 where
  pub stands : Stands o first
  pub sound : IsSoundAs (laid_over o.lines first) c t

-- ---- refusals

-- the values are none of a row of the relation, or its image is too long
abbrev pub HasNoImage : TargetRelation → Rows → Row → Unstored → Type 0
HasNoImage r rel row Misfit = IsRowFor r.stored.version r.stored.fields.now row → ⊥
HasNoImage r rel row TooLong = is_too_long rel.fields row ≡ true

-- The row isn't too long, and the index at this place doesn't take its pair; where its key is taken, this is the first index in which it is.
pub record IsPairRefused (base : Held) (first : Lines) (rel : Rows) (xs : List IndexLine) (taken : Option Name) (row : Row) (at : ℕ) (refusal : PairRefusal) : Type 0 where
  pub short : is_too_long rel.fields row ≡ false
  pub index : IndexLine
  pub stands : slice_get xs at ≡ Some index
  pub refused : PairRefused (taken ≡ Some index.name) (IsLongKey index row) (CanNotGrow base first index) refusal

-- ---- a row stored

-- the first unique index in which another row than that of this Dbkey has the key
abbrev pub taken_by_another : Rows → List IndexLine → Dbkey → Row → Option Name
taken_by_another rel xs own row = taken_in (λ positions. is_taken positions row own rel.rows) xs

-- The row has this Dbkey, the first room of the view, whose line was absent at the start of the statement and until now.
pub record IsStored (old new : Over) (c : Catalog) (n : Name) (rel : Rows) (t : Tables) (first : Lines) (r : TargetRelation) (row : Row) (key : Dbkey) : Type 0 where
  pub behind : IsSoundView new c (with_row n key row t) first
  pub short : is_too_long rel.fields row ≡ false
  pub untaken : taken_by_another rel r.indexes.now nowhere row ≡ None
  pub room : (knows_over old).room (room_at r.stored.area r.class 0) ≡ Some key
  pub area : key.area ≡ rel.area
  pub unused : line_in key first ≡ None
  pub free : line_in key (laid_over old.lines first) ≡ None

abbrev pub IsNotStored : Held → Lines → Rows → TargetRelation → Row → RowRefusal → Type 0
IsNotStored base first rel r row (NoImage reason) = HasNoImage r rel row reason
IsNotStored base first rel r row NoRoom = AreRoomsKnown (knows base) rel.area r.class all_rooms
IsNotStored base first rel r row (Pair at refusal) = IsPairRefused base first rel r.indexes.now (taken_by_another rel r.indexes.now nowhere row) row at refusal

abbrev pub StoresRow : Over → Over → TargetRelation → Row → Result Dbkey RowStop → Type 0
StoresRow old new r row result = (c : Catalog) (n : Name) (rel : Rows) (t : Tables) (first : Lines) → IsSoundView old c t first → relation_named n t ≡ Some rel → IsTarget c n rel r →
    Answers (IsStored old new c n rel t first r row) (Lacks (knows old.base)) (λ at. ⊥) (IsNotStored old.base first rel r row) result

-- ---- a row changed

pub record IsChanged (new : Over) (c : Catalog) (n : Name) (rel : Rows) (t : Tables) (first : Lines) (r : TargetRelation) (key : Dbkey) (row : Row) : Type 0 where
  pub behind : IsSoundView new c (with_row n key row t) first
  pub short : is_too_long rel.fields row ≡ false
  pub untaken : taken_by_another rel r.indexes.now key row ≡ None

abbrev pub IsNotChanged : Held → Lines → Rows → TargetRelation → Dbkey → Row → RowRefusal → Type 0
IsNotChanged base first rel r key row (NoImage reason) = HasNoImage r rel row reason
IsNotChanged base first rel r key row NoRoom = ⊥
IsNotChanged base first rel r key row (Pair at refusal) = IsPairRefused base first rel r.indexes.now (taken_by_another rel r.indexes.now key row) row at refusal

abbrev pub ChangesRow : Over → Over → TargetRelation → Dbkey → Row → Row → Result (Unit {0}) RowStop → Type 0
ChangesRow old new r key was row result = (c : Catalog) (n : Name) (rel : Rows) (t : Tables) (first : Lines) → IsSoundView old c t first → relation_named n t ≡ Some rel → IsTarget c n rel r → find dbkey_order key rel.rows ≡ Some was → key.area ≡ rel.area →
    Answers (λ u. IsChanged new c n rel t first r key row) (Lacks (knows old.base)) (λ at. ⊥) (IsNotChanged old.base first rel r key row) result

-- ---- a row erased

abbrev pub ErasesRow : Over → Over → List IndexLine → Dbkey → Row → Result (Unit {0}) RowStop → Type 0
ErasesRow old new xs key was result = (c : Catalog) (n : Name) (rel : Rows) (t : Tables) (first : Lines) → IsSoundView old c t first → relation_named n t ≡ Some rel → AreOwn c rel.area [] xs → find dbkey_order key rel.rows ≡ Some was → key.area ≡ rel.area →
    Answers (λ u. IsSoundView new c (without_row n key t) first) (Lacks (knows old.base)) (λ at. ⊥) (λ refusal. ⊥) result

-- ---- rooms

abbrev pub TellsNoRoom : Held → ℕ → ℕ → RowStop → Type 0
TellsNoRoom base area class (Missing need) = Lacks (knows base) need × IsRoomOf area need
TellsNoRoom base area class (Own refusal) = (refusal ≡ NoRoom) × AreRoomsKnown (knows base) area class all_rooms
TellsNoRoom base area class (Bad key) = ⊥
TellsNoRoom base area class NoMemory = ⊥
