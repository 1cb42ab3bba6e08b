-- An index filled from rows over the view of a statement, for every map of lines that goes with the view.
use Rattle.std.specs.Prelude.{◌≡◌, ◌⊎◌, ℕ, true, false, List, [], map, Result}
use Rattle.std.specs.List.{AllByRecursion}
use Rattle.std.specs.FinMap.Entries.{is_sorted}
use Rattle.rdb_types.specs.declared.keys.Dbkey.{Dbkey}
use Rattle.rdb_types.specs.Order.{dbkey_order}
use Rattle.rdo_ast.specs.Tree.{Name}
use Rattle.rdo_ast.specs.declared.reply.Reply.TheVariants.{Duplicate}
use Rattle.rdb_meaning.specs.Contents.{Row, key_of}
use Rattle.rdb_meaning.specs.Defining.{keys_repeat}
use Rattle.line_view.specs.declared.stop.Stop.TheVariants.{Missing, Bad, NoMemory, Own}
use Rattle.line_view.specs.declared.writes.Write.{Write}
use Rattle.line_view.specs.Knowledge.{Lines}
use Rattle.line_view.specs.Held.{knows}
use Rattle.line_view.specs.Stops.{Answers, Lacks}
use Rattle.line_view.specs.Writes.{laid_all}
use Rattle.catalog_lines.specs.declared.line.IndexLine.{IndexLine}
use Rattle.sorted_index_laws.specs.Tree.{Tree, pairs, IsIndex}
use Rattle.sorted_index_laws.specs.Changes.{pair_of, with_pair}
use Rattle.sorted_index_laws.specs.Insertion.{IsKey, IsNew}
use Rattle.relation_rows.specs.declared.stored.StoredRow.{StoredRow}
use Rattle.relation_rows.specs.Indexed.{IsIndexOf}
use Rattle.relation_rows.specs.Relations.{stored_row}
use Rattle.statement_view.specs.Over.{Over, Stands, laid_over}
use Rattle.row_writes.specs.declared.stop.PairRefusal.TheVariants as pair
use Rattle.row_writes.specs.Stop.{PairStop}
use Rattle.row_writes.specs.Pairs.{Turned, CanNotGrow, has_taken}
use Rattle.schema_writes.specs.declared.stop.SchemaRefusal.{SchemaRefusal}
use Rattle.schema_writes.specs.declared.stop.SchemaRefusal.TheVariants.{Refused, NoRoom, Full}
use Rattle.schema_writes.specs.Stop.{SchemaStop}

-- ---- stops

-- it is told as a duplicate of the index of this name, or there was no memory for the name
abbrev pub IsDuplicate : Name → SchemaStop → Type 0
IsDuplicate name told = (told ≡ Own (Refused (Duplicate name))) ⊎ (told ≡ NoMemory)

-- why the pair of the row of this Dbkey isn't put in, told of the definition of an index
abbrev pub TellsRow : Name → Dbkey → PairStop → SchemaStop → Type 0
TellsRow name at (Missing need) told = told ≡ Missing need
TellsRow name at (Bad key) told = told ≡ Bad key
TellsRow name at NoMemory told = told ≡ NoMemory
TellsRow name at (Own pair.Duplicate) told = IsDuplicate name told
TellsRow name at (Own pair.LongKey) told = told ≡ Bad at
TellsRow name at (Own pair.Full) told = told ≡ Own Full

-- what it says that an index doesn't take a row
abbrev pub RowRefused : IndexLine → Type 0 → Type 0 → SchemaRefusal → Type 0
RowRefused x IsTaken IsFull (Refused reply) = (reply ≡ Duplicate x.name) × IsTaken
RowRefused x IsTaken IsFull NoRoom = ⊥
RowRefused x IsTaken IsFull Full = IsFull

-- ---- one row

abbrev pub RowAdded : Over → Over → IndexLine → StoredRow → Lines → (level : ℕ) → Tree level → Result (Unit {0}) SchemaStop → Type 0
RowAdded old new x row first level tree =
    Answers (λ u. Turned old new first x.root level tree (with_pair (pair_of (key_of x.fields row.row) row.key) (pairs level tree)) × (has_taken x row.row (pairs level tree) ≡ false)) (Lacks (knows old.base)) (λ key. ⊥)
    (RowRefused x (has_taken x row.row (pairs level tree) ≡ true) (CanNotGrow old.base first x))

-- a row whose pair isn't in the index, and whose key it may have
abbrev pub AddsRow : Over → Over → IndexLine → StoredRow → Result (Unit {0}) SchemaStop → Type 0
AddsRow old new x row result = (first : Lines) (level : ℕ) (tree : Tree level) → Stands old first → IsIndex (laid_over old.lines first) x.root level tree → IsNew (pair_of (key_of x.fields row.row) row.key) (pairs level tree) → IsKey (key_of x.fields row.row) →
    RowAdded old new x row first level tree result

-- ---- all rows

-- Rows in the order of their Dbkeys, whose keys the index may have.
pub record AreFitting (x : IndexLine) (rows : List (Dbkey × Row)) : Type 0 where
  pub sorted : is_sorted dbkey_order rows ≡ true
  pub keys : AllByRecursion (λ e. IsKey (key_of x.fields e.1)) rows

-- The view has more writes, all in the logical area of the index, which is that of these rows. Where it is unique, no two of them have one key.
pub record IsFilled (old new : Over) (first : Lines) (x : IndexLine) (rows : List (Dbkey × Row)) : Type 0 where
  pub stands : Stands new first
  pub filling : List Write
  pub laid : laid_over new.lines first ≡ laid_all filling (laid_over old.lines first)
  pub within : AllByRecursion (λ w. (w.key).area ≡ x.root.area) filling
  pub index : IsIndexOf (laid_over new.lines first) x.root x.fields rows
  pub once : x.unique ≡ true → keys_repeat x.fields rows ≡ false

-- it is filled, or refuses a duplicate just where it is unique and two rows have one key
abbrev pub RowsAdded : Over → Over → IndexLine → Lines → List (Dbkey × Row) → Result (Unit {0}) SchemaStop → Type 0
RowsAdded old new x first rows =
    Answers (λ u. IsFilled old new first x rows) (Lacks (knows old.base)) (λ key. ⊥) (RowRefused x ((x.unique ≡ true) × (keys_repeat x.fields rows ≡ true)) (CanNotGrow old.base first x))

-- an index of no rows is filled
abbrev pub AddsRows : Over → Over → IndexLine → List StoredRow → Result (Unit {0}) SchemaStop → Type 0
AddsRows old new x given result = (first : Lines) (rows : List (Dbkey × Row)) → given ≡ map stored_row rows → AreFitting x rows → Stands old first → IsIndexOf (laid_over old.lines first) x.root x.fields [] → RowsAdded old new x first rows result

-- so is one of which nothing is written
abbrev pub Fills : Over → Over → IndexLine → List StoredRow → Result (Unit {0}) SchemaStop → Type 0
Fills old new x given result = (first : Lines) (rows : List (Dbkey × Row)) → given ≡ map stored_row rows → AreFitting x rows → Stands old first → RowsAdded old new x first rows result
