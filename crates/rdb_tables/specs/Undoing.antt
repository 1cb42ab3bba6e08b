-- What brings the tables back to the start of a statement.
use Rattle.std.specs.Prelude.{◌≡◌, not, if◌then◌else◌, List, [], ◌∷◌, ◌++◌, map, filter, Option, Some, None, is_some, IsTrue}
use Rattle.std.specs.Ordering.{is_eq}
use Rattle.std.specs.FinMap.Entries.{find, put, is_sorted}
use Rattle.rdb_types.specs.declared.keys.Dbkey.{Dbkey}
use Rattle.rdo_ast.specs.Tree.{Name}
use Rattle.rdb_meaning.specs.declared.tables.Relation.{Relation}
use Rattle.rdb_meaning.specs.declared.tables.Tables.{Tables}
use Rattle.rdb_meaning.specs.Contents.{Row, same_name, with_rows, relation_named}
use Rattle.rdb_types.specs.Order.{chars_order, dbkey_order}
use Rattle.rdb_tables.specs.declared.undo.Change.{Change}
use Rattle.rdb_tables.specs.declared.undo.Saved.{Saved}
use Rattle.rdb_tables.specs.declared.undo.Undo.{Undo}

abbrev pub Rows : Type 0
Rows = List (Dbkey × Row)

-- a row in the place of one that is there
abbrev pub put_where : Option Row → Dbkey → Row → Rows → Rows
put_where (Some now) k row rows = put dbkey_order k row rows
put_where None k row rows = rows

-- what stood at the Dbkey stands there again, if it isn't erased
abbrev pub undo_row : Dbkey → Option Row → Rows → Rows
undo_row k (Some row) rows = put_where (find dbkey_order k rows) k row rows
undo_row k None rows = filter (λ e. not (is_eq (dbkey_order k e.0))) rows

abbrev pub undo_in : Name → Change → Rows → Rows
undo_in n c rows = if same_name n c.relation then undo_row c.key c.before rows else rows

-- a relation's rows without the changes, the last of them undone first
abbrev pub undone : Name → List Change → Rows → Rows
undone n [] rows = rows
undone n (c ∷ cs) rows = undo_in n c (undone n cs rows)

abbrev pub saved_as : Name → List Saved → Option Relation
saved_as n [] = None
saved_as n (s ∷ ss) = if same_name n s.relation then Some s.before else saved_as n ss

abbrev pub began : Option Relation → Rows → Relation → Relation
began (Some before) rows r = before
began None rows r = with_rows rows r

-- a relation as it was: the one that was saved, or else what it is now without the changes
abbrev pub start_of : Name → Undo → Relation → Relation
start_of n undo r = began (saved_as n undo.saved) (undone n undo.changes r.rows) r

-- the tables at the start of the statement
abbrev pub beginning : Tables → Undo → Tables
beginning t undo = record t { relations = map (λ e. (e.0, start_of e.0 undo e.1)) t.relations }

-- with what stands at a Dbkey of a relation, unless the relation is saved
abbrev pub logged : Name → Dbkey → Option Row → Undo → Undo
logged n k before undo =
    if is_some (saved_as n undo.saved) then undo else record undo { changes = undo.changes ++ record { relation = n; key = k; before = before } ∷ [] }

-- relations stand in the order of their names, and the relation's rows in that of their Dbkeys
pub record IsInOrder (n : Name) (t : Tables) : Type 0 where
  pub relations : IsTrue (is_sorted chars_order t.relations)
  pub rows : (r : Relation) → relation_named n t ≡ Some r → IsTrue (is_sorted dbkey_order r.rows)
