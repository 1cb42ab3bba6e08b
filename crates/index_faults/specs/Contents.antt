-- Whether an index holds the keys of its rows.
use Rattle.std.specs.Prelude.{◌≡◌, ℕ, Bool, true, false, not, ◌&&◌, List, [], ◌∷◌, map, None}
use Rattle.std.specs.Ordering.{is_eq}
use Rattle.rdb_types.specs.declared.keys.Dbkey.{Dbkey}
use Rattle.rdb_types.specs.declared.values.Value.{Value}
use Rattle.rdb_types.specs.Order.{row_order}
use Rattle.rdb_meaning.specs.Contents.{Row, key_of}
use Rattle.rdb_meaning.specs.Defining.{keys_repeat}
use Rattle.index_node.specs.declared.entry.NodeEntry.{NodeEntry}
use Rattle.line_view.specs.Knowledge.{Knowledge, Lines, lines_in}
use Rattle.relation_rows.specs.declared.stored.StoredRelation.{StoredRelation}
use Rattle.relation_rows.specs.Stored.{IsRowAt, AreRowsOf}
use Rattle.relation_rows.specs.Relations.{stored_row}
use Rattle.relation_rows.specs.Indexed.{pairs_of}

-- the pair is that of a row of the relation that is known
pub record IsPairAt (known : Knowledge) (r : StoredRelation) (positions : List ℕ) (pair : NodeEntry) : Type 0 where
  pub childless : pair.child ≡ None
  pub own : (pair.row).area ≡ r.area
  pub row : List Value
  pub stands : IsRowAt known r pair.row row
  pub keyed : pair.key ≡ key_of positions row

-- no two pairs side by side have one key
abbrev pub keys_differ_from : NodeEntry → List NodeEntry → Bool
keys_differ_from p [] = true
keys_differ_from p (q ∷ qs) = not (is_eq (row_order p.key q.key)) && keys_differ_from q qs

abbrev pub keys_differ : List NodeEntry → Bool
keys_differ [] = true
keys_differ (p ∷ ps) = keys_differ_from p ps

-- these are the rows of the relation
abbrev pub HasTheRows : StoredRelation → Lines → List (Dbkey × Row) → Type 0
HasTheRows r all rows = AreRowsOf r (lines_in r.area all) (map stored_row rows)

-- The pairs are those of the rows, and where the index is unique no two rows have one key.
pub record HoldsRows (positions : List ℕ) (unique : Bool) (held : List NodeEntry) (rows : List (Dbkey × Row)) : Type 0 where
  pub holds : held ≡ pairs_of positions rows
  pub apart : unique ≡ true → keys_repeat positions rows ≡ false
