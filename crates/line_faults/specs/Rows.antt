-- The faults of rows.
use Rattle.std.specs.Prelude.{ℕ, ◌≡◌, ◌⊎◌, List, Some, None}
use Rattle.rdb_types.specs.declared.keys.Dbkey.{Dbkey}
use Rattle.rdb_types.specs.declared.values.Value.{Value}
use Rattle.line_view.specs.Knowledge.{Knowledge, Lines, lines_in}
use Rattle.relation_rows.specs.declared.stored.StoredRelation.{StoredRelation}
use Rattle.relation_rows.specs.Stored.{IsRowOf, IsRowAt}
use Rattle.line_faults.specs.Found.{Finds}

-- the line is a row of the relation
abbrev pub IsRowLine : StoredRelation → Dbkey × List ℕ → Type 0
IsRowLine r e = (row : List Value) × IsRowOf r e.1 row

-- the lines of the relation's logical area that are no rows of it
abbrev pub AreRowFaults : StoredRelation → Lines → List Dbkey → Type 0
AreRowFaults r all found = Finds (IsRowLine r) (λ e. IsRowLine r e → ⊥) (λ e. e.0) (lines_in r.area all) found

-- what is known of the line is that it is a row of the relation, or that it isn't present
abbrev pub IsFineAt : Knowledge → StoredRelation → Dbkey → Type 0
IsFineAt known r key = ((row : List Value) × IsRowAt known r key row) ⊎ (known.line key ≡ Some None)
