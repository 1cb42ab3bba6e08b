-- What a new index is filled from: its line, and rows.
use Rattle.std.proofs.Common.{◌≡◌, ℕ, List, [], ◌∷◌, map, Option, Some, None, get_or, refl, sym, ap, subst, ◌∙◌}
use Rattle.std.specs.Prelude.{Result, Ok, Err, IfOk, IsSome}
use Rattle.std.proofs.lemmas.Option.{same_Some}
use Rattle.rdb_types.specs.declared.keys.Dbkey.{Dbkey}
use Rattle.rdo_ast.specs.Tree.{Name}
use Rattle.rdb_meaning.specs.declared.tables.Relation.{Relation as Rows}
use Rattle.rdb_meaning.specs.declared.tables.Tables.{Tables}
use Rattle.rdb_meaning.specs.Contents.{relation_named}
use Rattle.line_view.specs.declared.need.Need.{Need}
use Rattle.line_view.specs.declared.need.Need.TheVariants.{Line, Area, Room}
use Rattle.line_view.specs.declared.stop.Stop.{Stop}
use Rattle.line_view.specs.declared.stop.Stop.TheVariants.{Missing, Bad, NoMemory, Own}
use Rattle.line_view.specs.declared.stop.Never.{Never}
use Rattle.line_view.specs.declared.writes.Write.{Write}
use Rattle.line_view.specs.Knowledge.{Knowledge, Lines, IsInOrder, Agrees, lines_in}
use Rattle.line_view.specs.Held.{knows}
use Rattle.line_view.specs.Stops.{Lacks}
use Rattle.catalog_lines.specs.declared.line.IndexLine.{IndexLine}
use Rattle.catalog_lines.specs.declared.line.CatalogLine.{CatalogLine}
use Rattle.catalog_lines.specs.declared.line.CatalogLine.TheVariants.{Index}
use Rattle.catalog_lines.specs.Lines.{IsCatalogLine}
use Rattle.catalog_lines.proofs.Lines.{one_line}
use Rattle.catalog.specs.declared.reading.Catalog.{Catalog}
use Rattle.catalog_definitions.specs.Written.{IsWritten, AreWritten}
use Rattle.relation_rows.specs.declared.stored.StoredRow.{StoredRow}
use Rattle.relation_rows.specs.Stored.{AreRowsOf, IsBadIn, IsNextNeed}
use Rattle.relation_rows.specs.Relations.{stored_row}
use Rattle.index_rows.proofs.Standing.{same_rows, none_bad}
use Rattle.sound_lines.specs.Contents.{versions_in, version_of, stored}
use Rattle.sound_lines.proofs.RowsRead.{rows_alike}
use Rattle.sound_changes.specs.Standing.{IsSoundAs}
use Rattle.sound_changes.proofs.Changed.{rows_in}
use Rattle.statement_view.specs.Over.{Over, laid_over, knows_over}
use Rattle.row_writes.specs.declared.target.TargetRelation.{TargetRelation}
use Rattle.row_writes.proofs.Trees.{below_lacks}
use Rattle.stored_schema.specs.Targets.{HasTarget}
use Rattle.schema_writes.proofs.Gone.{area_unknown}
use Rattle.index_writes.specs.Reading.{IsLineWritten, ReadsRows}

-- ---- the line

-- a write is of one line
pub one_written : (a b : CatalogLine) (writes : List Write) → IsLineWritten a writes → IsLineWritten b writes → a ≡ b
one_written a b [] is too = absurd is
one_written a b (w ∷ x ∷ ws) is too = absurd is
one_written a b (w ∷ []) is too = one_line too.bytes a b (subst (λ bytes. IsCatalogLine bytes a) (same_Some _ _ (sym is.present ∙ too.present)) is.decodes) too.decodes

pub line_written : (known : Knowledge) (nth : ℕ) (line : CatalogLine) (writes : List Write) → AreWritten known nth (line ∷ []) writes → IsLineWritten line writes
line_written known nth line [] are = absurd are
line_written known nth line (w ∷ []) are = are.1
line_written known nth line (w ∷ x ∷ ws) are = absurd are.2

-- the first of the writes is the one
pub written_at : (line : CatalogLine) (writes : List Write) (w : Write) → w ≡ get_or writes 0 w → IsLineWritten line writes → IsWritten line w
written_at line [] w is written = absurd written
written_at line (v ∷ u ∷ us) w is written = absurd written
written_at line (v ∷ []) w is written = subst (IsWritten line) (sym is) written

pub bytes_written : (line : CatalogLine) (w : Write) (image bytes : List ℕ) → IsWritten line w → w.image ≡ Some image → bytes ≡ image → IsCatalogLine bytes line
bytes_written line w image bytes is at same = subst (λ (b : List ℕ). IsCatalogLine b line) (same_Some is.bytes image (sym is.present ∙ at) ∙ sym same) is.decodes

-- what was read is the line that was written
pub read_written : (o : Option CatalogLine) (x y : IndexLine) (writes : List Write) → o ≡ Some (Index x) → o ≡ Some (Index y) → IsLineWritten (Index x) writes → IsLineWritten (Index y) writes
read_written o x y writes one other written = subst (λ (line : CatalogLine). IsLineWritten line writes) (same_Some (Index x) (Index y) (sym one ∙ other)) written

-- ---- the rows

abbrev fails : Stop Never → Result (List StoredRow) (Stop Never)
fails stop = Err stop

module _ (o : Over) (c : Catalog) (n : Name) (target : TargetRelation) (is : (all : Lines) (t : Tables) (rel : Rows) → IsSoundAs all c t → relation_named n t ≡ Some rel → HasTarget c t n rel (Some target)) where
  -- the relation's rows stand on the lines of its area
  are_rows : (all : Lines) (t : Tables) (rel : Rows) → IsSoundAs all c t → relation_named n t ≡ Some rel → AreRowsOf target.stored (lines_in target.stored.area all) (map stored_row rel.rows)
  are_rows all t rel sound named =
      let own = (is all t rel sound named).is in
      rows_alike (stored (version_of n (versions_in c.lines)) rel) target.stored (lines_in target.stored.area all) (map stored_row rel.rows) own.version own.fields
      (subst (λ (a : ℕ). AreRowsOf (stored (version_of n (versions_in c.lines)) rel) (lines_in a all) (map stored_row rel.rows)) own.area
      (rows_in all (versions_in c.lines) n rel c.tables.relations t.relations sound.are.relations named))

  need_lacks : (need : Need) → IsNextNeed (knows_over o) target.stored.area need → Lacks (knows o.base) need
  need_lacks (Line key) next = below_lacks o key next.2.unknown
  need_lacks (Area area) next = area_unknown o area (ap (λ (a : ℕ). (knows_over o).area a) next.0 ∙ next.1)
  need_lacks (Room room) next = absurd next

  pub rows_read : (rows : List StoredRow) → ((all : Lines) → IsInOrder all → Agrees (knows_over o) all → AreRowsOf target.stored (lines_in target.stored.area all) rows) → ReadsRows o c n (Ok rows)
  rows_read rows are = λ t rel first view named.
      let all = laid_over o.lines first in
      same_rows target.stored (lines_in target.stored.area all) rows (map stored_row rel.rows) (are all view.sound.sorted view.stands.agrees) (are_rows all t rel view.sound named)

  pub rows_stop : (stop : Stop Never) → ((need : Need) → fails stop ≡ Err (Missing need) → IsNextNeed (knows_over o) target.stored.area need) →
      ((at : Dbkey) → fails stop ≡ Err (Bad at) → (all : Lines) → Agrees (knows_over o) all → (at.area ≡ target.stored.area) × IsBadIn target.stored at all) → ReadsRows o c n (Err stop)
  rows_stop (Missing need) missing bad = λ t rel first view named. need_lacks need (missing need refl)
  rows_stop (Bad at) missing bad = λ t rel first view named.
      let all = laid_over o.lines first in
      let here = bad at refl all view.stands.agrees in
      none_bad all target.stored (map stored_row rel.rows) at here.0 here.1 (are_rows all t rel view.sound named)
  rows_stop NoMemory missing bad = λ t rel first view named. tt
  rows_stop (Own never) missing bad = elim never [ ]

  pub rows_answer : (result : Result (List StoredRow) (Stop Never)) → IfOk result (λ rows. (all : Lines) → IsInOrder all → Agrees (knows_over o) all → AreRowsOf target.stored (lines_in target.stored.area all) rows) →
      ((need : Need) → result ≡ Err (Missing need) → IsNextNeed (knows_over o) target.stored.area need) → ((at : Dbkey) → result ≡ Err (Bad at) → (all : Lines) → Agrees (knows_over o) all → (at.area ≡ target.stored.area) × IsBadIn target.stored at all) → ReadsRows o c n result
  rows_answer (Ok rows) are missing bad = rows_read rows are
  rows_answer (Err stop) are missing bad = rows_stop stop missing bad

pub some_there : (o : Option Rows) → IsSome o → (rel : Rows) × (o ≡ Some rel)
some_there (Some rel) is = (rel, refl)
some_there None is = let bad : ⊥ = cc in absurd bad
