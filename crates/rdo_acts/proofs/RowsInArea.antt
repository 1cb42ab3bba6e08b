-- A relation's rows stand in its logical area, and erasing none of them changes nothing.
use Rattle.std.proofs.Common.{◌≡◌, ◌==◌, true, false, List, Option, Some, None, refl, sym, ap, ◌∙◌}
use Rattle.std.specs.FinMap.Entries.{find, put}
use Rattle.std.proofs.lemmas.Option.{none-some}
use Rattle.rdb_types.specs.declared.keys.Dbkey.{Dbkey}
use Rattle.rdb_types.specs.Order.{dbkey_order, chars_order}
use Rattle.rdb_types.specs.OrderLaws.{chars_total}
use Rattle.ordered_entries.proofs.Laws.{put_found}
use Rattle.rdo_ast.specs.Tree.{Name}
use Rattle.rdb_meaning.specs.declared.tables.Relation.{Relation as Rows}
use Rattle.rdb_meaning.specs.declared.tables.Tables.{Tables}
use Rattle.rdb_meaning.specs.Contents.{Row, relation_named, with_rows, rows_changed, without_row}
use Rattle.line_view.specs.Knowledge.{Lines}
use Rattle.catalog.specs.declared.reading.Catalog.{Catalog}
use Rattle.relation_rows.specs.declared.stored.StoredRelation.{StoredRelation}
use Rattle.relation_rows.specs.Relations.{HasRows}
use Rattle.sound_changes.specs.Standing.{IsSoundAs}
use Rattle.sound_changes.proofs.Basics.{number_is}
use Rattle.sound_changes.proofs.Given.{all_others}
use Rattle.sound_changes.proofs.PairsOut.{left}
use Rattle.sound_changes.proofs.RowLaid.{found}
use Rattle.row_writes.specs.declared.target.TargetRelation.{TargetRelation}
use Rattle.row_writes.specs.Target.{IsTarget}
use Rattle.selection_areas.proofs.of_statement_sources.Read.{rows}
use Rattle.rdo_acts.proofs.RowFound.{none_beside}

-- the lines of the area are the rows of the relation that is written so
pub has_rows : (all : Lines) (c : Catalog) (t : Tables) (n : Name) (rel : Rows) (r : TargetRelation) → IsSoundAs all c t → relation_named n t ≡ Some rel → IsTarget c n rel r → HasRows all r.stored rel
has_rows all c t n rel r sound named is = rows all c t n rel sound named r.stored (sym is.version) (sym is.area) (sym is.fields)

module _ (all : Lines) (r : StoredRelation) (rel : Rows) (has : HasRows all r rel) (key : Dbkey) where
  pub row_in_area : (row : Row) → find dbkey_order key rel.rows ≡ Some row → key.area ≡ r.area
  row_in_area row stands =
      elim (key.area == r.area) as (λ b. (key.area == r.area) ≡ b → key.area ≡ r.area) [
        | true ↦ λ e. number_is key.area r.area e
        | false ↦ λ e. absurd (none-some row (none_beside r key all rel has e ∙ stands))
      ] refl

-- where the Dbkey has no row, taking it away leaves the tables
pub nothing_goes : (all : Lines) (c : Catalog) (t : Tables) (n : Name) (rel : Rows) (key : Dbkey) → IsSoundAs all c t → relation_named n t ≡ Some rel → find dbkey_order key rel.rows ≡ None → without_row n key t ≡ t
nothing_goes all c t n rel key sound named none =
    ap (λ (o : Option Rows). rows_changed n (left key) o t) named
    ∙ ap (λ (es : List (Dbkey × Row)). record t { relations = put chars_order n (with_rows es rel) t.relations }) (all_others key rel.rows none)
    ∙ ap (λ (rs : List (Name × Rows)). record t { relations = rs }) (put_found chars_order chars_total n rel t.relations (found all c t n rel sound.decodes sound.are named).sorted named)
