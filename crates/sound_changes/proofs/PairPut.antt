-- A new row's pair is put into an index.
use Rattle.std.proofs.Common.{◌≡◌, ◌==◌, ℕ, true, false, cond, not, ◌&&◌, List, [], ◌∷◌, Some, None, refl, sym, ap, subst, ◌∙◌}
use Rattle.std.specs.List.{AllByRecursion, slice_get}
use Rattle.std.specs.Ordering.{is_eq}
use Rattle.std.specs.FinMap.Entries.{find, put}
use Rattle.std.proofs.lemmas.Bool.{eq-eqb}
use Rattle.std.proofs.lemmas.Option.{none-some}
use Rattle.rdb_types.specs.declared.keys.Dbkey.{Dbkey}
use Rattle.rdb_types.specs.declared.values.Value.{Value}
use Rattle.rdb_types.specs.Order.{dbkey_order, chars_order, row_order}
use Rattle.ordered_entries.proofs.Laws.{find-put_same}
use Rattle.rdo_ast.specs.Tree.{Name}
use Rattle.rdb_meaning.specs.declared.tables.Relation.{Relation as Rows}
use Rattle.rdb_meaning.specs.declared.tables.Tables.{Tables}
use Rattle.rdb_meaning.specs.Contents.{Row, relation_named, rows_changed, with_rows, with_row, key_of, is_used}
use Rattle.index_node.specs.declared.entry.NodeEntry.{NodeEntry}
use Rattle.index_node.specs.Order.{entry_order}
use Rattle.line_view.specs.Knowledge.{Lines}
use Rattle.line_view.specs.declared.writes.Write.{Write}
use Rattle.line_view.specs.Writes.{laid_all}
use Rattle.catalog_lines.specs.declared.line.IndexLine.{IndexLine}
use Rattle.catalog_lines.specs.declared.line.CatalogLine.TheVariants.{Index}
use Rattle.sound_lines.specs.catalog.declared.directory.PlacedLine.{PlacedLine}
use Rattle.sound_lines.specs.catalog.declared.reading.Catalog.{Catalog}
use Rattle.sound_lines.specs.catalog.Directory.{directory}
use Rattle.sound_lines.specs.catalog.Schema.{catalog_tables, stands}
use Rattle.sorted_index_laws.specs.Tree.{pairs}
use Rattle.sorted_index_laws.specs.Changes.{pair_of, with_pair, has_key, Leaves}
use Rattle.sorted_index_laws.specs.Insertion.{IsNew}
use Rattle.sorted_index_laws.proofs.Lines.{other_way}
use Rattle.sound_lines.specs.Sound.{relation_in, IsSoundIndex, IsSoundLine}
use Rattle.sound_changes.specs.Standing.{IsSoundFor, tables_for}
use Rattle.sound_changes.proofs.Basics.{all_of}
use Rattle.sound_changes.proofs.Named.{Fits, all_fit, root_area, in_area}
use Rattle.sound_changes.proofs.RowLaid.{found}
use Rattle.sound_changes.proofs.Pairs.{all_with, pairs_put, keys_held, none_twice, rows_apart}
use Rattle.sound_lines.specs.relation_rows.Indexed.{pairs_of}
use Rattle.rdb_types.specs.OrderLaws.{chars_total}
use Rattle.sound_changes.proofs.IndexLaid.{at_place, index_done}

-- ---- the pair isn't in the index before

pub new_pair : (positions : List ℕ) (key : List Value) (k : Dbkey) (rows : List (Dbkey × Row)) → find dbkey_order k rows ≡ None → IsNew (pair_of key k) (pairs_of positions rows)
new_pair positions key k [] none = tt
new_pair positions key k (e ∷ es) none =
    let P : NodeEntry → Type 0 = λ q. is_eq (entry_order q (pair_of key k)) ≡ false in
    elim (is_eq (dbkey_order k e.0)) as (λ b. is_eq (dbkey_order k e.0) ≡ b → cond b (Some e.1) (find dbkey_order k es) ≡ None → AllByRecursion P (with_pair (pair_of (key_of positions e.1) e.0) (pairs_of positions es))) [
      | true ↦ λ tie h. absurd (none-some e.1 (sym h))
      | false ↦ λ apart h.
          all_with P (pair_of (key_of positions e.1) e.0) (pairs_of positions es)
          (rows_apart (row_order (key_of positions e.1) key) (dbkey_order e.0 k) (other_way e.0 k ∙ apart)) (new_pair positions key k es h)
    ] refl none

-- ---- the index of the rows with it

pub index_put : (all : Lines) (x : IndexLine) (rel : Rows) (key : Dbkey) (row : Row) (writes : List Write) (old : IsSoundIndex all x (Some rel)) → find dbkey_order key rel.rows ≡ None →
    Leaves all x.root old.is.level old.is.tree writes (with_pair (pair_of (key_of x.fields row) key) (pairs old.is.level old.is.tree)) →
    (x.unique && has_key (key_of x.fields row) (pairs old.is.level old.is.tree)) ≡ false → IsSoundIndex (laid_all writes all) x (Some (with_rows (put dbkey_order key row rel.rows) rel))
index_put all x rel key row writes old none left free = record {
  short = old.short;
  is = record {
    level = left.level;
    tree = left.tree;
    is = left.index;
    holds = left.pairs_are ∙ ap (with_pair (pair_of (key_of x.fields row) key)) old.is.holds ∙ sym (pairs_put x.fields key row rel.rows none);
  };
  unique = λ is.
      let taken : has_key (key_of x.fields row) (pairs old.is.level old.is.tree) ≡ false = ap (λ b. b && has_key (key_of x.fields row) (pairs old.is.level old.is.tree)) (sym is) ∙ free in
      none_twice x.fields key row rel.rows (old.unique is) (sym (ap (has_key (key_of x.fields row)) old.is.holds ∙ keys_held x.fields row rel.rows) ∙ taken);
}

-- ---- an index that isn't done yet

pub index_waits : (all : Lines) (c : Catalog) (done : List ℕ) (t after : Tables) (rel : Rows) (i : ℕ) (p : PlacedLine) (x : IndexLine) → IsSoundFor all c after (tables_for rel.area done t after) → relation_in rel.area t.relations ≡ Some rel →
    slice_get c.lines i ≡ Some p → p.line ≡ Index x → x.relation ≡ rel.area → is_used x.area done ≡ false → IsSoundIndex all x (Some rel)
index_waits all c done t after rel i p x sound own at is on waits =
    let here = subst (λ line. IsSoundLine all (tables_for rel.area done t after line) line) is (at_place (λ (q : PlacedLine). IsSoundLine all (tables_for rel.area done t after q.line) q.line) c.lines i p sound.things at) in
    let test : (x.relation == rel.area && not (is_used x.area done)) ≡ true = ap (λ b. b && not (is_used x.area done)) (eq-eqb x.relation rel.area on) ∙ ap not waits in
    let old = subst (λ b. IsSoundIndex all x (relation_in x.relation (cond b t after).relations)) test here in
    subst (IsSoundIndex all x) (ap (λ (a : ℕ). relation_in a t.relations) on ∙ own) old

pub own_relation : (all : Lines) (c : Catalog) (t : Tables) (n : Name) (rel : Rows) (seen : _) → IsSoundFor all c t seen → relation_named n t ≡ Some rel → relation_in rel.area t.relations ≡ Some rel
own_relation all c t n rel seen sound is = in_area all (directory c.lines) (catalog_tables c.lines) t.relations n rel (found all c t n rel sound.decodes sound.are is).each is

-- ---- the index is done

pub pair_put : (all : Lines) (c : Catalog) (done : List ℕ) (t : Tables) (n : Name) (rel : Rows) (key : Dbkey) (row : Row) (i : ℕ) (p : PlacedLine) (x : IndexLine) (writes : List Write) →
    IsSoundFor all c (with_row n key row t) (tables_for rel.area done t (with_row n key row t)) → relation_named n t ≡ Some rel → find dbkey_order key rel.rows ≡ None →
    slice_get c.lines i ≡ Some p → p.line ≡ Index x → x.relation ≡ rel.area →
    (old : IsSoundIndex all x (Some rel)) → Leaves all x.root old.is.level old.is.tree writes (with_pair (pair_of (key_of x.fields row) key) (pairs old.is.level old.is.tree)) →
    (x.unique && has_key (key_of x.fields row) (pairs old.is.level old.is.tree)) ≡ false →
    IsSoundFor (laid_all writes all) c (with_row n key row t) (tables_for rel.area (x.area ∷ done) t (with_row n key row t))
pair_put all c done t n rel key row i p x writes sound is none at line on old left free =
    let v : Rows = with_rows (put dbkey_order key row rel.rows) rel in
    let d = directory c.lines in
    let u = catalog_tables c.lines in
    let after = with_row n key row t in
    let named : relation_named n after ≡ Some v = ap (λ o. relation_named n (rows_changed n (put dbkey_order key row) o t)) is ∙ find-put_same chars_order chars_total n v t.relations in
    let own : relation_in x.relation after.relations ≡ Some v = ap (λ (a : ℕ). relation_in a after.relations) on ∙ own_relation all c after n v (tables_for rel.area done t after) sound named in
    let fits = at_place (Fits all d u) c.lines i p (all_fit all c sound.decodes) at in
    let root = root_area d u p.key x (ap (λ l. stands d u p.key l) (sym line) ∙ fits.stood) in
    index_done all c rel.area done t after i p x writes sound at line
    (all_of (λ (w : Write). (w.key).area ≡ x.root.area) (λ (w : Write). (w.key).area ≡ x.area) (λ w here. here ∙ root) writes left.in_area)
    (subst (IsSoundIndex (laid_all writes all) x) (sym own) (index_put all x rel key row writes old none left free))
