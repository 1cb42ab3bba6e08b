-- The pair of a row that is changed or erased.
use Rattle.std.proofs.Common.{◌≡◌, ℕ, true, false, not, ◌&&◌, List, [], ◌∷◌, ◌++◌, Some, sym, ap, subst, ◌∙◌}
use Rattle.std.specs.List.{AllByRecursion, slice_get}
use Rattle.std.specs.Ordering.{is_eq}
use Rattle.std.specs.FinMap.Entries.{find, put, is_sorted}
use Rattle.rdb_types.specs.declared.keys.Dbkey.{Dbkey}
use Rattle.ordered_entries.proofs.Laws.{find-put_same}
use Rattle.rdo_ast.specs.Tree.{Name}
use Rattle.rdb_meaning.specs.declared.tables.Relation.{Relation as Rows}
use Rattle.rdb_meaning.specs.declared.tables.Tables.{Tables}
use Rattle.rdb_meaning.specs.Contents.{Row, relation_named, rows_changed, with_rows, with_row, without_row, key_of}
use Rattle.rdb_meaning.specs.Defining.{keys_repeat}
use Rattle.line_view.specs.Knowledge.{Lines}
use Rattle.line_view.specs.declared.writes.Write.{Write}
use Rattle.line_view.specs.Writes.{laid_all}
use Rattle.line_view.proofs.Written.{laid_in_turn}
use Rattle.catalog_lines.specs.declared.line.IndexLine.{IndexLine}
use Rattle.catalog_lines.specs.declared.line.CatalogLine.TheVariants.{Index}
use Rattle.sound_lines.specs.catalog.declared.directory.PlacedLine.{PlacedLine}
use Rattle.sound_lines.specs.catalog.declared.reading.Catalog.{Catalog}
use Rattle.sound_lines.specs.catalog.Directory.{directory}
use Rattle.sound_lines.specs.catalog.Schema.{catalog_tables, stands}
use Rattle.sorted_index_laws.specs.Tree.{pairs}
use Rattle.sorted_index_laws.specs.Changes.{pair_of, with_pair, without_pair, has_key, Leaves}
use Rattle.sorted_index_laws.proofs.Ordered.{all_append}
use Rattle.sound_lines.specs.Sound.{relation_in, IsSoundIndex}
use Rattle.sound_changes.specs.Standing.{IsSoundFor, tables_for}
use Rattle.sound_changes.proofs.Basics.{all_of}
use Rattle.sound_changes.proofs.Named.{Fits, all_fit, root_area}
use Rattle.sound_changes.proofs.Pairs.{keys_held, none_twice}
use Rattle.sound_changes.proofs.PairsOut.{left, pairs_out, are_at, put_left, pairs_moved, pairs_same, once_left, once_same}
use Rattle.sound_changes.proofs.IndexLaid.{at_place, index_done}
use Rattle.rdb_types.specs.Order.{chars_order, dbkey_order}
use Rattle.rdb_types.specs.OrderLaws.{chars_total}
use Rattle.sound_changes.proofs.PairPut.{own_relation}

-- ---- one index

pub index_without : (all : Lines) (x : IndexLine) (rel : Rows) (key : Dbkey) (was : Row) (writes : List Write) (old : IsSoundIndex all x (Some rel)) → is_sorted dbkey_order rel.rows ≡ true → find dbkey_order key rel.rows ≡ Some was →
    Leaves all x.root old.is.level old.is.tree writes (without_pair (pair_of (key_of x.fields was) key) (pairs old.is.level old.is.tree)) → IsSoundIndex (laid_all writes all) x (Some (with_rows (left key rel.rows) rel))
index_without all x rel key was writes old sorted found gone = record {
  short = old.short;
  is = record {
    level = gone.level;
    tree = gone.tree;
    is = gone.index;
    holds = gone.pairs_are ∙ ap (without_pair (pair_of (key_of x.fields was) key)) old.is.holds ∙ pairs_out x.fields key was rel.rows (are_at key was rel.rows sorted found);
  };
  unique = λ is. once_left x.fields (λ e. not (is_eq (dbkey_order key e.0))) rel.rows (old.unique is);
}

pub index_moved : (all : Lines) (x : IndexLine) (rel : Rows) (key : Dbkey) (was row : Row) (first second : List Write) (old : IsSoundIndex all x (Some rel)) → is_sorted dbkey_order rel.rows ≡ true → find dbkey_order key rel.rows ≡ Some was →
    (gone : Leaves all x.root old.is.level old.is.tree first (without_pair (pair_of (key_of x.fields was) key) (pairs old.is.level old.is.tree))) →
    Leaves (laid_all first all) x.root gone.level gone.tree second (with_pair (pair_of (key_of x.fields row) key) (pairs gone.level gone.tree)) →
    (x.unique && has_key (key_of x.fields row) (pairs gone.level gone.tree)) ≡ false → IsSoundIndex (laid_all second (laid_all first all)) x (Some (with_rows (put dbkey_order key row rel.rows) rel))
unfolding index_without
index_moved all x rel key was row first second old sorted found gone back free = record {
  short = old.short;
  is = record {
    level = back.level;
    tree = back.tree;
    is = back.index;
    holds = back.pairs_are ∙ ap (with_pair (pair_of (key_of x.fields row) key)) (gone.pairs_are ∙ ap (without_pair (pair_of (key_of x.fields was) key)) old.is.holds) ∙ sym (pairs_moved x.fields key was row rel.rows sorted found);
  };
  unique = λ is.
      let stands = index_without all x rel key was first old sorted found gone in
      let taken : has_key (key_of x.fields row) (pairs gone.level gone.tree) ≡ false = ap (λ b. b && has_key (key_of x.fields row) (pairs gone.level gone.tree)) (sym is) ∙ free in
      ap (keys_repeat x.fields) (sym (put_left key row rel.rows sorted))
      ∙ none_twice x.fields key row (left key rel.rows) (stands.unique is) (sym (ap (has_key (key_of x.fields row)) stands.is.holds ∙ keys_held x.fields row (left key rel.rows)) ∙ taken);
}

pub index_kept : (all : Lines) (x : IndexLine) (rel : Rows) (key : Dbkey) (was row : Row) → IsSoundIndex all x (Some rel) → is_sorted dbkey_order rel.rows ≡ true → find dbkey_order key rel.rows ≡ Some was → key_of x.fields was ≡ key_of x.fields row →
    IsSoundIndex all x (Some (with_rows (put dbkey_order key row rel.rows) rel))
index_kept all x rel key was row old sorted found same = record {
  short = old.short;
  is = record { level = old.is.level; tree = old.is.tree; is = old.is.is; holds = old.is.holds ∙ sym (pairs_same x.fields key was row rel.rows sorted found same) };
  unique = λ is. once_same x.fields key was row rel.rows sorted found same ∙ old.unique is;
}

-- ---- the index is done

module _ (all : Lines) (c : Catalog) (done : List ℕ) (t : Tables) (n : Name) (rel : Rows) (f : List (Dbkey × Row) → List (Dbkey × Row)) (i : ℕ) (p : PlacedLine) (x : IndexLine) (writes : List Write) where
  pub index_changed : IsSoundFor all c (rows_changed n f (relation_named n t) t) (tables_for rel.area done t (rows_changed n f (relation_named n t) t)) → relation_named n t ≡ Some rel →
      slice_get c.lines i ≡ Some p → p.line ≡ Index x → x.relation ≡ rel.area → AllByRecursion (λ (w : Write). (w.key).area ≡ x.root.area) writes →
      IsSoundIndex (laid_all writes all) x (Some (with_rows (f rel.rows) rel)) →
      IsSoundFor (laid_all writes all) c (rows_changed n f (relation_named n t) t) (tables_for rel.area (x.area ∷ done) t (rows_changed n f (relation_named n t) t))
  index_changed sound is at line on within new =
      let v : Rows = with_rows (f rel.rows) rel in
      let d = directory c.lines in
      let u = catalog_tables c.lines in
      let after = rows_changed n f (relation_named n t) t in
      let named : relation_named n after ≡ Some v = ap (λ o. relation_named n (rows_changed n f o t)) is ∙ find-put_same chars_order chars_total n v t.relations in
      let own : relation_in x.relation after.relations ≡ Some v = ap (λ (a : ℕ). relation_in a after.relations) on ∙ own_relation all c after n v (tables_for rel.area done t after) sound named in
      let fits = at_place (Fits all d u) c.lines i p (all_fit all c sound.decodes) at in
      let root = root_area d u p.key x (ap (λ l. stands d u p.key l) (sym line) ∙ fits.stood) in
      index_done all c rel.area done t after i p x writes sound at line
      (all_of (λ (w : Write). (w.key).area ≡ x.root.area) (λ (w : Write). (w.key).area ≡ x.area) (λ w here. here ∙ root) writes within)
      (subst (IsSoundIndex (laid_all writes all) x) (sym own) new)

pub pair_moved : (all : Lines) (c : Catalog) (done : List ℕ) (t : Tables) (n : Name) (rel : Rows) (key : Dbkey) (was row : Row) (i : ℕ) (p : PlacedLine) (x : IndexLine) (first second : List Write) →
    IsSoundFor all c (with_row n key row t) (tables_for rel.area done t (with_row n key row t)) → relation_named n t ≡ Some rel → is_sorted dbkey_order rel.rows ≡ true → find dbkey_order key rel.rows ≡ Some was →
    slice_get c.lines i ≡ Some p → p.line ≡ Index x → x.relation ≡ rel.area → (old : IsSoundIndex all x (Some rel)) →
    (gone : Leaves all x.root old.is.level old.is.tree first (without_pair (pair_of (key_of x.fields was) key) (pairs old.is.level old.is.tree))) →
    Leaves (laid_all first all) x.root gone.level gone.tree second (with_pair (pair_of (key_of x.fields row) key) (pairs gone.level gone.tree)) →
    (x.unique && has_key (key_of x.fields row) (pairs gone.level gone.tree)) ≡ false →
    IsSoundFor (laid_all (first ++ second) all) c (with_row n key row t) (tables_for rel.area (x.area ∷ done) t (with_row n key row t))
pair_moved all c done t n rel key was row i p x first second sound is sorted found at line on old gone back free =
    index_changed all c done t n rel (put dbkey_order key row) i p x (first ++ second) sound is at line on
    (all_append (λ (w : Write). (w.key).area ≡ x.root.area) first second gone.in_area back.in_area)
    (subst (λ (l : Lines). IsSoundIndex l x (Some (with_rows (put dbkey_order key row rel.rows) rel))) (sym (laid_in_turn first second all)) (index_moved all x rel key was row first second old sorted found gone back free))

pub pair_stays : (all : Lines) (c : Catalog) (done : List ℕ) (t : Tables) (n : Name) (rel : Rows) (key : Dbkey) (was row : Row) (i : ℕ) (p : PlacedLine) (x : IndexLine) →
    IsSoundFor all c (with_row n key row t) (tables_for rel.area done t (with_row n key row t)) → relation_named n t ≡ Some rel → is_sorted dbkey_order rel.rows ≡ true → find dbkey_order key rel.rows ≡ Some was →
    slice_get c.lines i ≡ Some p → p.line ≡ Index x → x.relation ≡ rel.area → IsSoundIndex all x (Some rel) → key_of x.fields was ≡ key_of x.fields row →
    IsSoundFor all c (with_row n key row t) (tables_for rel.area (x.area ∷ done) t (with_row n key row t))
pair_stays all c done t n rel key was row i p x sound is sorted found at line on old same =
    index_changed all c done t n rel (put dbkey_order key row) i p x [] sound is at line on tt (index_kept all x rel key was row old sorted found same)

pub pair_goes : (all : Lines) (c : Catalog) (done : List ℕ) (t : Tables) (n : Name) (rel : Rows) (key : Dbkey) (was : Row) (i : ℕ) (p : PlacedLine) (x : IndexLine) (writes : List Write) →
    IsSoundFor all c (without_row n key t) (tables_for rel.area done t (without_row n key t)) → relation_named n t ≡ Some rel → is_sorted dbkey_order rel.rows ≡ true → find dbkey_order key rel.rows ≡ Some was →
    slice_get c.lines i ≡ Some p → p.line ≡ Index x → x.relation ≡ rel.area → (old : IsSoundIndex all x (Some rel)) →
    Leaves all x.root old.is.level old.is.tree writes (without_pair (pair_of (key_of x.fields was) key) (pairs old.is.level old.is.tree)) →
    IsSoundFor (laid_all writes all) c (without_row n key t) (tables_for rel.area (x.area ∷ done) t (without_row n key t))
pair_goes all c done t n rel key was i p x writes sound is sorted found at line on old gone =
    index_changed all c done t n rel (left key) i p x writes sound is at line on gone.in_area (index_without all x rel key was writes old sorted found gone)
