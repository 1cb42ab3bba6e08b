-- The map behind the write of one row's line.
use Rattle.std.proofs.Common.{◌≡◌, ◌==◌, ℕ, ◌%◌, true, false, cond, not, ◌&&◌, List, [], ◌∷◌, map, Option, Some, None, refl, sym, ap, subst, ◌∙◌, arith}
use Rattle.std.specs.Prelude.{IsSome}
use Rattle.std.specs.List.{AllByRecursion, filter}
use Rattle.std.specs.declared.cmp.Ordering.TheVariants.{Less, Equal, Greater}
use Rattle.std.specs.Ordering.{is_eq}
use Rattle.std.specs.FinMap.Entries.{put, by_order, is_sorted}
use Rattle.std.proofs.lemmas.Bool.{eq-eqb, ne_eqb}
use Rattle.rdb_types.specs.declared.keys.Dbkey.{Dbkey}
use Rattle.rdb_types.specs.Order.{dbkey_order, chars_order}
use Rattle.ordered_entries.proofs.Laws.{find-put_same}
use Rattle.rdo_ast.specs.Tree.{Name}
use Rattle.rdb_meaning.specs.declared.tables.Relation.{Relation as Rows}
use Rattle.rdb_meaning.specs.declared.tables.Tables.{Tables}
use Rattle.rdb_meaning.specs.Contents.{Row, no_tables, relation_named, fields_of, with_rows, with_row, without_row, rows_changed, is_used}
use Rattle.line_view.specs.Knowledge.{Lines, IsInOrder, lines_in, laid}
use Rattle.catalog_lines.specs.declared.line.IndexLine.{IndexLine}
use Rattle.catalog_lines.specs.declared.line.CatalogLine.{CatalogLine}
use Rattle.catalog_lines.specs.declared.line.CatalogLine.TheVariants.{Relation, Global, Field as FieldOf, Index}
use Rattle.catalog_lines.specs.Lines.{IsRelationArea, IsIndexArea, IsAllowedLine}
use Rattle.sound_lines.specs.catalog.declared.directory.PlacedLine.{PlacedLine}
use Rattle.sound_lines.specs.catalog.declared.directory.Directory.{Directory}
use Rattle.sound_lines.specs.catalog.declared.reading.Catalog.{Catalog}
use Rattle.sound_lines.specs.catalog.Directory.{directory}
use Rattle.sound_lines.specs.catalog.Schema.{catalog_tables, stands}
use Rattle.sound_lines.specs.catalog.Reading.{catalog_area, IsCatalogOf}
use Rattle.sound_lines.specs.relation_rows.declared.stored.StoredRelation.{StoredRelation}
use Rattle.sound_lines.specs.relation_rows.Stored.{IsRowOf, AreRowsOf}
use Rattle.sound_lines.specs.relation_rows.Relations.{stored_row, HasRows}
use Rattle.sound_lines.specs.Contents.{versions_in, version_of, stored, AreTablesWith}
use Rattle.sound_lines.specs.Sound.{relation_in, IsSoundRelation, IsSoundIndex, IsSoundLine, IsOwned}
use Rattle.sound_lines.proofs.LaidRows.{row_put, row_erased}
use Rattle.sound_changes.specs.Standing.{IsSoundFor, IsSoundAs, tables_for}
use Rattle.sound_changes.proofs.Basics.{fails, all_of, number_is, sorted_put, sorted_without}
use Rattle.sound_changes.proofs.Frames.{catalog_beside, sound_index_beside}
use Rattle.sound_changes.proofs.Named.{Fits, all_fit, root_area, IsOf, AreOf, put_of, lines_of, found_of, in_area, other_in, lines_sorted}
use Rattle.rdb_types.specs.OrderLaws.{chars_total, dbkey_total}
use Rattle.sound_changes.proofs.Changed.{have_sorted, have_of, rows_in, have_changed}

-- ---- what is known of a sound map

pub record IsFound (all : Lines) (c : Catalog) (t : Tables) (n : Name) (rel : Rows) : Type 0 where
  pub each : AreOf all (directory c.lines) (catalog_tables c.lines) t.relations
  pub sorted : is_sorted chars_order t.relations ≡ true
  pub own : IsOf all (directory c.lines) (catalog_tables c.lines) n rel.area
  pub area : IsRelationArea rel.area

pub found : (all : Lines) (c : Catalog) (t : Tables) (n : Name) (rel : Rows) → IsCatalogOf all c → AreTablesWith all c t → relation_named n t ≡ Some rel → IsFound all c t n rel
found all c t n rel decodes are is =
    let d = directory c.lines in
    let u = catalog_tables c.lines in
    let bare : AreOf all d u c.tables.relations = subst (λ (v : Tables). AreOf all d u v.relations) (sym decodes.tables) (lines_of all d u d c.lines no_tables (all_fit all c decodes) tt) in
    let bare_sorted : is_sorted chars_order c.tables.relations ≡ true = ap (λ (v : Tables). is_sorted chars_order v.relations) decodes.tables ∙ lines_sorted d c.lines no_tables refl in
    let each = have_of all d u (versions_in c.lines) c.tables.relations t.relations are.relations bare in
    let own = found_of all d u t.relations n rel each is in
    record {
      each = each;
      sorted = have_sorted all (versions_in c.lines) c.tables.relations t.relations are.relations bare_sorted;
      own = own;
      area = subst IsRelationArea (sym own.placed) own.present.decodes.allowed.area;
    }

-- an index stands elsewhere
pub index_off : (all : Lines) (d : Directory) (u : Tables) (a : ℕ) (q : PlacedLine) (x : IndexLine) → a % 2 ≡ 0 → q.line ≡ Index x → Fits all d u q → (a == x.root.area) ≡ false
index_off all d u a q x even is fits =
    let root : x.root.area ≡ x.area = root_area d u q.key x (ap (λ l. stands d u q.key l) (sym is) ∙ fits.stood) in
    let odd : IsIndexArea x.area = (subst IsAllowedLine is fits.present.decodes.allowed).area in
    ne_eqb a x.root.area (λ same. omega (arith, even, odd.1, ap (λ (k : ℕ). k % 2) (same ∙ root)))

-- ---- the tables behind the change of one relation

-- the relation has these rows now
abbrev pub behind : Name → Rows → Tables → Tables
behind n v t = record t { relations = put chars_order n v t.relations }

module _ (all : Lines) (c : Catalog) (t : Tables) (n : Name) (v rel : Rows) (is : relation_named n t ≡ Some rel) (area : v.area ≡ rel.area) (fields : v.fields ≡ rel.fields) (known : IsFound all c t n rel) where
  abbrev d : Directory
  d = directory c.lines

  abbrev u : Tables
  u = catalog_tables c.lines

  new_own : relation_in v.area (behind n v t).relations ≡ Some v
  new_own = in_area all d u (put chars_order n v t.relations) n v (put_of all d u n v t.relations (subst (λ (k : ℕ). IsOf all d u n k) (sym area) known.own) known.each) (find-put_same chars_order chars_total n v t.relations)

  old_own : relation_in rel.area t.relations ≡ Some rel
  old_own = in_area all d u t.relations n rel known.each is

  fields_stay : (a : ℕ) → fields_of (relation_in a (behind n v t).relations) ≡ fields_of (relation_in a t.relations)
  fields_stay a =
      elim (v.area == a) as (λ b. v.area == a ≡ b → fields_of (relation_in a (behind n v t).relations) ≡ fields_of (relation_in a t.relations)) [
        | true ↦ λ same.
            let here : v.area ≡ a = number_is v.area a same in
            ap (λ (k : ℕ). fields_of (relation_in k (behind n v t).relations)) (sym here) ∙ ap fields_of new_own ∙ fields ∙ sym (ap (λ (k : ℕ). fields_of (relation_in k t.relations)) (sym here ∙ area) ∙ ap fields_of old_own)
        | false ↦ λ other. ap fields_of (other_in a n v rel t.relations area other is)
      ] refl

  relations_stay : (a : ℕ) → IsSome (relation_in a t.relations) → IsSome (relation_in a (behind n v t).relations)
  relations_stay a some =
      elim (v.area == a) as (λ b. v.area == a ≡ b → IsSome (relation_in a (behind n v t).relations)) [
        | true ↦ λ same. subst (λ (k : ℕ). IsSome (relation_in k (behind n v t).relations)) (number_is v.area a same) (subst IsSome (sym new_own) refl)
        | false ↦ λ other. subst IsSome (sym (other_in a n v rel t.relations area other is)) some
      ] refl

  -- ---- behind the write

  module _ (key : Dbkey) (what : Option (List ℕ)) (at : key.area ≡ rel.area) where
    abbrev after : Lines
    after = laid key what all

    thing : (q : PlacedLine) (line : CatalogLine) → q.line ≡ line → Fits all d u q → IsSoundLine all t line → IsSoundLine after (tables_for rel.area [] t (behind n v t) line) line
    thing q (Relation r) of fits sound = subst (IsSoundRelation r) (sym (fields_stay r.area)) sound
    thing q (Global g) of fits sound = tt
    thing q (FieldOf f) of fits sound = tt
    thing q (Index x) of fits sound =
        let off : (key.area == x.root.area) ≡ false = ap (λ (k : ℕ). k == x.root.area) at ∙ index_off all d u rel.area q x known.area.1 of fits in
        elim (x.relation == rel.area) as (λ b. x.relation == rel.area ≡ b → IsSoundIndex after x (relation_in x.relation (cond (b && not (is_used x.area [])) t (behind n v t)).relations)) [
          | true ↦ λ same. sound_index_beside all key what x (relation_in x.relation t.relations) off sound
          | false ↦ λ other.
              let apart : (v.area == x.relation) ≡ false = fails _ (λ same. let back : x.relation == rel.area ≡ true = eq-eqb x.relation rel.area (sym (number_is v.area x.relation same) ∙ area) in let bad : ⊥ = cc in bad) in
              subst (IsSoundIndex after x) (sym (other_in x.relation n v rel t.relations area apart is)) (sound_index_beside all key what x (relation_in x.relation t.relations) off sound)
        ] refl

    things : (ps : List PlacedLine) → AllByRecursion (Fits all d u) ps → AllByRecursion (λ (p : PlacedLine). IsSoundLine all t p.line) ps → AllByRecursion (λ (p : PlacedLine). IsSoundLine after (tables_for rel.area [] t (behind n v t) p.line) p.line) ps
    things [] fits sound = tt
    things (p ∷ ps) fits sound = (thing p p.line refl fits.0 sound.0, things ps fits.1 sound.1)

-- ---- lines of even areas

pub owned_laid : (t : Tables) (key : Dbkey) (what : Option (List ℕ)) (es : Lines) → (key.area % 2 ≡ 0 → IsSome (relation_in key.area t.relations)) → AllByRecursion (IsOwned t) es → AllByRecursion (IsOwned t) (laid key what es)
owned_laid t key (Some image) [] own each = (own, tt)
owned_laid t key (Some image) (e ∷ es) own each =
    elim (dbkey_order key e.0) as (λ r. AllByRecursion (IsOwned t) (by_order r ((key, image) ∷ e ∷ es) ((e.0, image) ∷ es) (e ∷ put dbkey_order key image es))) [
      | Less ↦ (own, each)
      | Equal ↦ (each.0, each.1)
      | Greater ↦ (each.0, owned_laid t key (Some image) es own each.1)
    ]
owned_laid t key None [] own each = tt
owned_laid t key None (e ∷ es) own each =
    let rest = owned_laid t key None es own each.1 in
    elim (not (is_eq (dbkey_order key e.0))) as (λ b. AllByRecursion (IsOwned t) (cond b (e ∷ laid key None es) (laid key None es))) [ true ↦ (each.0, rest) | false ↦ rest ]

pub sorted_laid : (key : Dbkey) (what : Option (List ℕ)) (all : Lines) → IsInOrder all → IsInOrder (laid key what all)
sorted_laid key (Some image) all sorted = sorted_put dbkey_order dbkey_total key image all sorted
sorted_laid key None all sorted = sorted_without dbkey_order dbkey_total key all sorted

-- ---- the row's line is written

abbrev pub stored_in : Catalog → Name → Rows → StoredRelation
stored_in c n rel = stored (version_of n (versions_in c.lines)) rel

pub row_changed : (all : Lines) (c : Catalog) (t : Tables) (n : Name) (v rel : Rows) (key : Dbkey) (what : Option (List ℕ)) → IsSoundAs all c t → relation_named n t ≡ Some rel → key.area ≡ rel.area → v.area ≡ rel.area → v.fields ≡ rel.fields →
    AreRowsOf (stored_in c n rel) (lines_in rel.area (laid key what all)) (map stored_row v.rows) → IsSoundFor (laid key what all) c (behind n v t) (tables_for rel.area [] t (behind n v t))
row_changed all c t n v rel key what sound is at area fields rows =
    let d = directory c.lines in
    let u = catalog_tables c.lines in
    let known = found all c t n rel sound.decodes sound.are is in
    let own : IsOf all d u n key.area = subst (λ (k : ℕ). IsOf all d u n k) (sym at) known.own in
    let off : (key.area == catalog_area) ≡ false = ne_eqb key.area catalog_area (λ same. omega (arith, same, at, known.area.0)) in
    let changed : (b : Rows) → HasRows all (stored_in c n b) rel → HasRows (laid key what all) (stored_in c n b) v = λ b has.
    let same : stored_in c n b ≡ stored_in c n rel = λ i. record { area = has.area i; version = version_of n (versions_in c.lines); fields = record { ref_ptr = (0, 0); now = has.fields i } } in
    record { area = has.area ∙ sym area; fields = has.fields ∙ sym fields; rows = subst (λ (r : StoredRelation). AreRowsOf r (lines_in r.area (laid key what all)) (map stored_row v.rows)) (sym same) rows } in
    let stay : (a : ℕ) → IsSome (relation_in a t.relations) → IsSome (relation_in a (behind n v t).relations) = relations_stay all c t n v rel is area fields known in
    record {
      sorted = sorted_laid key what all sound.sorted;
      decodes = catalog_beside all key what c off sound.decodes;
      are = record {
        globals = sound.are.globals;
        relations = have_changed all d u key what n own (versions_in c.lines) v rel c.tables.relations t.relations known.each known.sorted is changed sound.are.relations;
        indexes = sound.are.indexes;
      };
      things = things all c t n v rel is area fields known key what at c.lines (all_fit all c sound.decodes) sound.things;
      owned = owned_laid (behind n v t) key what all
          (λ even. stay key.area (subst IsSome (sym (ap (λ (k : ℕ). relation_in k t.relations) at ∙ in_area all d u t.relations n rel known.each is)) refl))
          (all_of (IsOwned t) (IsOwned (behind n v t)) (λ e owned even. stay e.0.area (owned even)) all sound.owned);
    }

-- ---- a row is stored or modified, or erased

pub row_written : (all : Lines) (c : Catalog) (t : Tables) (n : Name) (rel : Rows) (key : Dbkey) (image : List ℕ) (row : Row) → IsSoundAs all c t → relation_named n t ≡ Some rel → key.area ≡ rel.area → IsRowOf (stored_in c n rel) image row →
    IsSoundFor (laid key (Some image) all) c (with_row n key row t) (tables_for rel.area [] t (with_row n key row t))
row_written all c t n rel key image row sound is at of =
    let v : Rows = with_rows (put dbkey_order key row rel.rows) rel in
    let rows = rows_in all (versions_in c.lines) n rel c.tables.relations t.relations sound.are.relations is in
    subst (λ (o : Option Rows). IsSoundFor (laid key (Some image) all) c (rows_changed n (put dbkey_order key row) o t) (tables_for rel.area [] t (rows_changed n (put dbkey_order key row) o t))) (sym is)
    (row_changed all c t n v rel key (Some image) sound is at refl refl (row_put (stored_in c n rel) all rel.rows key image row sound.sorted at rows of))

pub row_goes : (all : Lines) (c : Catalog) (t : Tables) (n : Name) (rel : Rows) (key : Dbkey) → IsSoundAs all c t → relation_named n t ≡ Some rel → key.area ≡ rel.area →
    IsSoundFor (laid key None all) c (without_row n key t) (tables_for rel.area [] t (without_row n key t))
row_goes all c t n rel key sound is at =
    let left = λ (rows : List (Dbkey × Row)). filter (λ e. not (is_eq (dbkey_order key e.0))) rows in
    let v : Rows = with_rows (left rel.rows) rel in
    let rows = rows_in all (versions_in c.lines) n rel c.tables.relations t.relations sound.are.relations is in
    subst (λ (o : Option Rows). IsSoundFor (laid key None all) c (rows_changed n left o t) (tables_for rel.area [] t (rows_changed n left o t))) (sym is)
    (row_changed all c t n v rel key None sound is at refl refl (row_erased (stored_in c n rel) all rel.rows key rows))
