-- Relations of the tables come from lines of the catalog: each area is that of one name.
use Rattle.std.proofs.Common.{◌≡◌, ◌==◌, ℕ, Bool, true, false, cond, List, [], ◌∷◌, Option, Some, None, refl, sym, ap, subst, ◌∙◌}
use Rattle.std.specs.List.{AllByRecursion}
use Rattle.std.specs.declared.cmp.Ordering.TheVariants.{Less, Equal, Greater}
use Rattle.std.specs.Ordering.{is_eq}
use Rattle.std.specs.Cmp.{tied_itself}
use Rattle.std.specs.FinMap.Entries.{find, put, by_order, is_sorted}
use Rattle.std.proofs.lemmas.Bool.{and_parts, eq-eqb, ne_eqb}
use Rattle.std.proofs.lemmas.Option.{none-some, same_Some}
use Rattle.std.proofs.lemmas.List.Elements.{recursion_from_All}
use Rattle.rdb_types.specs.declared.keys.Dbkey.{Dbkey}
use Rattle.rdb_types.specs.Order.{chars_order}
use Rattle.rdo_ast.specs.Tree.{Name}
use Rattle.rdb_meaning.specs.declared.tables.Relation.{Relation as Rows}
use Rattle.rdb_meaning.specs.declared.tables.Tables.{Tables}
use Rattle.line_view.specs.Knowledge.{Lines, line_in}
use Rattle.catalog_lines.specs.declared.line.RelationLine.{RelationLine}
use Rattle.catalog_lines.specs.declared.line.IndexLine.{IndexLine}
use Rattle.catalog_lines.specs.declared.line.CatalogLine.{CatalogLine}
use Rattle.catalog_lines.specs.declared.line.CatalogLine.TheVariants.{Relation, Global, Field as FieldOf, Index}
use Rattle.catalog_lines.specs.Lines.{IsCatalogLine}
use Rattle.catalog_lines.proofs.Lines.{one_line}
use Rattle.sound_lines.specs.catalog.declared.directory.PlacedLine.{PlacedLine}
use Rattle.sound_lines.specs.catalog.declared.directory.Directory.{Directory}
use Rattle.sound_lines.specs.catalog.declared.reading.Catalog.{Catalog}
use Rattle.sound_lines.specs.catalog.Directory.{area_order, numbered, directory}
use Rattle.sound_lines.specs.catalog.Schema.{with_thing, tables_from, catalog_tables, relation_fields, stands, misfit_from}
use Rattle.sound_lines.specs.catalog.Reading.{catalog_area, IsPresent, IsCatalogOf}
use Rattle.sound_lines.proofs.of_catalog.Differences.{relation_parts, one_key}
use Rattle.sound_lines.specs.Sound.{relation_in}
use Rattle.sound_changes.proofs.Frames.{in_area as lines_in_area}
use Rattle.rdb_types.specs.OrderLaws.{chars_total, same_chars}
use Rattle.sound_changes.proofs.Basics.{equal, both_of, number_is, sorted_put}

-- ---- lines that are present and go with the others

pub record Fits (all : Lines) (d : Directory) (t : Tables) (q : PlacedLine) : Type 0 where
  pub present : IsPresent all q
  pub inside : (q.key.area == catalog_area) ≡ true
  pub stood : stands d t q.key q.line ≡ true

first_fits : (b : Bool) (rest : Option Dbkey) (key : Dbkey) → cond b rest (Some key) ≡ None → (b ≡ true) × (rest ≡ None)
first_fits true rest key none = (refl, none)
first_fits false rest key none = let bad : ⊥ = cc in absurd bad

all_stand : (d : Directory) (t : Tables) (ps : List PlacedLine) → misfit_from d t ps ≡ None → AllByRecursion (λ (q : PlacedLine). stands d t q.key q.line ≡ true) ps
all_stand d t [] fit = tt
all_stand d t (p ∷ ps) fit =
    let parts = first_fits (stands d t p.key p.line) (misfit_from d t ps) p.key fit in
    (parts.0, all_stand d t ps parts.1)

pub all_fit : (all : Lines) (c : Catalog) → IsCatalogOf all c → AllByRecursion (Fits all (directory c.lines) (catalog_tables c.lines)) c.lines
all_fit all c is =
    let d = directory c.lines in
    let t = catalog_tables c.lines in
    let Here : PlacedLine → Type 0 = λ q. IsPresent all q × ((q.key.area == catalog_area) ≡ true) in
    both_of Here (λ (q : PlacedLine). stands d t q.key q.line ≡ true) (Fits all d t)
    (λ q here stood. record { present = here.0; inside = here.1; stood = stood }) c.lines
    (both_of (IsPresent all) (λ (q : PlacedLine). (q.key.area == catalog_area) ≡ true) Here (λ q present inside. (present, inside)) c.lines (recursion_from_All (IsPresent all) c.lines is.lines.images) (lines_in_area all c is))
    (all_stand d t c.lines is.fit)

-- the root of an index is in its area
pub root_area : (d : Directory) (t : Tables) (key : Dbkey) (x : IndexLine) → stands d t key (Index x) ≡ true → x.root.area ≡ x.area
root_area d t key x stood = number_is x.root.area x.area (and_parts _ (x.root.area == x.area) stood).1

-- ---- what a relation's name and area come from

pub record IsOf (all : Lines) (d : Directory) (u : Tables) (name : Name) (area : ℕ) : Type 0 where
  pub key : Dbkey
  pub r : RelationLine
  pub present : IsPresent all (record { key = key; line = Relation r })
  pub inside : (key.area == catalog_area) ≡ true
  pub stood : stands d u key (Relation r) ≡ true
  pub named : name ≡ r.name
  pub placed : area ≡ r.area

module _ (all : Lines) (d : Directory) (u : Tables) where
  abbrev pub AreOf : List (Name × Rows) → Type 0
  AreOf = AllByRecursion (λ e. IsOf all d u e.0 e.1.area)

  pub put_of : (n : Name) (v : Rows) (es : List (Name × Rows)) → IsOf all d u n v.area → AreOf es → AreOf (put chars_order n v es)
  put_of n v [] is each = (is, tt)
  put_of n v (e ∷ es) is each =
      elim (chars_order n e.0) as (λ r. chars_order n e.0 ≡ r → AreOf (by_order r ((n, v) ∷ e ∷ es) ((e.0, v) ∷ es) (e ∷ put chars_order n v es))) [
        | Less ↦ λ p. (is, each)
        | Equal ↦ λ p. (subst (λ m. IsOf all d u m v.area) (same_chars n e.0 p) is, each.1)
        | Greater ↦ λ p. (each.0, put_of n v es is each.1)
      ] refl

  line_of : (e : Directory) (q : PlacedLine) (line : CatalogLine) (t : Tables) → q.line ≡ line → Fits all d u q → AreOf t.relations → AreOf (with_thing e line t).relations
  line_of e q (Relation r) t is fits each =
      let same : q ≡ record { key = q.key; line = Relation r } = λ i. record { key = q.key; line = is i } in
      put_of r.name (record { area = r.area; fields = relation_fields r.area e; rows = [] }) t.relations
      (record { key = q.key; r = r; present = subst (IsPresent all) same fits.present; inside = fits.inside; stood = ap (λ l. stands d u q.key l) (sym is) ∙ fits.stood; named = refl; placed = refl })
      each
  line_of e q (Global g) t is fits each = each
  line_of e q (FieldOf f) t is fits each = each
  line_of e q (Index x) t is fits each = each

  pub lines_of : (e : Directory) (ps : List PlacedLine) (t : Tables) → AllByRecursion (Fits all d u) ps → AreOf t.relations → AreOf (tables_from e t ps).relations
  lines_of e [] t fits each = each
  lines_of e (q ∷ ps) t fits each = lines_of e ps (with_thing e q.line t) fits.1 (line_of e q q.line t refl fits.0 each)

  -- one area has one name
  pub one_name : (n m : Name) (a b : ℕ) → IsOf all d u n a → IsOf all d u m b → a ≡ b → n ≡ m
  one_name n m a b x y same =
      let here = relation_parts d u x.key x.r x.stood in
      let there = relation_parts d u y.key y.r y.stood in
      let key : x.key ≡ y.key = one_key x.key y.key _ _ here.1 there.1 (ap (λ (k : ℕ). find area_order (numbered k) d.areas) (sym x.placed ∙ same ∙ y.placed)) in
      let found : line_in x.key all ≡ line_in y.key all = ap (λ k. line_in k all) key in
      let one = x.present.present in
      let two = y.present.present in
      let image : x.present.image ≡ y.present.image = cc in
      let line : Relation x.r ≡ Relation y.r = one_line y.present.image (Relation x.r) (Relation y.r) (subst (λ bytes. IsCatalogLine bytes (Relation x.r)) image x.present.decodes) y.present.decodes in
      let r : x.r ≡ y.r = cc in
      x.named ∙ ap (λ (r : RelationLine). r.name) r ∙ sym y.named

  pub found_of : (es : List (Name × Rows)) (n : Name) (rel : Rows) → AreOf es → find chars_order n es ≡ Some rel → IsOf all d u n rel.area
  found_of [] n rel each found = absurd (none-some rel found)
  found_of (e ∷ es) n rel each found =
      elim (is_eq (chars_order n e.0)) as (λ b. is_eq (chars_order n e.0) ≡ b → cond b (Some e.1) (find chars_order n es) ≡ Some rel → IsOf all d u n rel.area) [
        | true ↦ λ tie h. subst (λ (r : Rows). IsOf all d u n r.area) (same_Some e.1 rel h) (subst (λ m. IsOf all d u m e.1.area) (sym (same_chars n e.0 (equal _ tie))) each.0)
        | false ↦ λ tie h. found_of es n rel each.1 h
      ] refl found

  -- a relation is that of its area
  pub in_area : (es : List (Name × Rows)) (n : Name) (rel : Rows) → AreOf es → find chars_order n es ≡ Some rel → relation_in rel.area es ≡ Some rel
  in_area [] n rel each found = absurd (none-some rel found)
  in_area (e ∷ es) n rel each found =
      elim (is_eq (chars_order n e.0)) as (λ b. is_eq (chars_order n e.0) ≡ b → cond b (Some e.1) (find chars_order n es) ≡ Some rel → cond (e.1.area == rel.area) (Some e.1) (relation_in rel.area es) ≡ Some rel) [
        | true ↦ λ tie h. ap (λ b. cond b (Some e.1) (relation_in rel.area es)) (eq-eqb e.1.area rel.area (ap (λ (r : Rows). r.area) (same_Some e.1 rel h))) ∙ h
        | false ↦ λ tie h.
            let other : (e.1.area == rel.area) ≡ false = ne_eqb e.1.area rel.area (λ same.
            let name : n ≡ e.0 = sym (one_name e.0 n e.1.area rel.area each.0 (found_of es n rel each.1 h) same) in
            let own : is_eq (chars_order n e.0) ≡ true = ap (λ m. is_eq (chars_order n m)) (sym name) ∙ ap is_eq (tied_itself chars_total n) in
            let bad : ⊥ = cc in bad) in
            ap (λ b. cond b (Some e.1) (relation_in rel.area es)) other ∙ in_area es n rel each.1 h
      ] refl found

-- the relation of another area stays
pub other_in : (a : ℕ) (n : Name) (v rel : Rows) (es : List (Name × Rows)) → v.area ≡ rel.area → (v.area == a) ≡ false → find chars_order n es ≡ Some rel → relation_in a (put chars_order n v es) ≡ relation_in a es
other_in a n v rel [] area other found = absurd (none-some rel found)
other_in a n v rel (e ∷ es) area other found =
    elim (chars_order n e.0) as (λ r. cond (is_eq r) (Some e.1) (find chars_order n es) ≡ Some rel → relation_in a (by_order r ((n, v) ∷ e ∷ es) ((e.0, v) ∷ es) (e ∷ put chars_order n v es)) ≡ relation_in a (e ∷ es)) [
      | Less ↦ λ h. ap (λ b. cond b (Some v) (relation_in a (e ∷ es))) other
      | Equal ↦ λ h.
          let off : (e.1.area == a) ≡ false = ap (λ (r : Rows). r.area == a) (same_Some e.1 rel h) ∙ ap (λ (k : ℕ). k == a) (sym area) ∙ other in
          ap (λ b. cond b (Some v) (relation_in a es)) other ∙ sym (ap (λ b. cond b (Some e.1) (relation_in a es)) off)
      | Greater ↦ λ h. ap (λ l. cond (e.1.area == a) (Some e.1) l) (other_in a n v rel es area other h)
    ] found

-- relations stand in the order of their names
line_sorted : (e : Directory) (line : CatalogLine) (t : Tables) → is_sorted chars_order t.relations ≡ true → is_sorted chars_order (with_thing e line t).relations ≡ true
line_sorted e (Relation r) t sorted = sorted_put chars_order chars_total r.name _ t.relations sorted
line_sorted e (Global g) t sorted = sorted
line_sorted e (FieldOf f) t sorted = sorted
line_sorted e (Index x) t sorted = sorted

pub lines_sorted : (e : Directory) (ps : List PlacedLine) (t : Tables) → is_sorted chars_order t.relations ≡ true → is_sorted chars_order (tables_from e t ps).relations ≡ true
lines_sorted e [] t sorted = sorted
lines_sorted e (q ∷ ps) t sorted = lines_sorted e ps (with_thing e q.line t) (line_sorted e q.line t sorted)
