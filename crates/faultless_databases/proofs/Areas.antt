-- The relation of an index is among those of its catalog: a logical area that the catalog knows, and that is even, is a relation's.
use Rattle.std.proofs.Common.{◌≡◌, ◌≤◌, ◌%◌, ◌==◌, ℕ, Bool, true, false, cond, List, [], ◌∷◌, Option, Some, None, refl, sym, ap, subst, arith}
use Rattle.std.specs.Prelude.{is_some}
use Rattle.std.specs.List.{AllByRecursion}
use Rattle.std.specs.declared.cmp.Ordering.TheVariants.{Less, Equal, Greater}
use Rattle.std.specs.Ordering.{is_eq, nat_cmp}
use Rattle.std.specs.FinMap.Entries.{find, put, by_order}
use Rattle.std.proofs.lemmas.Bool.{and_parts, eq-eqb}
use Rattle.std.proofs.lemmas.Cmp.{ranked}
use Rattle.std.proofs.lemmas.Option.{none-some, same_Some}
use Rattle.std.proofs.lemmas.List.Elements.{recursion_from_All}
use Rattle.rdb_types.specs.declared.keys.Dbkey.{Dbkey}
use Rattle.rdb_types.specs.Order.{chars_order}
use Rattle.rdo_ast.specs.Tree.{Name}
use Rattle.rdb_meaning.specs.declared.tables.Relation.{Relation as Rows}
use Rattle.rdb_meaning.specs.declared.tables.Tables.{Tables}
use Rattle.rdb_meaning.specs.Contents.{relation_named}
use Rattle.rdb_meaning.specs.Execution.{area_of}
use Rattle.line_view.specs.Knowledge.{Lines}
use Rattle.catalog_lines.specs.declared.line.CatalogLine.{CatalogLine}
use Rattle.catalog_lines.specs.declared.line.CatalogLine.TheVariants.{Relation, Global, Field as FieldOf, Index}
use Rattle.catalog_lines.specs.Lines.{IsAllowedLine}
use Rattle.catalog.specs.declared.directory.LogicalArea.{LogicalArea}
use Rattle.catalog.specs.declared.directory.PlacedLine.{PlacedLine}
use Rattle.catalog.specs.declared.directory.Directory.{Directory}
use Rattle.catalog.specs.declared.reading.Catalog.{Catalog}
use Rattle.catalog.specs.Directory.{area_order, numbered, noted, no_directory, directory_from, directory}
use Rattle.catalog.specs.Schema.{has_area, stands, misfit_from, catalog_tables}
use Rattle.catalog.specs.Reading.{IsPresent, IsCatalogOf}
use Rattle.catalog.proofs.Differences.{relation_parts}
use Rattle.sound_lines.specs.Sound.{relation_in}

-- ---- a relation is found by its area

some_in : (n : Name) (rel : Rows) (es : List (Name × Rows)) → find chars_order n es ≡ Some rel → is_some (relation_in rel.area es) ≡ true
some_in n rel [] found = absurd (none-some rel found)
some_in n rel (e ∷ es) found = elim (e.1.area == rel.area) as (λ b. (e.1.area == rel.area) ≡ b → is_some (cond b (Some e.1) (relation_in rel.area es)) ≡ true) [
  | true ↦ λ is. refl
  | false ↦ λ isnt. elim (is_eq (chars_order n e.0)) as (λ b. cond b (Some e.1) (find chars_order n es) ≡ Some rel → is_some (relation_in rel.area es) ≡ true) [
    | true ↦ λ h. absurd (let same = eq-eqb e.1.area rel.area (ap (λ (r : Rows). r.area) (same_Some e.1 rel h)) in let no : ⊥ = cc in no)
    | false ↦ λ h. some_in n rel es h
  ] found
] refl

named_in : (n : Name) (area : ℕ) (t : Tables) → 16 ≤ area → area_of (relation_named n t) ≡ area → is_some (relation_in area t.relations) ≡ true
named_in n area t low is = elim (relation_named n t) as (λ o. relation_named n t ≡ o → area_of o ≡ area → is_some (relation_in area t.relations) ≡ true) [
  | None ↦ λ none zero. absurd (omega (arith, low, zero))
  | Some rel ↦ λ found same. subst (λ (a : ℕ). is_some (relation_in a t.relations) ≡ true) same (some_in n rel t.relations found)
] refl is

-- ---- the areas that are noted

module _ (d : Directory) (t : Tables) where
  abbrev IsTold : ℕ → Type 0
  IsTold area = area % 2 ≡ 0 → is_some (relation_in area t.relations) ≡ true

  abbrev AreTold : List (LogicalArea × Dbkey) → Type 0
  AreTold es = AllByRecursion (λ (e : LogicalArea × Dbkey). IsTold e.0.number) es

  put_told : (area : ℕ) (key : Dbkey) (es : List (LogicalArea × Dbkey)) → IsTold area → AreTold es → AreTold (put area_order (numbered area) key es)
  put_told area key [] is each = (is, tt)
  put_told area key (e ∷ es) is each =
      elim (area_order (numbered area) e.0) as (λ o. AreTold (by_order o ((numbered area, key) ∷ e ∷ es) ((e.0, key) ∷ es) (e ∷ put area_order (numbered area) key es))) [
        | Less ↦ (is, each)
        | Equal ↦ each
        | Greater ↦ (each.0, put_told area key es is each.1)
      ]

  -- a line that may be laid out, and goes with the others
  abbrev Fits : PlacedLine → Type 0
  Fits p = IsAllowedLine p.line × (stands d t p.key p.line ≡ true)

  line_told : (e : Directory) (key : Dbkey) (line : CatalogLine) → IsAllowedLine line → stands d t key line ≡ true → AreTold e.areas → AreTold (noted key line e).areas
  line_told e key (Relation r) allowed stood each = put_told r.area key e.areas (λ even. named_in r.name r.area t allowed.area.0 (relation_parts d t key r stood).0) each
  line_told e key (Global g) allowed stood each = each
  line_told e key (FieldOf f) allowed stood each = each
  line_told e key (Index x) allowed stood each = put_told x.area key e.areas (λ even. let odd = allowed.area.1 in absurd (omega (arith, even, odd))) each

  lines_told : (e : Directory) (ps : List PlacedLine) → AllByRecursion Fits ps → AreTold e.areas → AreTold (directory_from e ps).areas
  lines_told e [] fit each = each
  lines_told e (p ∷ ps) fit each = lines_told (noted p.key p.line e) ps fit.1 (line_told e p.key p.line fit.0.0 fit.0.1 each)

  found_told : (area : ℕ) (es : List (LogicalArea × Dbkey)) → AreTold es → is_some (find area_order (numbered area) es) ≡ true → IsTold area
  found_told area [] each some = absurd (let no : ⊥ = cc in no)
  found_told area (e ∷ es) each some = elim (nat_cmp area e.0.number) as (λ r. nat_cmp area e.0.number ≡ r → is_some (cond (is_eq r) (Some e.1) (find area_order (numbered area) es)) ≡ true → IsTold area) [
    | Less ↦ λ is h. found_told area es each.1 h
    | Equal ↦ λ is h. subst IsTold (sym (ranked area e.0.number _ (sym is))) each.0
    | Greater ↦ λ is h. found_told area es each.1 h
  ] refl some

  -- an index has a relation
  abbrev pub HasRelation : CatalogLine → Type 0
  HasRelation (Relation r) = Unit {0}
  HasRelation (Global g) = Unit {0}
  HasRelation (FieldOf f) = Unit {0}
  HasRelation (Index x) = is_some (relation_in x.relation t.relations) ≡ true

  has_relation : (key : Dbkey) (line : CatalogLine) → AreTold d.areas → IsAllowedLine line → stands d t key line ≡ true → HasRelation line
  has_relation key (Relation r) told allowed stood = tt
  has_relation key (Global g) told allowed stood = tt
  has_relation key (FieldOf f) told allowed stood = tt
  has_relation key (Index x) told allowed stood =
      let there : has_area x.relation d ≡ true = (and_parts _ _ (and_parts _ _ (and_parts _ _ (and_parts _ _ stood).0).0).0).1 in
      found_told x.relation d.areas told there allowed.relation.1

  have_relations : (ps : List PlacedLine) → AreTold d.areas → AllByRecursion Fits ps → AllByRecursion (λ (p : PlacedLine). HasRelation p.line) ps
  have_relations [] told fit = tt
  have_relations (p ∷ ps) told fit = (has_relation p.key p.line told fit.0.0 fit.0.1, have_relations ps told fit.1)

-- ---- of a catalog

first_fits : (b : Bool) (rest : Option Dbkey) (key : Dbkey) → cond b rest (Some key) ≡ None → (b ≡ true) × (rest ≡ None)
first_fits true rest key none = (refl, none)
first_fits false rest key none = let no : ⊥ = cc in absurd no

all_fit : (all : Lines) (d : Directory) (t : Tables) (ps : List PlacedLine) → AllByRecursion (IsPresent all) ps → misfit_from d t ps ≡ None → AllByRecursion (Fits d t) ps
all_fit all d t [] each fit = tt
all_fit all d t (p ∷ ps) each fit =
    let parts = first_fits (stands d t p.key p.line) (misfit_from d t ps) p.key fit in
    ((each.0.decodes.allowed, parts.0), all_fit all d t ps each.1 parts.1)

pub all_have_relations : (all : Lines) (c : Catalog) → IsCatalogOf all c → AllByRecursion (λ (p : PlacedLine). HasRelation (directory c.lines) c.tables p.line) c.lines
all_have_relations all c is = subst (λ (t : Tables). AllByRecursion (λ (p : PlacedLine). HasRelation (directory c.lines) t p.line) c.lines) (sym is.tables)
    (let d = directory c.lines in
    let t = catalog_tables c.lines in
    let fit = all_fit all d t c.lines (recursion_from_All (IsPresent all) c.lines is.lines.images) is.fit in
    have_relations d t c.lines (lines_told d t no_directory c.lines fit tt) fit)
