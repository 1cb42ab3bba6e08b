-- The logical areas of a catalog, and that nothing of an area that is known is read next.
use Rattle.std.proofs.Common.{◌≡◌, ◌<◌, inl, inr, ℕ, zero, suc, true, List, [], ◌∷◌, length, get_or, Option, is_some, refl, sym, ap, subst, ◌∙◌, arith}
use Rattle.std.specs.List.{AllByRecursion}
use Rattle.std.specs.declared.cmp.Ordering.TheVariants.{Less, Equal, Greater}
use Rattle.std.specs.FinMap.Entries.{put, by_order}
use Rattle.std.proofs.lemmas.Option.{none-some, same_Some}
use Rattle.rdb_types.specs.Order.{chars_order}
use Rattle.rdo_ast.specs.Tree.{Name}
use Rattle.rdb_meaning.specs.declared.tables.Relation.{Relation as Rows}
use Rattle.rdb_meaning.specs.declared.tables.Index.{Index as Keyed}
use Rattle.rdb_meaning.specs.declared.tables.Tables.{Tables}
use Rattle.rdb_meaning.specs.Contents.{no_tables}
use Rattle.rdb_page.specs.Page.{IsOwner}
use Rattle.line_view.specs.declared.need.Need.{Need}
use Rattle.line_view.specs.declared.need.Need.TheVariants.{Line, Area, Room}
use Rattle.line_view.specs.Knowledge.{Knowledge}
use Rattle.catalog_lines.specs.declared.line.CatalogLine.{CatalogLine}
use Rattle.catalog_lines.specs.declared.line.CatalogLine.TheVariants.{Relation, Global, Field as FieldOf, Index}
use Rattle.catalog_lines.specs.Lines.{IsRelationArea, IsIndexArea, IsAllowedLine}
use Rattle.catalog.specs.declared.directory.PlacedLine.{PlacedLine}
use Rattle.catalog.specs.declared.directory.Directory.{Directory}
use Rattle.catalog.specs.declared.reading.Catalog.{Catalog}
use Rattle.catalog.specs.Directory.{directory}
use Rattle.catalog.specs.Schema.{with_thing, tables_from}
use Rattle.catalog.specs.Reading.{catalog_area, line_keys, IsWhole, IsNext}
use Rattle.relation_rows.specs.Stored.{IsLineKnown, IsAreaKnown}
use Rattle.line_faults.specs.Found.{IsIn}
use Rattle.line_faults.proofs.Learnt.{split_in, in_from_all}

pub relation_owner : (area : ℕ) → IsRelationArea area → IsOwner 2 area
relation_owner area is = inr (inl (refl, is.0, is.1))

pub index_owner : (area : ℕ) → IsIndexArea area → IsOwner 3 area
index_owner area is = inr (inr (refl, is.0, is.1))

-- ---- the areas of a catalog's relations and indexes

all_put : {V : Type 0} (P : V → Type 0) (name : Name) (v : V) (es : List (Name × V)) → P v → AllByRecursion (λ e. P e.1) es → AllByRecursion (λ e. P e.1) (put chars_order name v es)
all_put P name v [] is all = (is, tt)
all_put {V} P name v (e ∷ es) is all = elim (chars_order name e.0) as (λ o. AllByRecursion (λ (x : Name × V). P x.1) (by_order o ((name, v) ∷ e ∷ es) ((e.0, v) ∷ es) (e ∷ put chars_order name v es))) [
  | Less ↦ (is, all)
  | Equal ↦ (is, all.1)
  | Greater ↦ (all.0, all_put P name v es is all.1)
]

record AreAreas (t : Tables) : Type 0 where
  relations : AllByRecursion (λ (e : Name × Rows). IsRelationArea e.1.area) t.relations
  indexes : AllByRecursion (λ (e : Name × Keyed). IsIndexArea e.1.area) t.indexes

thing_areas : (d : Directory) (line : CatalogLine) (t : Tables) → IsAllowedLine line → AreAreas t → AreAreas (with_thing d line t)
thing_areas d (Relation r) t is all = record { relations = all_put (λ (x : Rows). IsRelationArea x.area) r.name _ t.relations is.area all.relations; indexes = all.indexes }
thing_areas d (Global g) t is all = record { relations = all.relations; indexes = all.indexes }
thing_areas d (FieldOf f) t is all = all
thing_areas d (Index x) t is all = record { relations = all.relations; indexes = all_put (λ (y : Keyed). IsIndexArea y.area) x.name _ t.indexes is.area all.indexes }

tables_areas : (d : Directory) (t : Tables) (ps : List PlacedLine) → AllByRecursion (λ p. IsAllowedLine p.line) ps → AreAreas t → AreAreas (tables_from d t ps)
tables_areas d t [] allowed all = all
tables_areas d t (p ∷ ps) allowed all = tables_areas d (with_thing d p.line t) ps allowed.1 (thing_areas d p.line t allowed.0 all)

areas : (c : Catalog) → IsWhole c → AreAreas c.tables
areas c whole = subst AreAreas (sym whole.tables) (tables_areas (directory c.lines) no_tables c.lines whole.allowed (record { relations = tt; indexes = tt }))

pub relation_areas : (c : Catalog) → IsWhole c → AllByRecursion (λ (e : Name × Rows). IsRelationArea e.1.area) c.tables.relations
relation_areas c whole = (areas c whole).relations

pub index_areas : (c : Catalog) → IsWhole c → AllByRecursion (λ (e : Name × Keyed). IsIndexArea e.1.area) c.tables.indexes
index_areas c whole = (areas c whole).indexes

pub all_at : {X : Type 0} (P : X → Type 0) (xs : List X) (i : ℕ) (x : X) → i < length xs → x ≡ get_or xs i x → AllByRecursion P xs → P x
all_at P [] i x inside is all = absurd (let no : ⊥ = omega (arith, inside) in no)
all_at P (y ∷ ys) zero x inside is all = subst P (sym is) all.0
all_at P (y ∷ ys) (suc i) x inside is all = all_at P ys i x (omega (arith, inside)) is all.1

-- ---- nothing is read next

pub no_next : (known : Knowledge) (need : Need) → IsAreaKnown known catalog_area → IsNext known need → ⊥
no_next known (Area area) is next = none-some is.0 (sym next.1 ∙ is.1)
no_next known (Line key) is next =
    let there : IsIn key is.0 = subst (IsIn key) (same_Some _ _ (sym next.0.keys ∙ is.1)) (split_in key (line_keys next.0.before) next.0.behind) in
    let told : is_some (known.line key) ≡ true = in_from_all (IsLineKnown known) is.0 key is.2 there in
    let unknown = ap (λ (o : Option (Option (List ℕ))). is_some o) next.1 in
    let no : ⊥ = cc in no
no_next known (Room room) is next = next
