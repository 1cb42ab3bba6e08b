-- Areas of tables with one schema.
use Rattle.std.proofs.Common.{◌≡◌, ◌==◌, ℕ, cond, List, [], ◌∷◌, ◌++◌, map, Option, Some, None, refl, sym, ap, ◌∙◌}
use Rattle.std.specs.Prelude.{option_map}
use Rattle.std.specs.List.{filter}
use Rattle.rdo_ast.specs.Tree.{Name}
use Rattle.rdb_meaning.specs.declared.tables.Index.{Index}
use Rattle.rdb_meaning.specs.declared.tables.Relation.{Relation}
use Rattle.rdb_meaning.specs.declared.tables.Tables.{Tables}
use Rattle.rdb_meaning.specs.Contents.{relation_named, by_area}
use Rattle.rdb_meaning.specs.Checks.{Use}
use Rattle.schema_alone.specs.Schema.{bare, OneSchema}
use Rattle.used_areas.specs.Areas.{relation_areas, areas_read, areas_changed}

-- the areas of the indexes on an area
abbrev index_areas : ℕ → List (Name × Index) → List ℕ
index_areas area es = map (λ e. e.1.area) (map (λ e. e.1) (by_area (filter (λ (e : Name × Index). e.1.relation == area) es)))

bare_areas : (t : Tables) (o : Option Relation) → relation_areas t (option_map bare o) ≡ relation_areas t o
bare_areas t None = refl
bare_areas t (Some r) = refl

by_indexes : (t u : Tables) (o : Option Relation) → t.indexes ≡ u.indexes → relation_areas t o ≡ relation_areas u o
by_indexes t u None same = refl
by_indexes t u (Some r) same = ap (λ (es : List (Name × Index)). r.area ∷ index_areas r.area es) same

module _ (t u : Tables) (one : OneSchema t u) (same : t.indexes ≡ u.indexes) where
  named_same : (n : Name) → relation_areas t (relation_named n t) ≡ relation_areas u (relation_named n u)
  named_same n = sym (bare_areas t (relation_named n t)) ∙ ap (relation_areas t) (one n) ∙ bare_areas t (relation_named n u) ∙ by_indexes t u (relation_named n u) same

  pub read_same : (us : List Use) → areas_read t us ≡ areas_read u us
  read_same [] = refl
  read_same (v ∷ us) = λ i. named_same v.relation i ++ read_same us i

  pub changed_same : (us : List Use) → areas_changed t us ≡ areas_changed u us
  changed_same [] = refl
  changed_same (v ∷ us) = λ i. cond v.changes (named_same v.relation i) [] ++ changed_same us i
