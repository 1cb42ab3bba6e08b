-- The areas of sources and targets are those of the tables.
use Rattle.std.proofs.Common.{◌≡◌, ℕ, List, [], ◌∷◌, map, Option, Some, None, refl, sym, ap, subst, ◌∙◌}
use Rattle.rdo_ast.specs.Tree.{Name}
use Rattle.rdb_meaning.specs.declared.tables.Index.{Index as IndexOf}
use Rattle.rdb_meaning.specs.declared.tables.Relation.{Relation as Rows}
use Rattle.rdb_meaning.specs.declared.tables.Tables.{Tables}
use Rattle.rdb_meaning.specs.Contents.{indexes_on}
use Rattle.line_view.specs.Knowledge.{Lines}
use Rattle.catalog_lines.specs.declared.line.IndexLine.{IndexLine}
use Rattle.catalog.specs.declared.reading.Catalog.{Catalog}
use Rattle.access_paths.specs.declared.choice.IndexPath.{IndexPath}
use Rattle.sound_changes.specs.Standing.{IsSoundAs}
use Rattle.row_writes.specs.declared.target.TargetRelation.{TargetRelation}
use Rattle.row_writes.specs.Target.{AreOwn, named_index}
use Rattle.row_writes.specs.Areas.{areas_of, areas_with}
use Rattle.row_writes.proofs.RowKept.{root_of}
use Rattle.statement_sources.specs.stored_schema.Indexes.{path_of, lines_on}
use Rattle.statement_sources.specs.stored_schema.Targets.{IsTargetIn}
use Rattle.statement_sources.proofs.of_stored_schema.Gathered.{lines_on_are, are_own}
use Rattle.statement_sources.proofs.of_stored_schema.InTables.{each_own, lines_are_indexes}
use Rattle.rdo_select.specs.declared.source.Source.{Source}
use Rattle.rdo_select.specs.Sources.{Listed, source_at, HasSource, AreSourcesOf}
use Rattle.statement_sources.specs.Sources.{AreIndexed}
use Rattle.used_areas.specs.Areas.{relation_areas}
use Rattle.selection_areas.specs.Areas.{areas_at, ArePlaced}

-- ---- targets

areas_named : (xs : List IndexLine) → areas_of xs ≡ map (λ (e : Name × IndexOf). e.1.area) (map named_index xs)
areas_named [] = refl
areas_named (x ∷ xs) = ap (λ l. x.area ∷ l) (areas_named xs)

pub target_placed : (c : Catalog) (t : Tables) (n : Name) (rel : Rows) (r : TargetRelation) → IsTargetIn c t n rel r → areas_with rel r.indexes.now ≡ relation_areas t (Some rel)
target_placed c t n rel r is = ap (λ l. rel.area ∷ l) (areas_named r.indexes.now ∙ ap (map (λ (e : Name × IndexOf). e.1.area)) is.ordered)

-- ---- sources

module _ (all : Lines) (c : Catalog) (t : Tables) (sound : IsSoundAs all c t) where
  -- the roots of a relation's indexes are in their areas
  roots_placed : (relation : ℕ) (done : List ℕ) (xs : List IndexLine) → AreOwn c relation done xs → map (λ (x : IndexPath). x.root.area) (map path_of xs) ≡ areas_of xs
  roots_placed relation done [] own = refl
  roots_placed relation done (x ∷ xs) own = λ i. (root_of all c t (λ line. t) relation x sound own.0 i) ∷ (roots_placed relation (x.area ∷ done) xs own.2 i)

  lines_own : (relation : ℕ) → AreOwn c relation [] (lines_on relation c.lines)
  lines_own relation = subst (λ (xs : List IndexLine). AreOwn c relation [] xs) (sym (lines_on_are relation c.lines)) (are_own c relation (each_own c relation))

  source_placed : (rel : Rows) (o : Option Source) → HasSource all rel o → ((source : Source) → o ≡ Some source → source.indexes.now ≡ map path_of (lines_on rel.area c.lines)) → areas_at o ≡ relation_areas t (Some rel)
  source_placed rel None has indexed = absurd has
  source_placed rel (Some source) has indexed =
      let paths : map (λ (x : IndexPath). x.root.area) source.indexes.now ≡ map (λ (e : Name × IndexOf). e.1.area) (indexes_on rel.area t) =
      ap (map (λ (x : IndexPath). x.root.area)) (indexed source refl)
      ∙ roots_placed rel.area [] (lines_on rel.area c.lines) (lines_own rel.area)
      ∙ areas_named (lines_on rel.area c.lines)
      ∙ ap (map (λ (e : Name × IndexOf). e.1.area)) (lines_are_indexes all c sound.decodes rel.area t sound.are.indexes) in
      λ i. (has.0.area i) ∷ (paths i)

pub sources_placed : (all : Lines) (c : Catalog) (t : Tables) (sources : Listed) → IsSoundAs all c t → AreSourcesOf all t sources → AreIndexed c sources → ArePlaced t sources
sources_placed all c t sources sound are indexed n rel named = source_placed all c t sound rel (source_at rel.area sources) (are n rel named) (λ source at. indexed rel.area source at)
