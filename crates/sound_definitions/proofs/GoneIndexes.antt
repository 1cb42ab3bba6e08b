-- The lines of indexes go from the catalog.
use Rattle.std.proofs.Common.{◌≡◌, false, List, None, inl, sym, ap, subst, ◌∙◌}
use Rattle.std.specs.List.{AllByRecursion}
use Rattle.std.specs.Ordering.{is_eq}
use Rattle.rdb_types.specs.Order.{dbkey_order}
use Rattle.rdb_types.specs.OrderLaws.{same_dbkey}
use Rattle.rdo_ast.specs.Tree.{Name}
use Rattle.rdb_meaning.specs.declared.tables.Tables.{Tables}
use Rattle.rdb_meaning.specs.Defining.{without, without_index}
use Rattle.line_view.specs.Knowledge.{Lines}
use Rattle.line_view.specs.declared.writes.Write.{Write}
use Rattle.line_view.specs.Writes.{laid_all}
use Rattle.catalog_lines.specs.declared.line.RelationLine.{RelationLine}
use Rattle.catalog_lines.specs.declared.line.IndexLine.{IndexLine}
use Rattle.catalog_lines.specs.declared.line.CatalogLine.{CatalogLine}
use Rattle.catalog_lines.specs.declared.line.CatalogLine.TheVariants.{Relation, Global, Field as FieldOf, Index}
use Rattle.catalog.specs.declared.directory.PlacedLine.{PlacedLine}
use Rattle.catalog.specs.declared.reading.Catalog.{Catalog}
use Rattle.catalog.specs.Reading.{catalog_area, IsPresent, IsCatalogOf}
use Rattle.sound_lines.specs.Contents.{versions_in, HaveRows}
use Rattle.sound_lines.specs.Sound.{IsSoundLine}
use Rattle.sound_changes.specs.Standing.{IsSoundAs}
use Rattle.sound_changes.proofs.Basics.{equal, fails, all_of}
use Rattle.sound_changes.proofs.IndexLaid.{AreOn}
use Rattle.sound_changes.proofs.Listed.{one_placed}
use Rattle.sound_definitions.specs.Apart.{IsIndexErased}
use Rattle.sound_definitions.proofs.Behind.{AreErased, old_all, still_all, have_still, catalog_written}

-- what is said of a line reads the relations alone
same_things : (all : Lines) (n : Name) (t : Tables) (line : CatalogLine) → IsSoundLine all t line → IsSoundLine all (without_index n t) line
same_things all n t (Relation r) old = old
same_things all n t (Global g) old = tt
same_things all n t (FieldOf f) old = tt
same_things all n t (Index x) old = old

no_relation : (x : IndexLine) (r : RelationLine) → Index x ≡ Relation r → ⊥
no_relation x r same = let bad : ⊥ = cc in bad

pub indexes_deleted : (all : Lines) (c after : Catalog) (t : Tables) (writes : List Write) (n : Name) → IsSoundAs all c t → AllByRecursion (IsIndexErased all) writes →
    IsCatalogOf (laid_all writes all) after → after.tables ≡ without_index n c.tables → IsSoundAs (laid_all writes all) after (without_index n t)
indexes_deleted all c after t writes n sound erased too tables =
    let now = laid_all writes all in
    let behind = without_index n t in
    let on : AreOn catalog_area writes = all_of (IsIndexErased all) (λ (w : Write). (w.key).area ≡ catalog_area) (λ w e. e.inside) writes erased in
    let gone : AreErased writes = all_of (IsIndexErased all) (λ (w : Write). w.image ≡ None) (λ w e. e.erased) writes erased in
    catalog_written all c after writes on sound.decodes too still t behind sound
    (record {
      globals = sound.are.globals ∙ sym (ap (λ (v : Tables). v.globals) tables);
      relations = subst (λ (v : Tables). HaveRows now (versions_in after.lines) v.relations t.relations) (sym tables) (have_still all c after writes on sound.decodes too still t.relations sound.are.relations);
      indexes = ap (without n) sound.are.indexes ∙ sym (ap (λ (v : Tables). v.indexes) tables);
    })
    (λ area some. some)
    (all_of (λ (p : PlacedLine). IsSoundLine all t p.line) (λ (p : PlacedLine). IsSoundLine all behind p.line) (λ p. same_things all n t p.line) c.lines sound.things)
    (λ p present. inl (old_all p writes all gone present))
  where
    -- a relation's line is none of those that go
    still : (p : PlacedLine) (r : RelationLine) → p.line ≡ Relation r → IsPresent all p → IsPresent (laid_all writes all) p
    still p r at present =
        still_all p writes all
        (all_of (IsIndexErased all) (λ (w : Write). is_eq (dbkey_order p.key w.key) ≡ false)
        (λ w e. fails _ (λ tie. no_relation e.index r (ap (λ (q : PlacedLine). q.line) (one_placed all (record { key = w.key; line = Index e.index }) p (sym (same_dbkey p.key w.key (equal _ tie))) e.present present) ∙ at)))
        writes erased)
        present
