-- A relation of a catalog as selections read it.
use Rattle.std.proofs.Common.{◌≡◌, ℕ, ◌<◌, List, [], ◌∷◌, map, length, Some, sym, ap, subst, ◌∙◌}
use Rattle.std.specs.List.{AllByRecursion}
use Rattle.rdb_types.specs.declared.keys.Dbkey.{Dbkey}
use Rattle.rdb_types.specs.declared.values.Field.{Field}
use Rattle.rdo_ast.specs.Tree.{Name}
use Rattle.rdb_meaning.specs.declared.tables.Relation.{Relation as Rows}
use Rattle.rdb_meaning.specs.declared.tables.Tables.{Tables}
use Rattle.rdb_meaning.specs.Contents.{Row, no_tables, relation_named}
use Rattle.line_view.specs.Knowledge.{Lines, lines_in}
use Rattle.catalog_lines.specs.declared.line.IndexLine.{IndexLine}
use Rattle.catalog.specs.declared.directory.PlacedLine.{PlacedLine}
use Rattle.catalog.specs.declared.directory.Directory.{Directory}
use Rattle.catalog.specs.declared.reading.Catalog.{Catalog}
use Rattle.catalog.specs.Directory.{directory}
use Rattle.catalog.specs.Schema.{catalog_tables}
use Rattle.access_paths.specs.declared.choice.IndexPath.{IndexPath}
use Rattle.relation_rows.specs.declared.stored.StoredRelation.{StoredRelation}
use Rattle.relation_rows.specs.Relations.{stored_row, HasRows}
use Rattle.relation_rows.specs.Stored.{AreRowsOf}
use Rattle.relation_rows.specs.Indexed.{IsIndexOf, HasPositions}
use Rattle.index_rows.specs.Indexed.{AreIndexesOf}
use Rattle.sound_lines.specs.Contents.{versions_in, version_of, stored}
use Rattle.sound_lines.specs.Sound.{relation_in, IsSoundLine, IsSoundIndex}
use Rattle.sound_lines.proofs.RowsRead.{rows_alike}
use Rattle.sound_changes.specs.Standing.{IsSoundAs}
use Rattle.sound_changes.proofs.Changed.{have_of, rows_in}
use Rattle.sound_changes.proofs.Named.{IsOf, AreOf, all_fit, lines_of as relations_of, found_of}
use Rattle.sound_changes.proofs.IndexLaid.{at_place}
use Rattle.sound_changes.proofs.PairPut.{own_relation}
use Rattle.rdo_select.specs.declared.source.Source.{Source}
use Rattle.rdo_select.specs.Sources.{IsSourceOf}
use Rattle.sound_changes.specs.InTurn.{IsIndexOn}
use Rattle.stored_schema.specs.Indexes.{Sorted, lines_of, lines_on, path_of}
use Rattle.stored_schema.proofs.Gathered.{gathered, EachOwn, lines_on_are}
use Rattle.stored_schema.proofs.OneArea.{Stood}
use Rattle.stored_schema.proofs.InTables.{each_own, each_stood}
use Rattle.stored_schema.proofs.Written.{in_catalog}
use Rattle.statement_sources.proofs.Positions.{positions_below, rows_have}

module _ (all : Lines) (c : Catalog) (t : Tables) (n : Name) (rel : Rows) (sound : IsSoundAs all c t) (named : relation_named n t ≡ Some rel) where
  own : relation_in rel.area t.relations ≡ Some rel
  own = own_relation all c t n rel (λ line. t) sound named

  abbrev d : Directory
  d = directory c.lines

  abbrev u : Tables
  u = catalog_tables c.lines

  of_line : IsOf all d u n rel.area
  of_line =
      let each = relations_of all d u d c.lines no_tables (all_fit all c sound.decodes) tt in
      let of_catalog : AreOf all d u c.tables.relations = subst (λ (x : Tables). AreOf all d u x.relations) (sym sound.decodes.tables) each in
      found_of all d u t.relations n rel (have_of all d u (versions_in c.lines) c.tables.relations t.relations sound.are.relations of_catalog) named

  pub rows : (r : StoredRelation) → r.version ≡ version_of n (versions_in c.lines) → r.area ≡ rel.area → r.fields.now ≡ rel.fields → HasRows all r rel
  rows r at area fields = record {
    area = area;
    fields = fields;
    rows = rows_alike (stored (version_of n (versions_in c.lines)) rel) r (lines_in r.area all) (map stored_row rel.rows) (sym at) (sym fields)
        (subst (λ (a : ℕ). AreRowsOf (stored (version_of n (versions_in c.lines)) rel) (lines_in a all) (map stored_row rel.rows)) (sym area)
        (rows_in all (versions_in c.lines) n rel c.tables.relations t.relations sound.are.relations named));
  }

  one_path : (x : IndexLine) → IsIndexOn c rel.area x → Stood all d u x → IsIndexOf all x.root x.fields rel.rows × AllByRecursion (λ (e : Dbkey × Row). HasPositions x.fields e.1) rel.rows
  one_path x is stood =
      let thing = at_place (λ (p : PlacedLine). IsSoundLine all t p.line) c.lines is.place is.line sound.things is.stands in
      let index : IsSoundIndex all x (relation_in x.relation t.relations) = subst (IsSoundLine all t) is.is thing in
      let here : relation_in x.relation t.relations ≡ Some rel = ap (λ (a : ℕ). relation_in a t.relations) is.on ∙ own in
      let of : IsSoundIndex all x (Some rel) = subst (IsSoundIndex all x) here index in
      let from = in_catalog all c t n rel sound named in
      let below = positions_below all c n from.before of_line.r x sound.decodes from.named of_line.key of_line.stood (from.area ∙ of_line.placed) stood.key stood.stood (is.on ∙ sym from.area) in
      let positions = subst (λ (fs : List Field). AllByRecursion (λ p. p < length fs) x.fields) from.fields below in
      (of.is, rows_have (stored (version_of n (versions_in c.lines)) rel) x.fields (lines_in rel.area all) rel.rows positions (rows_in all (versions_in c.lines) n rel c.tables.relations t.relations sound.are.relations named))

  paths : (es : Sorted) → EachOwn (IsIndexOn c rel.area) es → EachOwn (Stood all d u) es → AreIndexesOf all (map path_of (lines_of es)) rel.rows
  paths [] is stood = tt
  paths (e ∷ es) is stood = (one_path e.1 is.0.1 stood.0.1, paths es is.1 stood.1)

  pub is_source : (s : Source) → s.relation.version ≡ version_of n (versions_in c.lines) → s.relation.area ≡ rel.area → s.relation.fields.now ≡ rel.fields → s.indexes.now ≡ map path_of (lines_on rel.area c.lines) → IsSourceOf all rel s
  is_source s at area fields indexes = (
    rows s.relation at area fields,
    subst (λ (xs : List IndexPath). AreIndexesOf all xs rel.rows) (sym (indexes ∙ ap (map path_of) (lines_on_are rel.area c.lines)))
        (paths (gathered rel.area [] c.lines) (each_own c rel.area) (each_stood all c sound.decodes rel.area)),
  )
