-- A new line of the catalog that is none of a relation.
use Rattle.std.proofs.Common.{◌≡◌, ℕ, false, List, [], ◌∷◌, Some, None, inl, inr, sym, ap, subst, ◌∙◌}
use Rattle.std.specs.Ordering.{is_eq}
use Rattle.std.specs.FinMap.Entries.{put}
use Rattle.std.proofs.lemmas.Bool.{ne_eqb}
use Rattle.std.proofs.lemmas.Option.{none-some, same_Some}
use Rattle.rdb_types.specs.declared.keys.Dbkey.{Dbkey}
use Rattle.rdb_types.specs.declared.values.FieldType.{FieldType}
use Rattle.rdb_types.specs.Order.{dbkey_order, chars_order}
use Rattle.rdb_types.specs.OrderLaws.{same_dbkey}
use Rattle.rdo_ast.specs.Tree.{Name}
use Rattle.rdb_meaning.specs.declared.tables.Relation.{Relation as Rows}
use Rattle.rdb_meaning.specs.declared.tables.Tables.{Tables}
use Rattle.rdb_meaning.specs.declared.tables.Index.{Index as IndexOf}
use Rattle.rdb_meaning.specs.Defining.{with_field}
use Rattle.line_view.specs.Knowledge.{Lines, line_in, laid}
use Rattle.line_view.specs.declared.writes.Write.{Write}
use Rattle.catalog_lines.specs.declared.line.RelationLine.{RelationLine}
use Rattle.catalog_lines.specs.declared.line.GlobalLine.{GlobalLine}
use Rattle.catalog_lines.specs.declared.line.IndexLine.{IndexLine}
use Rattle.catalog_lines.specs.declared.line.CatalogLine.{CatalogLine}
use Rattle.catalog_lines.specs.declared.line.CatalogLine.TheVariants.{Relation, Global, Field as FieldOf, Index}
use Rattle.catalog_lines.specs.Lines.{IsCatalogLine}
use Rattle.catalog_lines.proofs.Lines.{one_line}
use Rattle.catalog.specs.declared.directory.PlacedLine.{PlacedLine}
use Rattle.catalog.specs.declared.reading.Catalog.{Catalog}
use Rattle.catalog.specs.Reading.{catalog_area, IsPresent, IsCatalogOf}
use Rattle.sound_lines.specs.Contents.{versions_in, HaveRows}
use Rattle.sound_lines.specs.Sound.{relation_in, IsSoundIndex, IsSoundLine}
use Rattle.sound_changes.specs.Standing.{IsSoundAs}
use Rattle.sound_changes.proofs.Basics.{equal, fails, all_of}
use Rattle.sound_changes.proofs.Frames.{sound_index_beside}
use Rattle.sound_definitions.proofs.Behind.{still_all, old_or_from, From, have_still, catalog_written}

-- the tables with these global fields and indexes
abbrev with_things : List (Name × FieldType) → List (Name × IndexOf) → Tables → Tables
with_things globals indexes t = record { globals = globals; relations = t.relations; indexes = indexes }

-- what is said of a line reads the relations alone
same_things : (all : Lines) (globals : List (Name × FieldType)) (indexes : List (Name × IndexOf)) (t : Tables) (line : CatalogLine) → IsSoundLine all t line → IsSoundLine all (with_things globals indexes t) line
same_things all globals indexes t (Relation r) old = old
same_things all globals indexes t (Global g) old = tt
same_things all globals indexes t (FieldOf f) old = tt
same_things all globals indexes t (Index x) old = old

line_defined : (all : Lines) (c after : Catalog) (t : Tables) (key : Dbkey) (image : List ℕ) (line : CatalogLine) (globals : List (Name × FieldType)) (indexes : List (Name × IndexOf)) → IsSoundAs all c t → key.area ≡ catalog_area → line_in key all ≡ None →
    IsCatalogLine image line → IsCatalogOf (laid key (Some image) all) after → after.tables.relations ≡ c.tables.relations → globals ≡ after.tables.globals → indexes ≡ after.tables.indexes →
    IsSoundLine (laid key (Some image) all) (with_things globals indexes t) line → IsSoundAs (laid key (Some image) all) after (with_things globals indexes t)
line_defined all c after t key image line globals indexes sound own free decodes too relations gs xs new =
    let w : Write = record { key = key; image = Some image } in
    let now = laid key (Some image) all in
    let behind = with_things globals indexes t in
    catalog_written all c after (w ∷ []) (own, tt) sound.decodes too still t behind sound
    (record {
      globals = gs;
      relations = subst (λ (l : List (Name × Rows)). HaveRows now (versions_in after.lines) l t.relations) (sym relations) (have_still all c after (w ∷ []) (own, tt) sound.decodes too still t.relations sound.are.relations);
      indexes = xs;
    })
    (λ area some. some)
    (all_of (λ (p : PlacedLine). IsSoundLine all t p.line) (λ (p : PlacedLine). IsSoundLine all behind p.line) (λ p. same_things all globals indexes t p.line) c.lines sound.things)
    (λ p present. elim (old_or_from p (w ∷ []) all present) [ inl old ↦ inl old | inr from ↦ inr (subst (IsSoundLine now behind) (sym (here p.line from)) new) ])
  where
    still : (p : PlacedLine) (r : RelationLine) → p.line ≡ Relation r → IsPresent all p → IsPresent (laid key (Some image) all) p
    still p r at present =
        let other : is_eq (dbkey_order p.key key) ≡ false = fails _ (λ tie. none-some present.image (sym (ap (λ k. line_in k all) (same_dbkey p.key key (equal _ tie)) ∙ free) ∙ present.present)) in
        still_all p (record { key = key; image = Some image } ∷ []) all (other, tt) present

    here : (l : CatalogLine) → From (record { key = key; image = Some image } ∷ []) l → l ≡ line
    here l (inl from) = one_line image l line (subst (λ bytes. IsCatalogLine bytes l) (sym (same_Some image from.0 from.1)) from.2) decodes
    here l (inr never) = absurd never

-- ---- DEFINE FIELD

pub global_defined : (all : Lines) (c after : Catalog) (t : Tables) (key : Dbkey) (image : List ℕ) (g : GlobalLine) → IsSoundAs all c t → key.area ≡ catalog_area → line_in key all ≡ None → IsCatalogLine image (Global g) →
    IsCatalogOf (laid key (Some image) all) after → after.tables ≡ with_field g.name g.kind c.tables → IsSoundAs (laid key (Some image) all) after (with_field g.name g.kind t)
global_defined all c after t key image g sound own free decodes too tables =
    line_defined all c after t key image (Global g) (put chars_order g.name g.kind t.globals) t.indexes sound own free decodes too
    (ap (λ (v : Tables). v.relations) tables)
    (ap (put chars_order g.name g.kind) sound.are.globals ∙ sym (ap (λ (v : Tables). v.globals) tables))
    (sound.are.indexes ∙ sym (ap (λ (v : Tables). v.indexes) tables))
    tt

-- ---- DEFINE INDEX, once the index is filled

abbrev index_of : IndexLine → IndexOf
index_of x = record { area = x.area; relation = x.relation; unique = x.unique; fields = x.fields }

abbrev with_index_line : IndexLine → Tables → Tables
with_index_line x t = record { globals = t.globals; relations = t.relations; indexes = put chars_order x.name (index_of x) t.indexes }

pub index_defined : (all : Lines) (c after : Catalog) (t : Tables) (key : Dbkey) (image : List ℕ) (x : IndexLine) → IsSoundAs all c t → key.area ≡ catalog_area → line_in key all ≡ None → IsCatalogLine image (Index x) →
    IsCatalogOf (laid key (Some image) all) after → after.tables ≡ with_index_line x c.tables → (x.root.area ≡ catalog_area → ⊥) → IsSoundIndex all x (relation_in x.relation t.relations) → IsSoundAs (laid key (Some image) all) after (with_index_line x t)
index_defined all c after t key image x sound own free decodes too tables off index =
    line_defined all c after t key image (Index x) t.globals (put chars_order x.name (index_of x) t.indexes) sound own free decodes too
    (ap (λ (v : Tables). v.relations) tables)
    (sound.are.globals ∙ sym (ap (λ (v : Tables). v.globals) tables))
    (ap (put chars_order x.name (index_of x)) sound.are.indexes ∙ sym (ap (λ (v : Tables). v.indexes) tables))
    (sound_index_beside all key (Some image) x (relation_in x.relation t.relations) (ne_eqb key.area x.root.area (λ same. off (sym same ∙ own))) index)
