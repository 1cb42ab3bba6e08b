-- DEFINE RELATION.
use Rattle.std.proofs.Common.{◌≡◌, ◌==◌, ℕ, suc, ◌+◌, ◌≤◌, true, false, cond, List, [], ◌∷◌, map, length, Some, None, refl, sym, ap, subst, ◌∙◌, nat_eq}
use Rattle.std.specs.Prelude.{option_map, is_some}
use Rattle.std.specs.List.{AllByRecursion}
use Rattle.std.specs.declared.cmp.Ordering.TheVariants.{Less, Equal, Greater}
use Rattle.std.specs.FinMap.Entries.{find, put, by_order}
use Rattle.std.proofs.lemmas.Bool.{eq-eqb, ne_eqb}
use Rattle.std.proofs.lemmas.List.{length-map}
use Rattle.rdb_types.specs.declared.keys.Dbkey.{Dbkey}
use Rattle.rdb_types.specs.declared.values.Field.{Field}
use Rattle.rdb_types.specs.declared.values.FieldType.{FieldType}
use Rattle.rdb_types.specs.Order.{chars_order}
use Rattle.rdo_ast.specs.Tree.{Name}
use Rattle.rdo_ast.specs.declared.syntax.FieldDefinition.{FieldDefinition}
use Rattle.rdo_ast.specs.declared.syntax.DefinedType.{DefinedType}
use Rattle.rdo_ast.specs.declared.syntax.DefinedType.TheVariants.{Own, BasedOn}
use Rattle.rdb_meaning.specs.declared.tables.Relation.{Relation as Rows}
use Rattle.rdb_meaning.specs.declared.tables.Tables.{Tables}
use Rattle.rdb_meaning.specs.Contents.{relation_named, fields_of, is_used, first_free, new_relation_area, class_of}
use Rattle.rdb_meaning.specs.Checks.{needs_none}
use Rattle.rdb_meaning.specs.Defining.{copied_type, type_of, new_field, relation_names, with_relation}
use Rattle.line_view.specs.Knowledge.{Knowledge, Lines, Agrees}
use Rattle.line_view.specs.declared.writes.Write.{Write}
use Rattle.line_view.specs.Writes.{laid_all}
use Rattle.catalog_lines.specs.declared.line.RelationLine.{RelationLine}
use Rattle.catalog_lines.specs.declared.line.CatalogLine.{CatalogLine}
use Rattle.catalog_lines.specs.declared.line.CatalogLine.TheVariants.{Relation, Global, Field as FieldOf, Index}
use Rattle.catalog.specs.declared.directory.PlacedLine.{PlacedLine}
use Rattle.catalog.specs.declared.directory.Directory.{Directory}
use Rattle.catalog.specs.declared.reading.Catalog.{Catalog}
use Rattle.catalog.specs.Directory.{area_order, numbered, no_directory, directory}
use Rattle.catalog.specs.Schema.{catalog_tables, stands, is_key, has_area}
use Rattle.catalog.proofs.Differences.{relation_parts}
use Rattle.catalog_definitions.specs.Written.{AreWritten, field_lines, relation_lines, IsRelationDefinition}
use Rattle.catalog_definitions.specs.Leaving.{Leaves}
use Rattle.catalog_definitions.proofs.FreeAreas.{unused}
use Rattle.catalog_definitions.proofs.Lookups.{Good, even_offs, off_lines}
use Rattle.catalog_definitions.proofs.IndexLines.{index_relation}
use Rattle.catalog_definitions.proofs.KeyPlaces.{first_none}
use Rattle.catalog_definitions.proofs.Basics.{none_named}
use Rattle.catalog_definitions.proofs.NewRelations.{area_bounds}
use Rattle.schema_alone.specs.Schema.{bare}
use Rattle.sound_lines.specs.Contents.{versions_in, HaveRows}
use Rattle.sound_lines.specs.Sound.{relation_in, versions_rise, IsSoundRelation, IsSoundLine}
use Rattle.sound_changes.specs.Standing.{IsSoundAs}
use Rattle.sound_changes.proofs.Basics.{all_of, number_tests}
use Rattle.sound_changes.proofs.Named.{Fits, all_fit}
use Rattle.sound_changes.proofs.Pairs.{neither}
use Rattle.sound_changes.proofs.Schemas.{catalogs_schema}
use Rattle.sound_definitions.specs.Apart.{IsUnused, IsNewLine}
use Rattle.sound_definitions.proofs.NewRelation.{with_new, relation_defined as lines_defined}
use Rattle.sound_statements.proofs.Common.{written_free, bare_none}

-- ---- the new relation is that of the tables with their rows

lengths_alike : (all : Lines) (versions : List (Name × ℕ)) (bs ws : List (Name × Rows)) → HaveRows all versions bs ws → length bs ≡ length ws
lengths_alike all versions [] [] have = refl
lengths_alike all versions [] (w ∷ ws) have = absurd have
lengths_alike all versions (b ∷ bs) [] have = absurd have
lengths_alike all versions (b ∷ bs) (w ∷ ws) have = ap suc (lengths_alike all versions bs ws have.2)

areas_alike : (all : Lines) (versions : List (Name × ℕ)) (bs ws : List (Name × Rows)) → HaveRows all versions bs ws → map (λ (e : Name × Rows). e.1.area) bs ≡ map (λ (e : Name × Rows). e.1.area) ws
areas_alike all versions [] [] have = refl
areas_alike all versions [] (w ∷ ws) have = absurd have
areas_alike all versions (b ∷ bs) [] have = absurd have
areas_alike all versions (b ∷ bs) (w ∷ ws) have = λ i. have.1.area i ∷ areas_alike all versions bs ws have.2 i

type_alike : (kind : DefinedType) (t u : Tables) → t.globals ≡ u.globals → type_of kind t ≡ type_of kind u
type_alike (Own type) t u same = refl
type_alike (BasedOn g) t u same = ap (λ (gs : List (Name × FieldType)). copied_type (find chars_order g gs)) same

fields_alike : (fs : List FieldDefinition) (t u : Tables) → t.globals ≡ u.globals → map (new_field t) fs ≡ map (new_field u) fs
fields_alike [] t u same = refl
fields_alike (f ∷ fs) t u same = λ i. record { name = f.name; kind = type_alike f.kind t u same i; version = 1 } ∷ fields_alike fs t u same i

abbrev new_relation : List FieldDefinition → Tables → Rows
new_relation fs t = record { area = new_relation_area t; fields = map (new_field t) fs; rows = [] }

relation_alike : (all : Lines) (c : Catalog) (t : Tables) (fs : List FieldDefinition) → IsSoundAs all c t → new_relation fs c.tables ≡ new_relation fs t
relation_alike all c t fs sound =
    let have = sound.are.relations in
    let lengths = lengths_alike all (versions_in c.lines) c.tables.relations t.relations have in
    let areas = areas_alike all (versions_in c.lines) c.tables.relations t.relations have in
    let fields = fields_alike fs c.tables t (sym sound.are.globals) in
    λ i. record { area = first_free (lengths i) 16 (areas i); fields = fields i; rows = [] }

-- ---- its area isn't in use

not_in : (a : ℕ) (es : List (Name × Rows)) → is_used a (map (λ (e : Name × Rows). e.1.area) es) ≡ false → relation_in a es ≡ None
not_in a [] free = refl
not_in a (e ∷ es) free =
    let parts = neither (nat_eq a e.1.area) (is_used a (map (λ (e : Name × Rows). e.1.area) es)) free in
    let off : (e.1.area == a) ≡ false = ne_eqb e.1.area a (λ same. let back : nat_eq a e.1.area ≡ true = number_tests a e.1.area (sym same) in let first = parts.0 in let bad : ⊥ = cc in bad) in
    ap (λ b. cond b (Some e.1) (relation_in a es)) off ∙ not_in a es parts.1

unused_line : (d : Directory) (t : Tables) (area : ℕ) (key : Dbkey) (line : CatalogLine) → find area_order (numbered area) d.areas ≡ None → stands d t key line ≡ true → IsUnused area line
unused_line d t area key (Relation r) none stood = λ same.
    let there = (relation_parts d t key r stood).1 in
    let moved : is_key key (find area_order (numbered r.area) d.areas) ≡ false = ap (λ (a : ℕ). is_key key (find area_order (numbered a) d.areas)) (sym same) ∙ ap (is_key key) none in
    let bad : ⊥ = cc in bad
unused_line d t area key (Global g) none stood = tt
unused_line d t area key (FieldOf f) none stood = tt
unused_line d t area key (Index x) none stood = λ same.
    let there = index_relation d t key x stood in
    let moved : has_area x.relation d ≡ false = ap (λ (a : ℕ). has_area a d) (sym same) ∙ ap is_some none in
    let bad : ⊥ = cc in bad

record IsFree (c : Catalog) (t : Tables) (area : ℕ) : Type 0 where
  pub lines : AllByRecursion (λ (p : PlacedLine). IsUnused area p.line) c.lines
  pub relations : relation_in area t.relations ≡ None

free_area : (all : Lines) (c : Catalog) (t : Tables) → IsSoundAs all c t → IsFree c t (new_relation_area c.tables)
free_area all c t sound =
    let is = sound.decodes in
    let d = directory c.lines in
    let u = catalog_tables c.lines in
    let area = new_relation_area c.tables in
    let fits = all_fit all c is in
    let free : is_used area (map (λ (e : Name × Rows). e.1.area) c.tables.relations) ≡ false =
    unused (length c.tables.relations) 16 (map (λ (e : Name × Rows). e.1.area) c.tables.relations) (sym (length-map c.tables.relations (λ (e : Name × Rows). e.1.area))) in
    let good : AllByRecursion (Good d u) c.lines = all_of (Fits all d u) (Good d u) (λ q fit. record { allowed = fit.present.decodes.allowed; stood = fit.stood }) c.lines fits in
    let offs = even_offs d u area c.lines (area_bounds c.tables).1 (subst (λ (x : Tables). is_used area (map (λ (e : Name × Rows). e.1.area) x.relations) ≡ false) is.tables free) good in
    let none : find area_order (numbered area) d.areas ≡ None = off_lines area c.lines no_directory offs in
    record {
      lines = all_of (Fits all d u) (λ (p : PlacedLine). IsUnused area p.line) (λ p fit. unused_line d u area p.key p.line none fit.stood) c.lines fits;
      relations = not_in area t.relations (ap (is_used area) (sym (areas_alike all (versions_in c.lines) c.tables.relations t.relations sound.are.relations)) ∙ free);
    }

-- ---- its lines are sound

new_in : (n : Name) (v : Rows) (es : List (Name × Rows)) → relation_in v.area es ≡ None → relation_in v.area (put chars_order n v es) ≡ Some v
new_in n v [] none = ap (λ b. cond b (Some v) None) (eq-eqb v.area v.area refl)
new_in n v (e ∷ es) none =
    let own = eq-eqb v.area v.area refl in
    elim (chars_order n e.0) as (λ r. relation_in v.area (by_order r ((n, v) ∷ e ∷ es) ((e.0, v) ∷ es) (e ∷ put chars_order n v es)) ≡ Some v) [
      | Less ↦ ap (λ b. cond b (Some v) (relation_in v.area (e ∷ es))) own
      | Equal ↦ ap (λ b. cond b (Some v) (relation_in v.area es)) own
      | Greater ↦ elim (e.1.area == v.area) as (λ b. cond b (Some e.1) (relation_in v.area es) ≡ None → cond b (Some e.1) (relation_in v.area (put chars_order n v es)) ≡ Some v) [
        | true ↦ λ h. let bad : ⊥ = cc in absurd bad
        | false ↦ λ h. new_in n v es h
      ] none
    ]

first_versions : (t : Tables) (fs : List FieldDefinition) → versions_rise 1 1 (map (new_field t) fs) ≡ true
first_versions t [] = refl
first_versions t (f ∷ fs) = first_versions t fs

fields_sound : (now : Lines) (t : Tables) (area p : ℕ) (fields : List Field) → AllByRecursion (IsSoundLine now t) (field_lines area p fields)
fields_sound now t area p [] = tt
fields_sound now t area p (f ∷ fs) = (tt, fields_sound now t area (p + 1) fs)

new_lines : (now : Lines) (t : Tables) (known : Knowledge) (nth : ℕ) (lines : List CatalogLine) (writes : List Write) → AreWritten known nth lines writes → AllByRecursion (IsSoundLine now t) lines → AllByRecursion (IsNewLine now t) writes
new_lines now t known nth [] [] written sound = tt
new_lines now t known nth [] (w ∷ ws) written sound = absurd written
new_lines now t known nth (l ∷ ls) [] written sound = absurd written
new_lines now t known nth (l ∷ ls) (w ∷ ws) written sound =
    let here = written.1 in
    (record { bytes = here.bytes; line = l; written = here.present; decodes = here.decodes; sound = sound.0 }, new_lines now t known (nth + 1) ls ws written.2 sound.1)

-- ---- the statement

pub relation_defined : (known : Knowledge) (all : Lines) (c : Catalog) (t : Tables) (n : Name) (fs : List FieldDefinition) (writes : List Write) → IsSoundAs all c t → Agrees known all → IsRelationDefinition n fs → relation_names n fs c.tables ≡ None →
    AreWritten known 0 (relation_lines n fs c.tables) writes → (left : Leaves all writes (with_relation n fs c.tables)) → IsSoundAs (laid_all writes all) left.after (with_relation n fs t)
relation_defined known all c t n fs writes sound agrees definition names written left =
    let v = new_relation fs c.tables in
    let now = laid_all writes all in
    let behind = with_new n v t in
    let r : RelationLine = record { area = v.area; class = class_of v.fields; version = 1; name = n } in
    let on = written_free known all agrees 0 (relation_lines n fs c.tables) writes written in
    let unnamed : find chars_order n c.tables.relations ≡ None = none_named n (relation_named n c.tables) (first_none (needs_none n (relation_named n c.tables)) _ names).0 in
    let none : find chars_order n t.relations ≡ None = bare_none (relation_named n t) (sym (catalogs_schema all c t sound.are n) ∙ ap (option_map bare) unnamed) in
    let free = free_area all c t sound in
    let own : relation_in v.area behind.relations ≡ Some v = new_in n v t.relations free.relations in
    let line : IsSoundRelation r v.fields = record { class = refl; versions = first_versions c.tables fs; version = subst (λ (k : ℕ). 1 ≤ k) (sym (length-map fs (new_field c.tables))) definition.count.0 } in
    let lines : AllByRecursion (IsSoundLine now behind) (relation_lines n fs c.tables) = (subst (IsSoundRelation r) (sym (ap fields_of own)) line, fields_sound now behind v.area 0 v.fields) in
    subst (λ (x : Rows). IsSoundAs now left.after (with_new n x t)) (relation_alike all c t fs sound)
    (lines_defined all c left.after t writes n v sound on.0 on.1 left.catalog left.tables refl (area_bounds c.tables) none free.relations free.lines
    (new_lines now behind known 0 (relation_lines n fs c.tables) writes written lines))
