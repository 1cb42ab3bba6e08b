-- DEFINE INDEX: it is filled from the rows that are there, and then its line is written.
use Rattle.std.proofs.Common.{◌≡◌, ◌==◌, ℕ, ◌≤◌, Bool, true, false, cond, ◌&&◌, List, [], ◌∷◌, ◌++◌, map, length, Option, Some, None, refl, sym, ap, subst, ◌∙◌, arith}
use Rattle.std.specs.Prelude.{option_map, nat_lt}
use Rattle.std.specs.List.{AllByRecursion}
use Rattle.std.specs.Ordering.{is_eq}
use Rattle.std.specs.FinMap.Entries.{find, put}
use Rattle.std.specs.BTreeSet.{insert_key}
use Rattle.std.proofs.lemmas.Bool.{eq-eqb, ne_eqb}
use Rattle.std.proofs.lemmas.Bool.Decides.{nat_tests}
use Rattle.std.proofs.lemmas.List.{length-map}
use Rattle.rdb_types.specs.declared.keys.Dbkey.{Dbkey}
use Rattle.rdb_types.specs.Order.{dbkey_order, chars_order}
use Rattle.rdo_ast.specs.Tree.{Name}
use Rattle.rdo_ast.specs.declared.syntax.IndexDefinition.{IndexDefinition}
use Rattle.rdo_ast.specs.declared.reply.Reply.{Reply}
use Rattle.rdo_ast.specs.declared.reply.Reply.TheVariants.{TooLong, Duplicate}
use Rattle.rdb_meaning.specs.declared.tables.Relation.{Relation as Rows}
use Rattle.rdb_meaning.specs.declared.tables.Index.{Index as IndexOf}
use Rattle.rdb_meaning.specs.declared.tables.Tables.{Tables}
use Rattle.rdb_meaning.specs.Contents.{relation_named, fields_of, rows_of, is_used, new_index_area}
use Rattle.rdb_meaning.specs.Defining.{positions_of, longest_key as longest_of_names, keys_repeat, index_names, index_refusal, with_index}
use Rattle.rdb_meaning.specs.Execution.{area_of}
use Rattle.line_view.specs.Knowledge.{Knowledge, Lines, IsInOrder, Agrees, line_in, lines_in, keys_of, laid}
use Rattle.line_view.specs.declared.writes.Write.{Write}
use Rattle.line_view.specs.Writes.{laid_all}
use Rattle.line_view.proofs.FullMap.{laid_found, key_put}
use Rattle.line_view.proofs.Written.{laid_in_turn}
use Rattle.catalog_lines.specs.declared.line.IndexLine.{IndexLine}
use Rattle.catalog_lines.specs.declared.line.CatalogLine.{CatalogLine}
use Rattle.catalog_lines.specs.declared.line.CatalogLine.TheVariants.{Relation, Global, Field as FieldOf, Index}
use Rattle.catalog_lines.specs.Lines.{IsIndexArea}
use Rattle.catalog.specs.declared.directory.PlacedLine.{PlacedLine}
use Rattle.catalog.specs.declared.directory.Directory.{Directory}
use Rattle.catalog.specs.declared.reading.Catalog.{Catalog}
use Rattle.catalog.specs.Directory.{area_order, numbered, no_directory, directory}
use Rattle.catalog.specs.Schema.{catalog_tables, stands, is_key}
use Rattle.catalog.specs.Reading.{catalog_area, IsCatalogOf}
use Rattle.catalog.proofs.Differences.{index_parts}
use Rattle.rdb_definitions.specs.NewIndex.{new_index}
use Rattle.catalog_definitions.specs.Causes.{catalog_room}
use Rattle.catalog_definitions.specs.Written.{index_room, IsIndexWritten}
use Rattle.catalog_definitions.specs.Leaving.{Leaves}
use Rattle.catalog_definitions.proofs.FreeAreas.{unused}
use Rattle.catalog_definitions.proofs.Lookups.{Good, odd_offs, off_lines}
use Rattle.catalog_definitions.proofs.NewIndexes.{sound as unrefused, area_bounds}
use Rattle.relation_rows.specs.Indexed.{IsIndexOf}
use Rattle.sound_lines.specs.Sound.{relation_in, longest_key, IsSoundIndex}
use Rattle.sound_lines.proofs.Longest.{of_names}
use Rattle.schema_alone.specs.Schema.{bare}
use Rattle.schema_alone.proofs.Same.{fields_same}
use Rattle.sound_changes.specs.Standing.{IsSoundAs}
use Rattle.sound_changes.proofs.Basics.{all_of}
use Rattle.sound_changes.proofs.Named.{Fits, all_fit}
use Rattle.sound_changes.proofs.IndexLaid.{AreOn}
use Rattle.sound_changes.proofs.PairPut.{own_relation}
use Rattle.sound_changes.proofs.Schemas.{catalogs_schema}
use Rattle.sound_definitions.specs.Apart.{IsNoIndexIn}
use Rattle.sound_definitions.proofs.Behind.{on_off, lines_apart}
use Rattle.sound_definitions.proofs.Filling.{aside}
use Rattle.sound_definitions.proofs.NewLine.{index_defined as line_defined}
use Rattle.sound_statements.proofs.Common.{same_line, catalog_alike}

-- ---- its area isn't in use

no_index : (d : Directory) (t : Tables) (area : ℕ) (key : Dbkey) (line : CatalogLine) → find area_order (numbered area) d.areas ≡ None → stands d t key line ≡ true → IsNoIndexIn area line
no_index d t area key (Relation r) none stood = tt
no_index d t area key (Global g) none stood = tt
no_index d t area key (FieldOf f) none stood = tt
no_index d t area key (Index x) none stood = λ same.
    let there = (index_parts d t key x stood).1 in
    let moved : is_key key (find area_order (numbered x.area) d.areas) ≡ false = ap (λ (a : ℕ). is_key key (find area_order (numbered a) d.areas)) (sym same) ∙ ap (is_key key) none in
    let bad : ⊥ = cc in bad

free_area : (all : Lines) (c : Catalog) → IsCatalogOf all c → AllByRecursion (λ (p : PlacedLine). IsNoIndexIn (new_index_area c.tables) p.line) c.lines
free_area all c is =
    let d = directory c.lines in
    let u = catalog_tables c.lines in
    let area = new_index_area c.tables in
    let fits = all_fit all c is in
    let free : is_used area (map (λ (e : Name × IndexOf). e.1.area) c.tables.indexes) ≡ false =
    unused (length c.tables.indexes) 17 (map (λ (e : Name × IndexOf). e.1.area) c.tables.indexes) (sym (length-map c.tables.indexes (λ (e : Name × IndexOf). e.1.area))) in
    let good : AllByRecursion (Good d u) c.lines = all_of (Fits all d u) (Good d u) (λ q fit. record { allowed = fit.present.decodes.allowed; stood = fit.stood }) c.lines fits in
    let offs = odd_offs d u area c.lines (area_bounds c.tables).1 (subst (λ (x : Tables). is_used area (map (λ (e : Name × IndexOf). e.1.area) x.indexes) ≡ false) is.tables free) good in
    let none : find area_order (numbered area) d.areas ≡ None = off_lines area c.lines no_directory offs in
    all_of (Fits all d u) (λ (p : PlacedLine). IsNoIndexIn area p.line) (λ p fit. no_index d u area p.key p.line none fit.stood) c.lines fits

-- ---- what isn't refused

short_key : (n : ℕ) (rest : Option Reply) → cond (nat_lt 120 n) (Some TooLong) rest ≡ None → (n ≤ 120) × (rest ≡ None)
short_key n rest none =
    elim (nat_lt 120 n) as (λ b. nat_lt 120 n ≡ b → cond b (Some TooLong) rest ≡ None → (n ≤ 120) × (rest ≡ None)) [
      | true ↦ λ is h. let bad : ⊥ = cc in absurd bad
      | false ↦ λ is h. (grind (arith, nat_tests), h)
    ] refl none

keys_once : (n : Name) (is_unique repeat : Bool) → cond (is_unique && repeat) (Some (Duplicate n)) (let none : Option Reply = None in none) ≡ None → is_unique ≡ true → repeat ≡ false
keys_once n true true none is = let bad : ⊥ = cc in absurd bad
keys_once n true false none is = refl
keys_once n false repeat none is = let bad : ⊥ = cc in absurd bad

area_bare : (o : Option Rows) → area_of (option_map bare o) ≡ area_of o
area_bare None = refl
area_bare (Some r) = refl

-- the relation of the rows has a name in the tables
there_too : (o u : Option Rows) (rel : Rows) → option_map bare o ≡ option_map bare u → o ≡ Some rel → (found : Rows) × (u ≡ Some found)
there_too o None rel same is = let bad : ⊥ = cc in absurd bad
there_too o (Some found) rel same is = (found, refl)

module _ (all : Lines) (c : Catalog) (t : Tables) (d : IndexDefinition) (sound : IsSoundAs all c t) where
  schema : (n : Name) → option_map bare (relation_named n c.tables) ≡ option_map bare (relation_named n t)
  schema = catalogs_schema all c t sound.are

  -- the index that the definition brings is that of the tables with their rows
  index_alike : new_index d c.tables ≡ new_index d t
  index_alike =
      let indexes = sound.are.indexes in
      let area : area_of (relation_named d.relation c.tables) ≡ area_of (relation_named d.relation t) = sym (area_bare (relation_named d.relation c.tables)) ∙ ap area_of (schema d.relation) ∙ area_bare (relation_named d.relation t) in
      let fields = fields_same c.tables t schema d.relation in
      λ i. record { area = new_index_area (record { globals = t.globals; relations = t.relations; indexes = sym indexes i }); relation = area i; unique = d.unique; fields = positions_of d.fields (fields i) }

  -- The index of the rows that are there is sound.
  filled_sound : (filled : Lines) (root : Dbkey) → index_names d c.tables ≡ None → index_refusal d t ≡ None → IsIndexOf filled root (new_index d c.tables).fields (rows_of (relation_named d.relation t)) →
      IsSoundIndex filled (record { area = new_index_area c.tables; relation = area_of (relation_named d.relation c.tables); unique = d.unique; root = root; fields = (new_index d c.tables).fields; name = d.name }) (relation_in (area_of (relation_named d.relation c.tables)) t.relations)
  filled_sound filled root names refusal index =
      let old = unrefused d c.tables names in
      let there = there_too (relation_named d.relation c.tables) (relation_named d.relation t) old.rel (schema d.relation) old.there in
      let area : area_of (relation_named d.relation c.tables) ≡ there.0.area = sym (area_bare (relation_named d.relation c.tables)) ∙ ap area_of (schema d.relation) ∙ area_bare (relation_named d.relation t) ∙ ap area_of there.1 in
      let own : relation_in (area_of (relation_named d.relation c.tables)) t.relations ≡ relation_named d.relation t =
      ap (λ (a : ℕ). relation_in a t.relations) area ∙ own_relation all c t d.relation there.0 (λ l. t) sound there.1 ∙ sym there.1 in
      let fields = fields_same c.tables t schema d.relation in
      let positions : (new_index d c.tables).fields ≡ positions_of d.fields (fields_of (relation_named d.relation t)) = ap (positions_of d.fields) fields in
      let parts = short_key (longest_of_names d.fields (fields_of (relation_named d.relation t))) _ refusal in
      subst (IsSoundIndex filled (record { area = new_index_area c.tables; relation = area_of (relation_named d.relation c.tables); unique = d.unique; root = root; fields = (new_index d c.tables).fields; name = d.name })) (sym own)
      (record {
        short = subst (λ (n : ℕ). n ≤ 120) (sym (ap (λ (ps : List ℕ). longest_key ps (fields_of (relation_named d.relation t))) positions ∙ of_names d.fields (fields_of (relation_named d.relation t)))) parts.0;
        is = index;
        unique = λ is.
            ap (λ (ps : List ℕ). keys_repeat ps (rows_of (relation_named d.relation t))) positions
            ∙ keys_once d.name d.unique (keys_repeat (positions_of d.fields (fields_of (relation_named d.relation t))) (rows_of (relation_named d.relation t))) parts.1 is;
      })

-- ---- the statement

abbrev with_new_index : Name → IndexOf → Tables → Tables
with_new_index n i t = record { globals = t.globals; relations = t.relations; indexes = put chars_order n i t.indexes }

keys_laid : (k : Dbkey) (image : List ℕ) (cur : Lines) → k.area ≡ catalog_area → IsInOrder cur → keys_of (lines_in catalog_area (laid k (Some image) cur)) ≡ insert_key dbkey_order (keys_of (lines_in catalog_area cur)) k
keys_laid k image cur own sorted = subst (λ (a : ℕ). keys_of (lines_in a (laid k (Some image) cur)) ≡ insert_key dbkey_order (keys_of (lines_in a cur)) k) own (key_put k image cur sorted)

pub index_defined : (known : Knowledge) (all : Lines) (c : Catalog) (t : Tables) (d : IndexDefinition) (filling writes : List Write) → IsSoundAs all c t → Agrees known all → index_names d c.tables ≡ None → index_refusal d t ≡ None →
    (written : IsIndexWritten known d.name (new_index d c.tables) writes) → (left : Leaves all writes (with_index d c.tables)) → AreOn (new_index_area c.tables) filling →
    IsIndexOf (laid_all filling all) written.root (new_index d c.tables).fields (rows_of (relation_named d.relation t)) → IsSoundAs (laid_all (filling ++ writes) all) left.after (with_index d t)
index_defined known all c t d filling [] sound agrees names refusal written left on index = absurd written.line
index_defined known all c t d filling (w ∷ x ∷ ws) sound agrees names refusal written left on index = absurd written.line.2
index_defined known all c t d filling (w ∷ []) sound agrees names refusal written left on index =
    let line = written.line.1 in
    let own : w.key.area ≡ catalog_area = agrees.within (catalog_room 0) w.key written.line.0 in
    let free : line_in w.key all ≡ None = agrees.free (catalog_room 0) w.key written.line.0 in
    let bounds : IsIndexArea (new_index_area c.tables) = area_bounds c.tables in
    let filled = laid_all filling all in
    let apart = on_off (new_index_area c.tables) catalog_area filling (ne_eqb (new_index_area c.tables) catalog_area (λ same. omega (arith, same, bounds.0))) on in
    let still : IsSoundAs filled c t = aside all c t (new_index_area c.tables) filling sound bounds (free_area all c sound.decodes) on in
    let inside : (w.key.area == catalog_area) ≡ true = eq-eqb w.key.area catalog_area own in
    let lines : lines_in catalog_area filled ≡ lines_in catalog_area all = lines_apart catalog_area filling all apart in
    let before : IsCatalogOf (laid w.key (Some line.bytes) all) left.after = subst (λ (o : Option (List ℕ)). IsCatalogOf (laid w.key o all) left.after) line.present left.catalog in
    let decodes : IsCatalogOf (laid w.key (Some line.bytes) filled) left.after =
    catalog_alike (laid w.key (Some line.bytes) all) (laid w.key (Some line.bytes) filled) left.after
    (keys_laid w.key line.bytes filled own still.sorted ∙ ap (λ (l : Lines). insert_key dbkey_order (keys_of l) w.key) lines ∙ sym (keys_laid w.key line.bytes all own sound.sorted))
    (λ k here. laid_found k w.key (Some line.bytes) filled ∙ ap (λ o. cond (is_eq (dbkey_order k w.key)) (Some line.bytes) o) (same_line k filling all apart here) ∙ sym (laid_found k w.key (Some line.bytes) all)) before in
    let x : IndexLine = record { area = new_index_area c.tables; relation = area_of (relation_named d.relation c.tables); unique = d.unique; root = written.root; fields = (new_index d c.tables).fields; name = d.name } in
    let root : written.root.area ≡ new_index_area c.tables = agrees.within (index_room (new_index_area c.tables)) written.root written.room in
    let done : IsSoundAs (laid w.key (Some line.bytes) filled) left.after (with_new_index d.name (new_index d c.tables) t) =
    line_defined filled c left.after t w.key line.bytes x still own (same_line w.key filling all apart inside ∙ free) line.decodes decodes left.tables
    (λ same. omega (arith, same, root, bounds.0)) (filled_sound all c t d sound filled written.root names refusal index) in
    subst (λ (l : Lines). IsSoundAs l left.after (with_index d t)) (sym (laid_in_turn filling (w ∷ []) all))
    (subst (λ (o : Option (List ℕ)). IsSoundAs (laid w.key o filled) left.after (with_index d t)) (sym line.present)
    (subst (λ (i : IndexOf). IsSoundAs (laid w.key (Some line.bytes) filled) left.after (with_new_index d.name i t)) (index_alike all c t d sound) done))
