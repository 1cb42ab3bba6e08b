-- The relation of a catalog that rows are written into is that of the tables.
use Rattle.std.proofs.Common.{◌≡◌, ℕ, List, [], map, Option, Some, None, refl, sym, ap, subst, ◌∙◌}
use Rattle.std.specs.Prelude.{option_map}
use Rattle.std.proofs.lemmas.Option.{same_Some}
use Rattle.rdo_ast.specs.Tree.{Name}
use Rattle.rdb_meaning.specs.declared.tables.Relation.{Relation as Rows}
use Rattle.rdb_meaning.specs.declared.tables.Tables.{Tables}
use Rattle.rdb_meaning.specs.Contents.{relation_named, class_of}
use Rattle.line_view.specs.Knowledge.{Lines}
use Rattle.catalog_lines.specs.declared.line.IndexLine.{IndexLine}
use Rattle.catalog.specs.declared.reading.Catalog.{Catalog}
use Rattle.schema_alone.specs.Schema.{bare}
use Rattle.row_writes.specs.sound_changes.Standing.{IsSoundAs}
use Rattle.row_writes.proofs.of_sound_changes.Schemas.{catalogs_schema}
use Rattle.row_writes.specs.declared.target.TargetRelation.{TargetRelation}
use Rattle.row_writes.specs.Target.{AreOwn, named_index}
use Rattle.stored_schema.specs.Indexes.{lines_on}
use Rattle.stored_schema.specs.Targets.{IsStoredAs, IsTargetIn, HasTarget, HasStored}
use Rattle.stored_schema.proofs.Gathered.{lines_on_are, are_own}
use Rattle.stored_schema.proofs.InTables.{each_own, lines_are_indexes}

-- the relation of the catalog that one of the tables comes from
pub record InCatalog (c : Catalog) (n : Name) (rel : Rows) : Type 0 where
  pub before : Rows
  pub named : relation_named n c.tables ≡ Some before
  pub area : before.area ≡ rel.area
  pub fields : before.fields ≡ rel.fields

in_catalog_as : (c : Catalog) (n : Name) (rel : Rows) (o : Option Rows) → relation_named n c.tables ≡ o → option_map bare o ≡ Some (bare rel) → InCatalog c n rel
in_catalog_as c n rel None is same = let bad : ⊥ = cc in absurd bad
in_catalog_as c n rel (Some b) is same =
    let one : bare b ≡ bare rel = same_Some (bare b) (bare rel) same in
    record { before = b; named = is; area = ap (λ (r : Rows). r.area) one; fields = ap (λ (r : Rows). r.fields) one }

module _ (all : Lines) (c : Catalog) (t : Tables) (n : Name) (rel : Rows) (sound : IsSoundAs all c t) (named : relation_named n t ≡ Some rel) where
  pub in_catalog : InCatalog c n rel
  in_catalog = in_catalog_as c n rel (relation_named n c.tables) refl (catalogs_schema all c t sound.are n ∙ ap (option_map bare) named)

  -- the relation is written so
  pub is_target : (b : Rows) (r : TargetRelation) → relation_named n c.tables ≡ Some b → IsStoredAs c n b r.stored → r.class ≡ class_of b.fields → r.indexes.now ≡ lines_on b.area c.lines → IsTargetIn c t n rel r
  is_target b r found so class indexes =
      let from = in_catalog in
      let same : from.before ≡ b = same_Some from.before b (sym from.named ∙ found) in
      let area : b.area ≡ rel.area = ap (λ (x : Rows). x.area) (sym same) ∙ from.area in
      let fields : b.fields ≡ rel.fields = ap (λ (x : Rows). x.fields) (sym same) ∙ from.fields in
      let lines : r.indexes.now ≡ lines_on rel.area c.lines = indexes ∙ ap (λ (a : ℕ). lines_on a c.lines) area in
      let now : rel.fields ≡ r.stored.fields.now = sym (so.fields ∙ fields) in
      record {
        is = record {
          area = sym (so.area ∙ area);
          fields = now;
          version = sym so.version;
          indexes = subst (λ (xs : List IndexLine). AreOwn c rel.area [] xs) (sym (lines ∙ lines_on_are rel.area c.lines)) (are_own c rel.area (each_own c rel.area));
        };
        class = class ∙ ap class_of fields;
        ordered = ap (map named_index) lines ∙ lines_are_indexes all c sound.decodes rel.area t sound.are.indexes;
      }

-- ---- what is answered

pub stored_there : (c : Catalog) (n : Name) (b rel : Rows) (r : TargetRelation) → relation_named n c.tables ≡ Some b → IsStoredAs c n b r.stored → relation_named n c.tables ≡ Some rel → HasStored c n rel (Some r)
stored_there c n b rel r found so named = subst (λ (x : Rows). IsStoredAs c n x r.stored) (same_Some b rel (sym found ∙ named)) so

pub none_there : (c : Catalog) (n : Name) (rel : Rows) → relation_named n c.tables ≡ None → relation_named n c.tables ≡ Some rel → HasStored c n rel None
none_there c n rel none named = let bad : ⊥ = cc in bad

pub no_target : (all : Lines) (c : Catalog) (t : Tables) (n : Name) (rel : Rows) → relation_named n c.tables ≡ None → IsSoundAs all c t → relation_named n t ≡ Some rel → HasTarget c t n rel None
no_target all c t n rel none sound named = let from = in_catalog all c t n rel sound named in let bad : ⊥ = cc (sym none ∙ from.named) in bad
