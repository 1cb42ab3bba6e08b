-- The lines of the catalog of a sound map are sound.
use Rattle.std.proofs.Common.{◌≡◌, ◌≤◌, ℕ, true, not, cond, ◌&&◌, List, [], ◌∷◌, length, refl, sym, ap, subst, ◌∙◌, arith}
use Rattle.std.specs.Prelude.{nat_le, filter}
use Rattle.std.specs.List.{AllByRecursion}
use Rattle.std.proofs.lemmas.Bool.{eq-eqb}
use Rattle.std.proofs.lemmas.Bool.Decides.{nat_tests}
use Rattle.rdb_types.specs.declared.values.Field.{Field}
use Rattle.rdo_ast.specs.Tree.{Name}
use Rattle.rdb_meaning.specs.declared.tables.Tables.{Tables}
use Rattle.rdb_meaning.specs.Contents.{fields_of, class_of}
use Rattle.line_view.specs.Knowledge.{Lines}
use Rattle.catalog_lines.specs.declared.line.RelationLine.{RelationLine}
use Rattle.catalog_lines.specs.declared.line.CatalogLine.{CatalogLine}
use Rattle.catalog_lines.specs.declared.line.CatalogLine.TheVariants.{Relation, Global, Field as FieldOf, Index}
use Rattle.catalog.specs.declared.directory.PlacedLine.{PlacedLine}
use Rattle.catalog.specs.declared.directory.Directory.{Directory}
use Rattle.catalog.specs.declared.reading.Catalog.{Catalog}
use Rattle.catalog.specs.Directory.{directory}
use Rattle.catalog.specs.Reading.{line_keys}
use Rattle.sound_lines.specs.Contents.{versions_in, HaveRows}
use Rattle.sound_lines.specs.Sound.{relation_in, longest_key, IsSoundRelation, IsSoundLine}
use Rattle.line_faults.specs.Catalog.{is_sound_relation, is_sound_line, unsound_in, unsound}
use Rattle.faultless_databases.proofs.Alike.{fields_alike}
use Rattle.faultless_databases.proofs.Areas.{HasRelation, all_have_relations}
use Rattle.faultless_databases.proofs.Standing.{IsSoundOver}

at_most : (a b : ℕ) → a ≤ b → nat_le a b ≡ true
at_most a b low = grind (arith, nat_tests)

relation_sound : (r : RelationLine) (fields : List Field) → IsSoundRelation r fields → is_sound_relation r fields ≡ true
relation_sound r fields is =
    let class = eq-eqb r.class (class_of fields) is.class in
    let count = at_most r.version (length fields) is.version in
    λ i. class i && (is.versions i && count i)

none_unsound : (t : Tables) (ps : List PlacedLine) → AllByRecursion (λ p. is_sound_line t p.line ≡ true) ps → unsound_in t ps ≡ []
none_unsound t [] each = refl
none_unsound t (p ∷ ps) each =
    ap (λ b. line_keys (cond (not b) (p ∷ filter (λ q. not (is_sound_line t q.line)) ps) (filter (λ q. not (is_sound_line t q.line)) ps))) each.0
    ∙ none_unsound t ps each.1

-- soundness is asked of the catalog's relations, which have no rows
module _ (all : Lines) (versions : List (Name × ℕ)) (d : Directory) (c t : Tables) (have : HaveRows all versions c.relations t.relations) where
  fields : (area : ℕ) → fields_of (relation_in area t.relations) ≡ fields_of (relation_in area c.relations)
  fields area = sym (fields_alike all versions area c.relations t.relations have)

  line_sound : (line : CatalogLine) → HasRelation d c line → IsSoundLine all t line → is_sound_line c line ≡ true
  line_sound (Relation r) has is = subst (λ (fs : List Field). is_sound_relation r fs ≡ true) (fields r.area) (relation_sound r (fields_of (relation_in r.area t.relations)) is)
  line_sound (Global g) has is = refl
  line_sound (FieldOf f) has is = refl
  line_sound (Index x) has is =
      let short = at_most (longest_key x.fields (fields_of (relation_in x.relation c.relations))) 120 (subst (λ (fs : List Field). longest_key x.fields fs ≤ 120) (fields x.relation) is.short) in
      λ i. has i && short i

  lines_sound : (ps : List PlacedLine) → AllByRecursion (λ p. HasRelation d c p.line) ps → AllByRecursion (λ p. IsSoundLine all t p.line) ps → AllByRecursion (λ p. is_sound_line c p.line ≡ true) ps
  lines_sound [] have_relations things = tt
  lines_sound (p ∷ ps) have_relations things = (line_sound p.line have_relations.0 things.0, lines_sound ps have_relations.1 things.1)

pub no_line_unsound : (all : Lines) (c : Catalog) → IsSoundOver all c → unsound c ≡ []
no_line_unsound all c is = none_unsound c.tables c.lines
    (lines_sound all (versions_in c.lines) (directory c.lines) c.tables is.tables is.are.relations c.lines (all_have_relations all c is.decodes) is.things)
