-- What the meaning refuses in the tables of a catalog it refuses in those with rows, and nothing else.
use Rattle.std.proofs.Common.{◌≡◌, List, [], ◌∷◌, ◌++◌, Option, Some, None, refl, sym, ap, ◌∙◌, cond}
use Rattle.std.specs.Prelude.{option_map}
use Rattle.std.specs.FinMap.Entries.{find}
use Rattle.rdb_types.specs.declared.values.FieldType.{FieldType}
use Rattle.rdb_types.specs.Order.{chars_order}
use Rattle.rdo_ast.specs.Tree.{Name}
use Rattle.rdo_ast.specs.declared.reply.Reply.TheVariants.{Exists}
use Rattle.rdo_ast.specs.declared.syntax.FieldDefinition.{FieldDefinition}
use Rattle.rdo_ast.specs.declared.syntax.DefinedType.{DefinedType}
use Rattle.rdo_ast.specs.declared.syntax.DefinedType.TheVariants.{Own, BasedOn}
use Rattle.rdb_meaning.specs.declared.tables.Relation.{Relation as Rows}
use Rattle.rdb_meaning.specs.declared.tables.Index.{Index as IndexOf}
use Rattle.rdb_meaning.specs.declared.tables.Tables.{Tables}
use Rattle.rdb_meaning.specs.Contents.{relation_named}
use Rattle.rdb_meaning.specs.Checks.{Refusal, or_else, needs_some, needs_none}
use Rattle.rdb_meaning.specs.Execution.{area_of}
use Rattle.rdb_meaning.specs.Defining.{field_names, type_names, is_among, fields_names, relation_names}
use Rattle.line_view.specs.Knowledge.{Lines}
use Rattle.catalog.specs.declared.reading.Catalog.{Catalog}
use Rattle.schema_alone.specs.Schema.{bare}
use Rattle.sound_changes.specs.Standing.{IsSoundAs}
use Rattle.sound_changes.proofs.Schemas.{catalogs_schema}

abbrev pub Alike : Catalog → (Tables → Refusal) → Type 0
Alike c refusal = (all : Lines) (t : Tables) → IsSoundAs all c t → refusal c.tables ≡ refusal t

pub fields_alike : (c : Catalog) (n : Name) → Alike c (field_names n)
fields_alike c n all t sound = ap (λ (gs : List (Name × FieldType)). needs_none n (find chars_order n gs)) (sym sound.are.globals)

none_bare : (n : Name) (o : Option Rows) → needs_none n (option_map bare o) ≡ needs_none n o
none_bare n None = refl
none_bare n (Some r) = refl

some_bare : (n : Name) (o : Option Rows) → needs_some n (option_map bare o) ≡ needs_some n o
some_bare n None = refl
some_bare n (Some r) = refl

type_alike : (kind : DefinedType) (t u : Tables) → t.globals ≡ u.globals → type_names kind t ≡ type_names kind u
type_alike (Own type) t u same = refl
type_alike (BasedOn g) t u same = ap (λ (gs : List (Name × FieldType)). needs_some g (find chars_order g gs)) same

names_alike : (before : List Name) (fs : List FieldDefinition) (t u : Tables) → t.globals ≡ u.globals → fields_names before fs t ≡ fields_names before fs u
names_alike before [] t u same = refl
names_alike before (f ∷ fs) t u same =
    λ i. or_else (cond (is_among f.name before) (Some (Exists f.name)) None) (or_else (type_alike f.kind t u same i) (names_alike (before ++ f.name ∷ []) fs t u same i))

pub relations_alike : (c : Catalog) (n : Name) (fs : List FieldDefinition) → Alike c (relation_names n fs)
relations_alike c n fs all t sound =
    let one : needs_none n (relation_named n c.tables) ≡ needs_none n (relation_named n t) =
    sym (none_bare n (relation_named n c.tables)) ∙ ap (λ (o : Option Rows). needs_none n o) (catalogs_schema all c t sound.are n) ∙ none_bare n (relation_named n t) in
    let rest = names_alike [] fs c.tables t (sym sound.are.globals) in
    λ i. or_else (one i) (rest i)

-- ---- deletions

pub index_alike : (c : Catalog) (n : Name) → Alike c (λ t. needs_some n (find chars_order n t.indexes))
index_alike c n all t sound = ap (λ (es : List (Name × IndexOf)). needs_some n (find chars_order n es)) (sym sound.are.indexes)

pub relation_alike : (c : Catalog) (n : Name) → Alike c (λ t. needs_some n (relation_named n t))
relation_alike c n all t sound =
    sym (some_bare n (relation_named n c.tables)) ∙ ap (λ (o : Option Rows). needs_some n o) (catalogs_schema all c t sound.are n) ∙ some_bare n (relation_named n t)

pub area_bare : (o : Option Rows) → area_of (option_map bare o) ≡ area_of o
area_bare None = refl
area_bare (Some r) = refl
