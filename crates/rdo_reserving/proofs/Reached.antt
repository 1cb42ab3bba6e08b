-- What refuses a change before its work reads the schema alone, so it is the same over a sound map and by its catalog.
use Rattle.std.proofs.Common.{◌≡◌, ℕ, ◌∷◌, [], ◌++◌, true, List, refl, ◌∙◌, sym, ap, Option, Some, None}
use Rattle.std.specs.Prelude.{option_map, if◌then◌else◌}
use Rattle.std.specs.FinMap.Entries.{find}
use Rattle.rdb_types.specs.Order.{chars_order}
use Rattle.rdb_types.specs.declared.values.FieldType.{FieldType}
use Rattle.rdo_ast.specs.declared.reply.Reply.TheVariants.{AreaFull, Exists}
use Rattle.rdo_ast.specs.declared.reply.Standing.{Standing}
use Rattle.rdo_ast.specs.declared.syntax.DefinedType.{DefinedType}
use Rattle.rdo_ast.specs.declared.syntax.DefinedType.TheVariants.{Own, BasedOn}
use Rattle.rdo_ast.specs.declared.syntax.FieldDefinition.{FieldDefinition}
use Rattle.rdo_ast.specs.declared.syntax.IndexDefinition.{IndexDefinition}
use Rattle.rdo_ast.specs.Tree.{Name, Command, invoke, start_read_only, start_read_write, commit, rollback, finish, back_up, perform, define_field, define_relation, define_index, delete_relation, delete_index, said}
use Rattle.rdb_meaning.specs.declared.tables.Relation.{Relation}
use Rattle.rdb_meaning.specs.declared.tables.Tables.{Tables}
use Rattle.rdb_meaning.specs.Contents.{relation_named}
use Rattle.rdb_meaning.specs.Checks.{or_else, needs_some, needs_none, use_of, reservation_refusal}
use Rattle.rdb_meaning.specs.Defining.{type_names, is_among, fields_names, index_fields_names, index_names}
use Rattle.rdb_meaning.specs.Meaning.{needs_read_write, reservations_of}
use Rattle.rdb_account.specs.Lawful.{Replaces, is_change}
use Rattle.line_view.specs.Knowledge.{Knowledge, Lines, Agrees}
use Rattle.catalog.specs.declared.reading.Catalog.{Catalog}
use Rattle.catalog.specs.Reading.{IsCatalogOf}
use Rattle.schema_alone.specs.Schema.{bare, OneSchema}
use Rattle.schema_alone.proofs.Same.{fields_same, refusal_same}
use Rattle.sound_lines.specs.Contents.{AreTablesWith}
use Rattle.sound_changes.proofs.Schemas.{catalogs_schema}
use Rattle.view_stages.proofs.Ending.{begins}
use Rattle.sound_maps.specs.Maps.{IsSoundWith}
use Rattle.session_jobs.specs.Jobs.{WhereItAgrees}
use Rattle.reached_changes.specs.Before.{refusal_before, takes_room}
use Rattle.reached_changes.proofs.Changes.{reached}
use Rattle.std.proofs.lemmas.Bool.{false≢true}

some-bare : (n : Name) (r : Option Relation) → needs_some n (option_map bare r) ≡ needs_some n r
some-bare n None = refl
some-bare n (Some r) = refl

none-bare : (n : Name) (r : Option Relation) → needs_none n (option_map bare r) ≡ needs_none n r
none-bare n None = refl
none-bare n (Some r) = refl

-- the tables t have the schema of the catalog's tables u
module _ (u t : Tables) (one : OneSchema u t) (globals : t.globals ≡ u.globals) (indexes : t.indexes ≡ u.indexes) where
  some-same : (n : Name) → needs_some n (relation_named n t) ≡ needs_some n (relation_named n u)
  some-same n = sym (some-bare n (relation_named n t)) ∙ (ap (λ (r : Option Relation). needs_some n r) (sym (one n)) ∙ some-bare n (relation_named n u))

  none-same : (n : Name) → needs_none n (relation_named n t) ≡ needs_none n (relation_named n u)
  none-same n = sym (none-bare n (relation_named n t)) ∙ (ap (λ (r : Option Relation). needs_none n r) (sym (one n)) ∙ none-bare n (relation_named n u))

  type-same : (kind : DefinedType) → type_names kind t ≡ type_names kind u
  type-same (Own type) = refl
  type-same (BasedOn g) = ap (λ (gs : List (Name × FieldType)). needs_some g (find chars_order g gs)) globals

  all-fields : (before : List Name) (fs : List FieldDefinition) → fields_names before fs t ≡ fields_names before fs u
  all-fields before [] = refl
  all-fields before (f ∷ fs) = λ i. or_else (if is_among f.name before then Some (Exists f.name) else None) (or_else (type-same f.kind i) (all-fields (before ++ f.name ∷ []) fs i))

  index-same : (d : IndexDefinition) → index_names d t ≡ index_names d u
  index-same d = λ i. or_else (needs_none d.name (find chars_order d.name (indexes i))) (or_else (some-same d.relation i) (index_fields_names [] d.fields (sym (fields_same u t one d.relation) i)))

  before-index : (standing : Standing) (d : IndexDefinition) → or_else (needs_read_write standing) (or_else (index_names d t) (reservation_refusal (reservations_of standing) (use_of true d.relation ∷ []))) ≡ or_else (needs_read_write standing) (or_else (index_names d u) (reservation_refusal (reservations_of standing) (use_of true d.relation ∷ [])))
  before-index standing d = λ i. or_else (needs_read_write standing) (or_else (index-same d i) (reservation_refusal (reservations_of standing) (use_of true d.relation ∷ [])))

  before-same : (word : List ℕ) (standing : Standing) (c : Command) → takes_room c ≡ true → refusal_before word c standing t ≡ refusal_before word c standing u
  before-same word standing (perform a) takes = sym (refusal_same u t one a standing)
  before-same word standing (define_field n type) takes = ap (λ (gs : List (Name × FieldType)). or_else (needs_read_write standing) (needs_none n (find chars_order n gs))) globals
  before-same word standing (define_relation n fs) takes = λ i. or_else (needs_read_write standing) (or_else (none-same n i) (all-fields [] fs i))
  before-same word standing (define_index d) takes = before-index standing d
  before-same word standing (invoke text) takes = absurd (false≢true takes)
  before-same word standing start_read_only takes = absurd (false≢true takes)
  before-same word standing (start_read_write wait rs) takes = absurd (false≢true takes)
  before-same word standing commit takes = absurd (false≢true takes)
  before-same word standing rollback takes = absurd (false≢true takes)
  before-same word standing finish takes = absurd (false≢true takes)
  before-same word standing (back_up n) takes = absurd (false≢true takes)
  before-same word standing (delete_relation n) takes = absurd (false≢true takes)
  before-same word standing (delete_index n) takes = absurd (false≢true takes)

changes : (c : Command) → takes_room c ≡ true → is_change (said c) ≡ true
changes (perform a) takes = takes
changes (define_field n type) takes = refl
changes (define_relation n fs) takes = refl
changes (define_index d) takes = refl
changes (invoke text) takes = absurd (false≢true takes)
changes start_read_only takes = absurd (false≢true takes)
changes (start_read_write wait rs) takes = absurd (false≢true takes)
changes commit takes = absurd (false≢true takes)
changes rollback takes = absurd (false≢true takes)
changes finish takes = absurd (false≢true takes)
changes (back_up n) takes = absurd (false≢true takes)
changes (delete_relation n) takes = absurd (false≢true takes)
changes (delete_index n) takes = absurd (false≢true takes)

-- the work of a change that its catalog lets pass is reached over each sound map that agrees with what is known
pub reached-over : (known : Knowledge) (catalog : Catalog) (standing : Standing) (c : Command) → ((all : Lines) → Agrees known all → IsCatalogOf all catalog) → ((word : List ℕ) → refusal_before word c standing catalog.tables ≡ None) → takes_room c ≡ true →
    (word : List ℕ) (limit : ℕ) → WhereItAgrees IsSoundWith known (λ t. Replaces word standing t (said c) (AreaFull limit))
reached-over known catalog standing c decodes none takes word limit = λ all t sound agrees.
    let as_it_is = begins known catalog all t sound.0 agrees (decodes all agrees) sound.1 sound.2 in
    let are : AreTablesWith all catalog t = as_it_is.are in
    reached word standing t c limit (before-same catalog.tables t (catalogs_schema all catalog t are) are.globals are.indexes word standing c takes ∙ none word) (changes c takes)
