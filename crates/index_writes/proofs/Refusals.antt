-- What the catalog refuses of the definition of an index, and what its rows do.
use Rattle.std.proofs.Common.{◌≡◌, ℕ, ◌≤◌, Bool, true, false, cond, ◌&&◌, List, [], ◌∷◌, Some, None, refl, sym, ap, ◌∙◌, arith}
use Rattle.std.specs.Prelude.{nat_lt}
use Rattle.std.specs.List.{AllByRecursion}
use Rattle.std.specs.Ordering.{is_eq}
use Rattle.std.specs.declared.cmp.Ordering.TheVariants.{Less, Equal, Greater}
use Rattle.std.specs.FinMap.Entries.{find, put, by_order}
use Rattle.std.proofs.lemmas.Bool.Decides.{nat_tests}
use Rattle.rdb_types.specs.Order.{chars_order}
use Rattle.rdo_ast.specs.Tree.{Name}
use Rattle.rdo_ast.specs.declared.reply.Reply.{Reply}
use Rattle.rdo_ast.specs.declared.reply.Reply.TheVariants.{TooLong, Duplicate}
use Rattle.rdo_ast.specs.declared.syntax.IndexDefinition.{IndexDefinition}
use Rattle.rdb_meaning.specs.declared.tables.Relation.{Relation as Rows}
use Rattle.rdb_meaning.specs.declared.tables.Tables.{Tables}
use Rattle.rdb_meaning.specs.Contents.{no_tables, relation_named, fields_of, rows_of}
use Rattle.rdb_meaning.specs.Checks.{Refusal, or_else, needs_none}
use Rattle.rdb_meaning.specs.Defining.{positions_of, longest_key, keys_repeat, index_fields_names, index_names, index_refusal}
use Rattle.line_view.specs.Knowledge.{Lines}
use Rattle.catalog_lines.specs.declared.line.CatalogLine.{CatalogLine}
use Rattle.catalog_lines.specs.declared.line.CatalogLine.TheVariants.{Relation, Global, Field as FieldOf, Index}
use Rattle.catalog.specs.declared.directory.Directory.{Directory}
use Rattle.catalog.specs.declared.directory.PlacedLine.{PlacedLine}
use Rattle.catalog.specs.declared.reading.Catalog.{Catalog}
use Rattle.catalog.specs.Directory.{directory}
use Rattle.catalog.specs.Schema.{relation_fields, with_thing, tables_from}
use Rattle.catalog.specs.Reading.{IsCatalogOf}
use Rattle.catalog_definitions.proofs.KeyPlaces.{first_none}
use Rattle.schema_alone.proofs.Same.{fields_same}
use Rattle.sound_changes.specs.Standing.{IsSoundAs}
use Rattle.sound_changes.proofs.Schemas.{catalogs_schema}
use Rattle.schema_writes.proofs.Alike.{relation_alike}
use Rattle.index_writes.specs.Definition.{definition_refusal}

-- ---- the catalog has no rows

abbrev NoRows : List (Name × Rows) → Type 0
NoRows = AllByRecursion (λ (e : Name × Rows). e.1.rows ≡ [])

put_none : (n : Name) (v : Rows) (es : List (Name × Rows)) → v.rows ≡ [] → NoRows es → NoRows (put chars_order n v es)
put_none n v [] is each = (is, tt)
put_none n v (e ∷ es) is each =
    elim (chars_order n e.0) as (λ o. NoRows (by_order o ((n, v) ∷ e ∷ es) ((e.0, v) ∷ es) (e ∷ put chars_order n v es))) [
      | Less ↦ (is, each)
      | Equal ↦ (is, each.1)
      | Greater ↦ (each.0, put_none n v es is each.1)
    ]

thing_none : (d : Directory) (line : CatalogLine) (t : Tables) → NoRows t.relations → NoRows (with_thing d line t).relations
thing_none d (Relation r) t each = put_none r.name (record { area = r.area; fields = relation_fields r.area d; rows = [] }) t.relations refl each
thing_none d (Global g) t each = each
thing_none d (FieldOf f) t each = each
thing_none d (Index x) t each = each

things_none : (d : Directory) (ps : List PlacedLine) (t : Tables) → NoRows t.relations → NoRows (tables_from d t ps).relations
things_none d [] t each = each
things_none d (p ∷ ps) t each = things_none d ps (with_thing d p.line t) (thing_none d p.line t each)

found_none : (n : Name) (es : List (Name × Rows)) → NoRows es → rows_of (find chars_order n es) ≡ []
found_none n [] each = refl
found_none n (e ∷ es) each = elim (is_eq (chars_order n e.0)) as (λ b. rows_of (cond b (Some e.1) (find chars_order n es)) ≡ []) [ true ↦ each.0 | false ↦ found_none n es each.1 ]

no_rows : (all : Lines) (c : Catalog) (n : Name) → IsCatalogOf all c → rows_of (relation_named n c.tables) ≡ []
no_rows all c n is = ap (λ (t : Tables). rows_of (relation_named n t)) is.tables ∙ found_none n (tables_from (directory c.lines) no_tables c.lines).relations (things_none (directory c.lines) c.lines no_tables tt)

-- ---- one refusal

-- how the refusal of keys is put together
abbrev keys_refusal : Bool → Bool → Bool → Name → Refusal
keys_refusal is_long is_unique repeat name = cond is_long (Some TooLong) (cond (is_unique && repeat) (Some (Duplicate name)) None)

long_alone : (is_long is_unique repeat : Bool) (name : Name) (reply : Reply) → keys_refusal is_long is_unique false name ≡ Some reply → keys_refusal is_long is_unique repeat name ≡ Some reply
long_alone true is_unique repeat name reply is = is
long_alone false true repeat name reply is = let bad : ⊥ = cc in absurd bad
long_alone false false repeat name reply is = let bad : ⊥ = cc in absurd bad

not_long : (is_long : Bool) (rest : Refusal) → cond is_long (Some TooLong) rest ≡ None → is_long ≡ false
not_long true rest is = let bad : ⊥ = cc in absurd bad
not_long false rest is = refl

once_for_all : (is_unique repeat : Bool) (name : Name) → (is_unique ≡ true → repeat ≡ false) → keys_refusal false is_unique repeat name ≡ None
once_for_all true repeat name once = ap (λ b. keys_refusal false true b name) (once refl)
once_for_all false repeat name once = refl

short_enough : (n : ℕ) → nat_lt 120 n ≡ false → n ≤ 120
short_enough n is = grind (arith, nat_tests)

-- the first refusal is the second where there is no first
second : (a b : Refusal) → a ≡ None → or_else a b ≡ b
second a b none = ap (λ (x : Refusal). or_else x b) none

some_of : (a b c : Refusal) (reply : Reply) → (b ≡ Some reply → c ≡ Some reply) → or_else a b ≡ Some reply → or_else a c ≡ Some reply
some_of (Some r) b c reply because is = is
some_of None b c reply because is = because is

-- ---- in the tables with their rows

module _ (all : Lines) (c : Catalog) (t : Tables) (d : IndexDefinition) (sound : IsSoundAs all c t) where
  pub fields_alike : fields_of (relation_named d.relation c.tables) ≡ fields_of (relation_named d.relation t)
  fields_alike = fields_same c.tables t (catalogs_schema all c t sound.are) d.relation

  names_alike : index_names d c.tables ≡ index_names d t
  names_alike =
      let indexes : c.tables.indexes ≡ t.indexes = sym sound.are.indexes in
      let some = relation_alike c d.relation all t sound in
      λ i. or_else (needs_none d.name (find chars_order d.name (indexes i))) (or_else (some i) (index_fields_names [] d.fields (fields_alike i)))

  -- whether the longest possible key is too long
  abbrev is_long : Tables → Bool
  is_long u = nat_lt 120 (longest_key d.fields (fields_of (relation_named d.relation u)))

  abbrev repeat : Tables → Bool
  repeat u = keys_repeat (positions_of d.fields (fields_of (relation_named d.relation u))) (rows_of (relation_named d.relation u))

  long_alike : is_long c.tables ≡ is_long t
  long_alike = ap (λ fs. nat_lt 120 (longest_key d.fields fs)) fields_alike

  never_repeat : repeat c.tables ≡ false
  never_repeat = ap (keys_repeat (positions_of d.fields (fields_of (relation_named d.relation c.tables)))) (no_rows all c d.relation sound.decodes)

  -- what the catalog refuses, the meaning does
  pub refused_too : (reply : Reply) → definition_refusal d c.tables ≡ Some reply → definition_refusal d t ≡ Some reply
  refused_too reply is =
      ap (λ (r : Refusal). or_else r (index_refusal d t)) (sym names_alike)
      ∙ some_of (index_names d c.tables) (index_refusal d c.tables) (index_refusal d t) reply
      (λ h. ap (λ b. keys_refusal b d.unique (repeat t) d.name) (sym long_alike)
      ∙ long_alone (is_long c.tables) d.unique (repeat t) d.name reply (ap (λ b. keys_refusal (is_long c.tables) d.unique b d.name) (sym never_repeat) ∙ h)) is

  module _ (none : definition_refusal d c.tables ≡ None) where
    parts : (index_names d c.tables ≡ None) × (index_refusal d c.tables ≡ None)
    parts = first_none (index_names d c.tables) (index_refusal d c.tables) none

    pub no_names : index_names d t ≡ None
    no_names = sym names_alike ∙ parts.0

    not_too_long : is_long t ≡ false
    not_too_long = sym long_alike ∙ not_long (is_long c.tables) _ parts.1

    pub short : longest_key d.fields (fields_of (relation_named d.relation t)) ≤ 120
    short = short_enough (longest_key d.fields (fields_of (relation_named d.relation t))) not_too_long

    -- no two rows have one key where the index is unique
    pub unrefused : (d.unique ≡ true → repeat t ≡ false) → index_refusal d t ≡ None
    unrefused once = ap (λ b. keys_refusal b d.unique (repeat t) d.name) not_too_long ∙ once_for_all d.unique (repeat t) d.name once

    pub all_unrefused : (d.unique ≡ true → repeat t ≡ false) → definition_refusal d t ≡ None
    all_unrefused once = second (index_names d t) (index_refusal d t) no_names ∙ unrefused once

    -- two rows do
    pub duplicate : d.unique ≡ true → repeat t ≡ true → definition_refusal d t ≡ Some (Duplicate d.name)
    duplicate is_unique repeats =
        second (index_names d t) (index_refusal d t) no_names
        ∙ (λ i. keys_refusal (not_too_long i) (is_unique i) (repeats i) d.name)
