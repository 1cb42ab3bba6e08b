-- A definition that was made, or why it stopped.
use Rattle.std.proofs.Common.{◌≡◌, ℕ, ◌+◌, true, false, cond, List, [], ◌∷◌, Option, Some, None, sym, ap, subst, ◌∙◌}
use Rattle.std.specs.Prelude.{Ok, Err, is_some, option_map}
use Rattle.std.proofs.lemmas.Option.{none-some}
use Rattle.rdb_types.specs.declared.values.FieldType.{FieldType}
use Rattle.rdo_ast.specs.Tree.{Name}
use Rattle.rdo_ast.specs.declared.reply.Reply.{Reply}
use Rattle.rdo_ast.specs.declared.syntax.FieldDefinition.{FieldDefinition}
use Rattle.rdb_meaning.specs.declared.tables.Tables.{Tables}
use Rattle.rdb_meaning.specs.Checks.{Refusal}
use Rattle.rdb_meaning.specs.Defining.{field_names, with_field, relation_names, with_relation}
use Rattle.line_view.specs.declared.need.Need.{Need}
use Rattle.line_view.specs.declared.need.Need.TheVariants as needs
use Rattle.line_view.specs.declared.stop.Stop.{Stop}
use Rattle.line_view.specs.declared.stop.Stop.TheVariants.{Missing, Bad, NoMemory, Own}
use Rattle.line_view.specs.declared.writes.Write.{Write}
use Rattle.line_view.specs.Knowledge.{Knowledge, Lines, Agrees}
use Rattle.line_view.specs.Held.{Held, knows}
use Rattle.line_view.specs.Stops.{Stops, Lacks}
use Rattle.line_view.specs.Writes.{laid_all}
use Rattle.catalog_lines.specs.declared.line.CatalogLine.{CatalogLine}
use Rattle.catalog.specs.declared.reading.Catalog.{Catalog}
use Rattle.catalog_definitions.specs.Causes.{catalog_room, rooms_from, first_unknown_room, IsNextRoom, StopsDefining}
use Rattle.catalog_definitions.specs.Written.{AreWritten, IsRelationDefinition, global_line, relation_lines}
use Rattle.catalog_definitions.specs.Leaving.{Leaves, Turns}
use Rattle.sound_changes.specs.Standing.{IsSoundAs}
use Rattle.sound_statements.proofs.Fields.{field_defined}
use Rattle.sound_statements.proofs.Relations.{relation_defined}
use Rattle.statement_view.specs.Over.{Over, Stands, laid_over, knows_over}
use Rattle.schema_writes.specs.Stop.{SchemaStop, TellsRoom, Tells}
use Rattle.schema_writes.specs.Definitions.{IsNotDefined, Defines}
use Rattle.schema_writes.proofs.Alike.{Alike, fields_alike, relations_alike}

abbrev pub Stays : Over → Over → Type 0
Stays old new = (first : Lines) → Stands old first → Stands new first

abbrev pub AllLaid : Over → Over → List Write → Type 0
AllLaid old new writes = (first : Lines) → Stands old first → laid_over new.lines first ≡ laid_all writes (laid_over old.lines first)

-- ---- it is made

-- the writes leave a sound map with the tables of the meaning
abbrev IsLawful : Over → Catalog → (Tables → Tables) → List Write → Type 0
IsLawful old c after writes = (all : Lines) (t : Tables) → IsSoundAs all c t → Agrees (knows_over old) all → (left : Leaves all writes (after c.tables)) → IsSoundAs (laid_all writes all) left.after (after t)

made : (old new : Over) (c : Catalog) (refusal : Tables → Refusal) (after : Tables → Tables) (writes : List Write) → Alike c refusal → IsLawful old c after writes → Stays old new → AllLaid old new writes →
    refusal c.tables ≡ None → Turns (knows_over old) c (after c.tables) writes → Defines old new c refusal after (Ok tt)
made old new c refusal after writes alike lawful stay laid none turns = λ t first view.
    let all = laid_over old.lines first in
    let left = turns all view.sound.sorted view.stands.agrees view.sound.decodes in
    record {
      unrefused = sym (alike all t view.sound) ∙ none;
      catalog = left.after;
      behind = record {
        stands = stay first view.stands;
        sound = subst (λ (l : Lines). IsSoundAs l left.after (after t)) (sym (laid first view.stands)) (lawful all t view.sound view.stands.agrees left);
      };
    }

module _ (old new : Over) (c : Catalog) (n : Name) (writes given : List Write) (same : given ≡ writes) (stay : Stays old new) (laid : AllLaid old new given) where
  pub field_made : (kind : FieldType) → field_names n c.tables ≡ None → AreWritten (knows_over old) 0 (global_line n kind ∷ []) writes → Turns (knows_over old) c (with_field n kind c.tables) writes →
      Defines old new c (field_names n) (with_field n kind) (Ok tt)
  field_made kind none written turns = made old new c (field_names n) (with_field n kind) writes (fields_alike c n) (λ all t sound agrees left. field_defined (knows_over old) all c t n kind writes sound agrees written left) stay (subst (AllLaid old new) same laid) none turns

  pub relation_made : (fs : List FieldDefinition) → IsRelationDefinition n fs → relation_names n fs c.tables ≡ None → AreWritten (knows_over old) 0 (relation_lines n fs c.tables) writes → Turns (knows_over old) c (with_relation n fs c.tables) writes →
      Defines old new c (relation_names n fs) (with_relation n fs) (Ok tt)
  relation_made fs definition none written turns =
      made old new c (relation_names n fs) (with_relation n fs) writes (relations_alike c n fs) (λ all t sound agrees left. relation_defined (knows_over old) all c t n fs writes sound agrees definition none written left) stay (subst (AllLaid old new) same laid) none turns

-- ---- it stops

abbrev asked : Option Need → Need → Need
asked (Some need) other = need
asked None other = other

-- what is named next is a room of the catalog
pub next_in : (known : Knowledge) (lines : List CatalogLine) (nth : ℕ) (need : Need) → IsNextRoom known (rooms_from nth lines) need → (k : ℕ) × (needs.Room (catalog_room k) ≡ need)
next_in known [] nth need is = absurd (none-some need is)
next_in known (l ∷ ls) nth need is =
    elim (is_some (known.room (catalog_room nth))) as (λ b. option_map needs.Room (cond b (first_unknown_room known (rooms_from (nth + 1) ls)) (Some (catalog_room nth))) ≡ Some need → (k : ℕ) × (needs.Room (catalog_room k) ≡ need)) [
      | true ↦ λ h. next_in known ls (nth + 1) need h
      | false ↦ λ h. (nth, ap (λ (o : Option Need). asked o need) h)
    ] is

abbrev IsStopped : Held → Refusal → SchemaStop → Type 0
IsStopped base refusal = Stops (λ need. (refusal ≡ None) × Lacks (knows base) need) (λ key. ⊥) (IsNotDefined base refusal)

told_room : (base : Held) (refusal : Refusal) (k : ℕ) (told : SchemaStop) → refusal ≡ None → TellsRoom base (catalog_room k) told → IsStopped base refusal told
told_room base refusal k (Missing need) none tells = (none, tells.0)
told_room base refusal k (Own reason) none tells = subst (IsNotDefined base refusal) (sym tells.0) (none, tells.1)
told_room base refusal k (Bad key) none tells = absurd tells
told_room base refusal k NoMemory none tells = absurd tells

told_stop : (base : Held) (known : Knowledge) (seen refusal : Refusal) (lines : List CatalogLine) (stop : Stop Reply) (told : SchemaStop) → seen ≡ refusal → StopsDefining known seen (rooms_from 0 lines) stop → Tells base stop told → IsStopped base refusal told
told_stop base known seen refusal lines (Missing need) told same said tells =
    let room = next_in known lines 0 need said.1 in
    told_room base refusal room.0 told (sym same ∙ said.0) (subst (λ (x : Need). Tells base (Missing x) told) (sym room.1) tells)
told_stop base known seen refusal lines (Bad key) told same said tells = absurd said
told_stop base known seen refusal lines NoMemory told same said tells = subst (IsStopped base refusal) (sym tells) tt
told_stop base known seen refusal lines (Own reply) told same said tells = subst (IsStopped base refusal) (sym tells) (sym same ∙ said)

module _ (old new : Over) (c : Catalog) (n : Name) (stop : Stop Reply) (told : SchemaStop) (tells : Tells old.base stop told) where
  pub field_stops : (kind : FieldType) → StopsDefining (knows_over old) (field_names n c.tables) (rooms_from 0 (global_line n kind ∷ [])) stop → Defines old new c (field_names n) (with_field n kind) (Err told)
  field_stops kind said = λ t first view.
      told_stop old.base (knows_over old) (field_names n c.tables) (field_names n t) (global_line n kind ∷ []) stop told (fields_alike c n (laid_over old.lines first) t view.sound) said tells

  pub relation_stops : (fs : List FieldDefinition) → StopsDefining (knows_over old) (relation_names n fs c.tables) (rooms_from 0 (relation_lines n fs c.tables)) stop → Defines old new c (relation_names n fs) (with_relation n fs) (Err told)
  relation_stops fs said = λ t first view.
      told_stop old.base (knows_over old) (relation_names n fs c.tables) (relation_names n fs t) (relation_lines n fs c.tables) stop told (relations_alike c n fs (laid_over old.lines first) t view.sound) said tells
