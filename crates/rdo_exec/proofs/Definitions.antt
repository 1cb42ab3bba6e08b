-- The record of a definition or a deletion, over each sound map with which what is known agrees.
use Rattle.std.proofs.Common.{◌≡◌, inl, inr, ℕ, List, [], Some, None, Result, Ok, Err, refl, sym, ap, subst, ◌∙◌}
use Rattle.rdo_ast.specs.declared.reply.Reply.{Reply}
use Rattle.rdo_ast.specs.declared.reply.Reply.TheVariants as r
use Rattle.rdo_ast.specs.declared.reply.Standing.{Standing}
use Rattle.rdo_ast.specs.Tree.{Command, Uttered, said, invoke, start_read_only, start_read_write, commit, rollback, finish, back_up, perform, define_field, define_relation, define_index, delete_relation, delete_index}
use Rattle.rdb_meaning.specs.declared.tables.Tables.{Tables}
use Rattle.rdb_meaning.specs.Checks.{Refusal}
use Rattle.rdb_meaning.specs.Defining.{with_field, with_relation, with_index, without_relation, without_index}
use Rattle.rdb_meaning.specs.Meaning.{unless, doing, command_refusal, after, Does}
use Rattle.line_view.specs.declared.need.Need.{Need}
use Rattle.line_view.specs.declared.stop.Stop.{Stop}
use Rattle.line_view.specs.declared.stop.Stop.TheVariants as stop
use Rattle.line_view.specs.Knowledge.{Knowledge, Lines, IsInOrder, Agrees}
use Rattle.line_view.specs.Held.{Held, knows}
use Rattle.line_view.specs.Writes.{laid_all}
use Rattle.line_view.specs.Stops.{Answers, Lacks}
use Rattle.catalog.specs.declared.reading.Catalog.{Catalog}
use Rattle.sound_changes.specs.Standing.{IsSoundAs}
use Rattle.sound_changes.proofs.AllDone.{is_sound, are_tables}
use Rattle.catalog.specs.Reading.{catalog_area}
use Rattle.catalog_definitions.specs.Causes.{catalog_room}
use Rattle.statement_view.specs.Over.{Over, Stands, laid_over, all_rooms, AreRoomsKnown}
use Rattle.row_writes.specs.Rows.{IsSoundView}
use Rattle.view_stages.proofs.Ending.{begins}
use Rattle.deleted_areas.specs.schema_writes.declared.stop.SchemaRefusal.{SchemaRefusal}
use Rattle.deleted_areas.specs.schema_writes.declared.stop.SchemaRefusal.TheVariants.{Refused, NoRoom, Full}
use Rattle.deleted_areas.specs.schema_writes.Stop.{SchemaStop}
use Rattle.deleted_areas.specs.schema_writes.Definitions.{IsCarriedOut, IsNotDefined, Defines}
use Rattle.deleted_areas.specs.schema_writes.Deletions.{Deletes}
use Rattle.sound_maps.specs.Maps.{IsSoundWith}
use Rattle.session_jobs.specs.declared.jobs.Found.{Found}
use Rattle.rdo_exec.specs.Answers.{answer_of}
use Rattle.rdo_exec.specs.Ways.{IsDefining}
use Rattle.rdo_exec.specs.Coming.{IsCatalogOfKnown, Comes}
use Rattle.rdo_exec.specs.Defined.{IsMade, IsUnmade, IsWritten, of_deletion}
use Rattle.rdb_meaning.specs.Contents.{relation_named}
use Rattle.rdo_ast.specs.declared.syntax.IndexDefinition.{IndexDefinition}
use Rattle.index_writes.specs.Definition.{IsNotIndexed, DefinesIndex}
use Rattle.rdo_exec.specs.Left.{IsLeftOver, IsLeft, IsElsewhere, no_room, no_index_room, full_index, astray}
use Rattle.rdo_exec.proofs.Answered.{says_nothing, left, answer_comes}

-- ---- what the meaning is

does_define : (word : List ℕ) (command : Command) (standing : Standing) (t : Tables) → IsDefining command → command_refusal word command standing t ≡ None →
    Does word standing (said command) [] t (r.Done []) (after command t) standing
does_define word (define_field n type) standing t is free = ap (λ o. unless o t standing [] (doing (with_field n type t) standing [])) free
does_define word (define_relation n fs) standing t is free = ap (λ o. unless o t standing [] (doing (with_relation n fs t) standing [])) free
does_define word (define_index d) standing t is free = ap (λ o. unless o t standing [] (doing (with_index d t) standing [])) free
does_define word (delete_relation n) standing t is free = ap (λ o. unless o t standing [] (doing (without_relation n t) standing [])) free
does_define word (delete_index n) standing t is free = ap (λ o. unless o t standing [] (doing (without_index n t) standing [])) free
does_define word (invoke text) standing t is free = absurd is
does_define word start_read_only standing t is free = absurd is
does_define word (start_read_write wait rs) standing t is free = absurd is
does_define word commit standing t is free = absurd is
does_define word rollback standing t is free = absurd is
does_define word finish standing t is free = absurd is
does_define word (back_up n) standing t is free = absurd is
does_define word (perform a) standing t is free = absurd is

does_refuse : (word : List ℕ) (command : Command) (standing : Standing) (t : Tables) (reply : Reply) → IsDefining command → command_refusal word command standing t ≡ Some reply →
    Does word standing (said command) [] t reply t standing
does_refuse word (define_field n type) standing t reply is refuses = ap (λ o. unless o t standing [] (doing (with_field n type t) standing [])) refuses
does_refuse word (define_relation n fs) standing t reply is refuses = ap (λ o. unless o t standing [] (doing (with_relation n fs t) standing [])) refuses
does_refuse word (define_index d) standing t reply is refuses = ap (λ o. unless o t standing [] (doing (with_index d t) standing [])) refuses
does_refuse word (delete_relation n) standing t reply is refuses = ap (λ o. unless o t standing [] (doing (without_relation n t) standing [])) refuses
does_refuse word (delete_index n) standing t reply is refuses = ap (λ o. unless o t standing [] (doing (without_index n t) standing [])) refuses
does_refuse word (invoke text) standing t reply is refuses = absurd is
does_refuse word start_read_only standing t reply is refuses = absurd is
does_refuse word (start_read_write wait rs) standing t reply is refuses = absurd is
does_refuse word commit standing t reply is refuses = absurd is
does_refuse word rollback standing t reply is refuses = absurd is
does_refuse word finish standing t reply is refuses = absurd is
does_refuse word (back_up n) standing t reply is refuses = absurd is
does_refuse word (perform a) standing t reply is refuses = absurd is

-- a refusal that isn't the language's
abbrev pub IsUnasked : SchemaRefusal → Type 0
IsUnasked (Refused reply) = ⊥
IsUnasked NoRoom = Unit {0}
IsUnasked Full = Unit {0}

-- the end of a deletion as that of a definition
as_definition : (A : Unit {0} → Type 0) (B : Need → Type 0) (o : Refusal) (base : Held) (end : Result (Unit {0}) (Stop Reply)) → Answers A B (λ key. ⊥) (λ reply. o ≡ Some reply) end → Answers A B (λ key. ⊥) (IsNotDefined base o) (of_deletion end)
as_definition A B o base (Ok done) h = h
as_definition A B o base (Err (stop.Missing need)) h = h
as_definition A B o base (Err (stop.Bad key)) h = h
as_definition A B o base (Err stop.NoMemory) h = h
as_definition A B o base (Err (stop.Own reply)) h = h

-- ---- the record

-- the meaning refuses so over each sound map that has this catalog
abbrev pub Agree : Catalog → (Tables → Refusal) → (Tables → Refusal) → Type 0
Agree c f g = (all : Lines) (t : Tables) → IsSoundAs all c t → f t ≡ g t

module _ (word : List ℕ) (standing : Standing) (command : Command) (c : Catalog) (known : Knowledge) (decodes : IsCatalogOfKnown known c) (is : IsDefining command) where
  abbrev item : Uttered
  item = said command

  sound_as : (all : Lines) (t : Tables) → IsSoundWith all t → Agrees known all → IsSoundAs all c t
  sound_as all t sound agrees = begins known c all t sound.0 agrees (decodes all agrees) sound.1 sound.2

  -- it is refused by what the catalog has
  pub barred_definition : (reply : Reply) → ((all : Lines) (t : Tables) → IsSoundAs all c t → command_refusal word command standing t ≡ Some reply) → Comes word standing item known (answer_of reply standing)
  barred_definition reply refuses = answer_comes word standing item known reply standing (λ all t sound agrees. record {
    then = t;
    does = does_refuse word command standing t reply is (refuses all t (sound_as all t sound agrees));
    stands = sound;
  })

  module _ (refusal : Tables → Refusal) (old new : Over) (base : knows old.base ≡ known) (none : old.lines ≡ []) (stands : (all : Lines) → IsInOrder all → Agrees known all → Stands old all)
      (same : Agree c refusal (command_refusal word command standing)) where
    seen : (all : Lines) (t : Tables) → IsSoundWith all t → Agrees known all → IsSoundView old c t all
    seen all t sound agrees = record {
      stands = stands all sound.0 agrees;
      sound = subst (λ ls. IsSoundAs (laid_over ls all) c t) (sym none) (sound_as all t sound agrees);
    }

    made : (f : Found) → IsMade new standing f → ((all : Lines) (t : Tables) → IsSoundWith all t → Agrees known all → IsCarriedOut new (refusal t) (after command t) all) → Comes word standing item known f
    made f so out = subst (λ (x : Found). Comes word standing item known x) (sym so.is) (record {
      usual = refl;
      once = tt;
      over = λ all t sound agrees. let h = out all t sound agrees in
          let behind : IsSoundAs (laid_all so.writes all) h.catalog (after command t) = subst (λ (x : Lines). IsSoundAs x h.catalog (after command t)) (sym (so.laid all)) (h.behind).sound in
          record {
            then = after command t;
            does = does_define word command standing t is (sym (same all t (sound_as all t sound agrees)) ∙ h.unrefused);
            stands = (behind.sorted, is_sound (laid_all so.writes all) h.catalog (after command t) behind, are_tables (laid_all so.writes all) h.catalog (after command t) behind);
          };
    })

    refused_so : (reply : Reply) → ((all : Lines) (t : Tables) → IsSoundWith all t → Agrees known all → refusal t ≡ Some reply) → Comes word standing item known (answer_of reply standing)
    refused_so reply some = answer_comes word standing item known reply standing (λ all t sound agrees. record {
      then = t;
      does = does_refuse word command standing t reply is (sym (same all t (sound_as all t sound agrees)) ∙ some all t sound agrees);
      stands = sound;
    })

    module _ (free : Tables → Type 0) (own : Lines → Tables → SchemaRefusal → Type 0) (tells : (all : Lines) (t : Tables) (reply : Reply) → own all t (Refused reply) → refusal t ≡ Some reply)
        (causes : (why : SchemaRefusal) (all : Lines) (t : Tables) → Agrees known all → IsUnasked why → own all t why → IsLeftOver word standing item known all t) where
      unmade : (why : SchemaRefusal) (f : Found) → IsUnmade why standing f → ((all : Lines) (t : Tables) → IsSoundWith all t → Agrees known all → own all t why) → Comes word standing item known f
      unmade (Refused reply) f (inl so) h = subst (λ (x : Found). Comes word standing item known x) (sym so) (refused_so reply (λ all t sound agrees. tells all t reply (h all t sound agrees)))
      unmade (Refused reply) f (inr so) h = says_nothing word standing item known f so
      unmade NoRoom f so h = left word standing item known f so (λ all t sound agrees. causes NoRoom all t agrees tt (h all t sound agrees))
      unmade Full f so h = left word standing item known f so (λ all t sound agrees. causes Full all t agrees tt (h all t sound agrees))

      -- what a job comes to by what comes of its definition
      pub comes_of_definition : (end : Result (Unit {0}) SchemaStop) (f : Found) → IsWritten end new standing f →
          ((t : Tables) (all : Lines) → IsSoundView old c t all → Answers (λ u. IsCarriedOut new (refusal t) (after command t) all) (λ need. free t × Lacks (knows old.base) need) (λ key. ⊥) (own all t) end) →
          Comes word standing item known f
      comes_of_definition (Ok done) f (inl so) h = made f so (λ all t sound agrees. h t all (seen all t sound agrees))
      comes_of_definition (Ok done) f (inr so) h = says_nothing word standing item known f so
      comes_of_definition (Err (stop.Missing need)) f so h = subst (λ (x : Found). Comes word standing item known x) (sym so) (record {
        usual = tt;
        once = (tt, tt);
        over = λ all t sound agrees. (subst (λ (k : Knowledge). Lacks k need) base (h t all (seen all t sound agrees)).1, tt);
      })
      comes_of_definition (Err (stop.Bad key)) f so h = subst (λ (x : Found). Comes word standing item known x) (sym so) (record { usual = tt; once = tt; over = λ all t sound agrees. h t all (seen all t sound agrees) })
      comes_of_definition (Err stop.NoMemory) f so h = says_nothing word standing item known f so
      comes_of_definition (Err (stop.Own why)) f so h = unmade why f so (λ all t sound agrees. h t all (seen all t sound agrees))

    no_place : (why : SchemaRefusal) (all : Lines) (t : Tables) → Agrees known all → IsUnasked why → IsNotDefined old.base (refusal t) why → IsLeftOver word standing item known all t
    no_place (Refused reply) all t agrees asked h = absurd asked
    no_place NoRoom all t agrees asked h = no_room command refl is (subst (λ (k : Knowledge). AreRoomsKnown k catalog_area (catalog_room 0).class all_rooms) base h.1)
    no_place Full all t agrees asked h = absurd h

    pub comes_of_defines : (end : Result (Unit {0}) SchemaStop) (f : Found) → IsWritten end new standing f → Defines old new c refusal (after command) end → Comes word standing item known f
    comes_of_defines end f written defines = comes_of_definition (λ t. refusal t ≡ None) (λ all t. IsNotDefined old.base (refusal t)) (λ all t reply h. h) no_place end f written defines

    pub comes_of_deletes : (end : Result (Unit {0}) (Stop Reply)) (told : Result (Unit {0}) SchemaStop) (f : Found) → told ≡ of_deletion end → IsWritten told new standing f → Deletes old new c refusal (after command) end → Comes word standing item known f
    comes_of_deletes end told f same_end written deletes =
        comes_of_defines told f written
        (subst (Defines old new c refusal (after command)) (sym same_end)
        (λ t all view. as_definition (λ u. IsCarriedOut new (refusal t) (after command t) all) (λ need. (refusal t ≡ None) × Lacks (knows old.base) need) (refusal t) old.base end (deletes t all view)))

-- ---- why an index isn't defined

module _ (word : List ℕ) (standing : Standing) (c : Catalog) (known : Knowledge) (decodes : IsCatalogOfKnown known c) (d : IndexDefinition) (base : Held) (same : knows base ≡ known) where
  pub index_causes : (why : SchemaRefusal) (all : Lines) (t : Tables) → Agrees known all → IsUnasked why → IsNotIndexed base all c d t why → IsLeftOver word standing (said (define_index d)) known all t
  index_causes (Refused reply) all t agrees asked h = absurd asked
  index_causes NoRoom all t agrees asked h = no_index_room d c base refl (decodes all agrees) same h.1
  index_causes Full all t agrees asked h = full_index d c base refl (decodes all agrees) same h.1

-- it lacks a line that isn't its relation's
pub strays : (word : List ℕ) (standing : Standing) (c : Catalog) (known : Knowledge) → IsCatalogOfKnown known c → (d : IndexDefinition) (old new : Over) → knows old.base ≡ known → old.lines ≡ [] →
    ((all : Lines) → IsInOrder all → Agrees known all → Stands old all) → (end : Result (Unit {0}) SchemaStop) (need : Need) → end ≡ Err (stop.Missing need) → IsElsewhere (relation_named d.relation c.tables) need → DefinesIndex old new c d end →
    IsLeft word standing (said (define_index d)) known
strays word standing c known decodes d old new base none stands end need is elsewhere defines = λ all t sound agrees.
    let whole = begins known c all t sound.0 agrees (decodes all agrees) sound.1 sound.2 in
    let seen : IsSoundView old c t all = record { stands = stands all sound.0 agrees; sound = subst (λ ls. IsSoundAs (laid_over ls all) c t) (sym none) whole } in
    let said_so : DefinesIndex old new c d (Err (stop.Missing need)) = subst (DefinesIndex old new c d) is defines in
    astray d c need refl (decodes all agrees) (subst (λ (k : Knowledge). Lacks k need) base (said_so t all seen).1) elsewhere
