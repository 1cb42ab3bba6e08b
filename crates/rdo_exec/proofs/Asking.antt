-- That definitions and deletions may ask for the locks of what they came to.
use Rattle.std.proofs.Common.{◌≡◌, inl, inr, ℕ, Bool, true, false, List, [], ◌∷◌, Option, Some, None, Result, Ok, Err, refl, sym, ap, subst, ◌∙◌, nat_eq}
use Rattle.std.specs.Prelude.{◌||◌}
use Rattle.std.specs.FinMap.Entries.{find}
use Rattle.rdb_types.specs.Order.{chars_order}
use Rattle.rdo_ast.specs.declared.reply.Reply.{Reply}
use Rattle.rdo_ast.specs.declared.reply.Standing.{Standing}
use Rattle.rdo_ast.specs.declared.syntax.IndexDefinition.{IndexDefinition}
use Rattle.rdo_ast.specs.Tree.{Name, Command, said, define_index, delete_relation, delete_index}
use Rattle.rdb_meaning.specs.declared.tables.Index.{Index}
use Rattle.rdb_meaning.specs.declared.tables.Tables.{Tables}
use Rattle.rdb_meaning.specs.Contents.{relation_named, new_index_area}
use Rattle.rdb_meaning.specs.Checks.{Use, use_of, needs_some}
use Rattle.rdb_meaning.specs.Execution.{area_of}
use Rattle.rdb_meaning.specs.Meaning.{standing_refusal, index_uses}
use Rattle.rdb_meaning.specs.Usual.{is_refusal_of_means}
use Rattle.lock_needs.specs.declared.need.Need.{Need as LockNeed}
use Rattle.rdb_account.specs.AskedFor.{definition_asks, command_asks}
use Rattle.line_view.specs.declared.need.Need.{Need}
use Rattle.line_view.specs.declared.need.Need.TheVariants.{Line, Area, Room}
use Rattle.line_view.specs.declared.stop.Stop.{Stop}
use Rattle.line_view.specs.declared.stop.Stop.TheVariants as stop
use Rattle.line_view.specs.declared.writes.Write.{Write}
use Rattle.line_view.specs.Knowledge.{Knowledge, Lines, IsInOrder, Agrees}
use Rattle.catalog.specs.declared.reading.Catalog.{Catalog}
use Rattle.sound_changes.specs.Standing.{IsSoundAs}
use Rattle.sound_changes.proofs.Basics.{all_of}
use Rattle.sound_changes.proofs.Schemas.{catalogs_schema}
use Rattle.statement_view.specs.Over.{Over, Stands, laid_over, is_written}
use Rattle.statement_view.specs.Areas.{is_among, IsNeedOf, WritesOf, KeepsTo}
use Rattle.row_writes.specs.Rows.{IsSoundView}
use Rattle.row_writes.proofs.AreaLists.{Wider, one_more_area, one_of, need_wider, keeps_wider}
use Rattle.view_stages.proofs.Ending.{begins}
use Rattle.deleted_areas.specs.schema_writes.declared.stop.SchemaRefusal.{SchemaRefusal}
use Rattle.deleted_areas.specs.schema_writes.declared.stop.SchemaRefusal.TheVariants.{Refused, NoRoom, Full}
use Rattle.deleted_areas.specs.schema_writes.Stop.{SchemaStop}
use Rattle.deleted_areas.specs.schema_writes.Areas.{SchemaKeeps, NoOthers, AreOfIndex, AreOfRelation}
use Rattle.deleted_areas.proofs.of_schema_writes.Alike.{index_alike, relation_alike}
use Rattle.index_writes.specs.Areas.{IndexKeeps}
use Rattle.used_areas.specs.Areas.{areas_read, areas_changed}
use Rattle.used_areas.proofs.More.{changed_is_read}
use Rattle.used_areas.proofs.Same.{read_same}
use Rattle.deleted_areas.proofs.Deleted.{relation_deleted}
use Rattle.deleted_areas.proofs.OwnRelation.{index_used}
use Rattle.asked_areas.proofs.Jobs.{definition_asks_for, definition_writes, index_asks, index_writes}
use Rattle.sound_maps.specs.Maps.{IsSoundWith}
use Rattle.session_jobs.specs.declared.jobs.Found.{Found}
use Rattle.session_jobs.specs.Asked.{is_definition}
use Rattle.rdo_exec.specs.Answers.{answer_unless}
use Rattle.rdo_exec.specs.Coming.{IsCatalogOfKnown, Asks}
use Rattle.rdo_exec.specs.Defined.{IsUnmade, IsWritten, of_deletion}
use Rattle.rdo_exec.specs.Areas.{FoundIn, IsReadOf, ReadsOf}
use Rattle.rdo_exec.proofs.Locks.{found_asks}

-- ---- by the areas to which the work keeps

module _ (read changed : List ℕ) where
  answer_stays : (limits : Bool) (reply : Reply) (standing : Standing) → FoundIn read changed (answer_unless limits reply standing)
  answer_stays true reply standing = tt
  answer_stays false reply standing = tt

  unmade_stays : (why : SchemaRefusal) (standing : Standing) (f : Found) → IsUnmade why standing f → FoundIn read changed f
  unmade_stays (Refused reply) standing f (inl is) = subst (FoundIn read changed) (sym is) (answer_stays (is_refusal_of_means reply) reply standing)
  unmade_stays (Refused reply) standing f (inr is) = subst (FoundIn read changed) (sym is) tt
  unmade_stays NoRoom standing f is = subst (FoundIn read changed) (sym is) tt
  unmade_stays Full standing f is = subst (FoundIn read changed) (sym is) tt

  module _ (old new : Over) (none : old.lines ≡ []) where
    write_among : WritesOf changed old new → (w : Write) → is_written new.lines w.key ≡ true → is_among changed w.key.area ≡ true
    write_among writes w is = elim (writes w.key is) [
      | inl before ↦ (let unwritten : is_written old.lines w.key ≡ false = ap (λ lines. is_written lines w.key) none in let bad : ⊥ = cc in absurd bad)
      | inr among ↦ among
    ]

    written_stays : (standing : Standing) (end : Result (Unit {0}) SchemaStop) (f : Found) → IsWritten end new standing f → KeepsTo read changed old new end → FoundIn read changed f
    written_stays standing (Ok done) f (inl is) keeps =
        subst (FoundIn read changed) (sym is.is) (all_of (λ (w : Write). is_written new.lines w.key ≡ true) (λ (w : Write). is_among changed w.key.area ≡ true) (write_among keeps) is.writes is.written)
    written_stays standing (Ok done) f (inr is) keeps = subst (FoundIn read changed) (sym is) tt
    written_stays standing (Err (stop.Missing need)) f is keeps = subst (FoundIn read changed) (sym is) (keeps, tt)
    written_stays standing (Err (stop.Bad key)) f is keeps = subst (FoundIn read changed) (sym is) tt
    written_stays standing (Err stop.NoMemory) f is keeps = subst (FoundIn read changed) (sym is) tt
    written_stays standing (Err (stop.Own why)) f is keeps = unmade_stays why standing f is

  told_keeps : (old new : Over) (end : Result (Unit {0}) (Stop Reply)) → KeepsTo read changed old new end → KeepsTo read changed old new (of_deletion end)
  told_keeps old new (Ok done) keeps = keeps
  told_keeps old new (Err (stop.Missing need)) keeps = keeps
  told_keeps old new (Err (stop.Bad key)) keeps = tt
  told_keeps old new (Err stop.NoMemory) keeps = tt
  told_keeps old new (Err (stop.Own reply)) keeps = tt

-- ---- what is named

some_named : {A : Type 0} (n : Name) (o : Option A) → needs_some n o ≡ None → (x : A) × (o ≡ Some x)
some_named n (Some x) none = (x, refl)
some_named n None none = let bad : ⊥ = cc in absurd bad

wider_behind : (area : ℕ) (small big : List ℕ) → Wider small big → Wider (area ∷ small) (area ∷ big)
wider_behind area small big wider a h = elim (nat_eq a area) as (λ b. (b || is_among small a) ≡ true → (b || is_among big a) ≡ true) [
  | true ↦ λ k. refl
  | false ↦ λ k. wider a k
] h

-- ---- by a catalog

module _ (standing : Standing) (c : Catalog) (known : Knowledge) (decodes : IsCatalogOfKnown known c) where
  sound_as : (all : Lines) (t : Tables) → IsSoundWith all t → Agrees known all → IsSoundAs all c t
  sound_as all t sound agrees = begins known c all t sound.0 agrees (decodes all agrees) sound.1 sound.2

  module _ (old new : Over) (none : old.lines ≡ []) (stands : (all : Lines) → IsInOrder all → Agrees known all → Stands old all) where
    seen : (all : Lines) (t : Tables) → IsSoundWith all t → Agrees known all → IsSoundView old c t all
    seen all t sound agrees = record {
      stands = stands all sound.0 agrees;
      sound = subst (λ ls. IsSoundAs (laid_over ls all) c t) (sym none) (sound_as all t sound agrees);
    }

    definition_asked : (command : Command) → standing_refusal command standing ≡ None → is_definition (said command) ≡ true → (us : Tables → List Use) → ((t : Tables) (lock : LockNeed) → command_asks t lock command ≡ definition_asks t lock (us t)) →
        (end : Result (Unit {0}) SchemaStop) (f : Found) → IsWritten end new standing f →
        ((all : Lines) (t : Tables) → IsSoundWith all t → Agrees known all → KeepsTo (1 ∷ areas_read t (us t)) (1 ∷ areas_changed t (us t)) old new end) → Asks standing (said command) known f
    definition_asked command free is us same end f written keeps = λ all t sound agrees.
        let read = 1 ∷ areas_read t (us t) in
        let changed = 1 ∷ areas_changed t (us t) in
        found_asks standing (said command) t read changed f
        (λ need of. definition_asks_for standing command t (us t) need free is (same t) of)
        (λ writes each. definition_writes standing command t (us t) writes free (same t) each)
        (written_stays read changed old new none standing end f written (keeps all t sound agrees))

    -- a definition names nothing that was there
    pub defined_asks : (command : Command) → standing_refusal command standing ≡ None → is_definition (said command) ≡ true → ((t : Tables) (lock : LockNeed) → command_asks t lock command ≡ definition_asks t lock []) →
        (end : Result (Unit {0}) SchemaStop) (f : Found) → IsWritten end new standing f → SchemaKeeps old new c NoOthers end → Asks standing (said command) known f
    defined_asks command free is same end f written keeps = definition_asked command free is (λ t. []) same end f written (λ all t sound agrees. keeps t all [] (seen all t sound agrees) refl)

    pub relation_asks : (n : Name) → standing_refusal (delete_relation n) standing ≡ None → needs_some n (relation_named n c.tables) ≡ None → (end : Result (Unit {0}) (Stop Reply)) (told : Result (Unit {0}) SchemaStop) (f : Found) → told ≡ of_deletion end →
        IsWritten told new standing f → SchemaKeeps old new c (AreOfRelation c n) end → Asks standing (said (delete_relation n)) known f
    relation_asks n free there end told f same written keeps =
        definition_asked (delete_relation n) free refl (λ t. use_of true n ∷ []) (λ t lock. refl) told f written (λ all t sound agrees.
        let areas = areas_changed t (use_of true n ∷ []) in
        let whole = sound_as all t sound agrees in
        let named = some_named n (relation_named n t) (sym (relation_alike c n all t whole) ∙ there) in
        subst (λ (e : Result (Unit {0}) SchemaStop). KeepsTo (1 ∷ areas) (1 ∷ areas) old new e) (sym same)
        (told_keeps (1 ∷ areas) (1 ∷ areas) old new end (keeps t all areas (seen all t sound agrees) (relation_deleted all c t n named.0 whole named.1))))

    pub index_goes_asks : (n : Name) → standing_refusal (delete_index n) standing ≡ None → needs_some n (find chars_order n c.tables.indexes) ≡ None → (end : Result (Unit {0}) (Stop Reply)) (told : Result (Unit {0}) SchemaStop) (f : Found) → told ≡ of_deletion end →
        IsWritten told new standing f → SchemaKeeps old new c (AreOfIndex n) end → Asks standing (said (delete_index n)) known f
    index_goes_asks n free there end told f same written keeps =
        definition_asked (delete_index n) free refl (λ t. index_uses (find chars_order n t.indexes) t) (λ t lock. refl) told f written (λ all t sound agrees.
        let us = index_uses (find chars_order n t.indexes) t in
        let whole = sound_as all t sound agrees in
        let named = some_named n (find chars_order n t.indexes) (sym (index_alike c n all t whole) ∙ there) in
        let area = (named.0).area in
        let used : is_among (areas_changed t us) area ≡ true = subst (λ (o : Option Index). is_among (areas_changed t (index_uses o t)) area ≡ true) (sym named.1) (index_used all c t n named.0 whole named.1) in
        let changed : Wider (area ∷ []) (areas_changed t us) = one_of area (areas_changed t us) used in
        subst (λ (e : Result (Unit {0}) SchemaStop). KeepsTo (1 ∷ areas_read t us) (1 ∷ areas_changed t us) old new e) (sym same)
        (told_keeps (1 ∷ areas_read t us) (1 ∷ areas_changed t us) old new end
        (keeps_wider (1 ∷ area ∷ []) (1 ∷ area ∷ []) (1 ∷ areas_read t us) (1 ∷ areas_changed t us) old new
        (wider_behind 1 (area ∷ []) (areas_read t us) (λ a h. changed_is_read t us a (changed a h)))
        (wider_behind 1 (area ∷ []) (areas_changed t us) changed)
        end (keeps t all (area ∷ []) (seen all t sound agrees) (named.0, named.1, refl)))))

    -- ---- DEFINE INDEX, where no line of the new area is lacked

    need_narrower : (read reads changed : List ℕ) (need : Need) → IsNeedOf read changed need → IsReadOf reads need → IsNeedOf reads changed need
    need_narrower read reads changed (Line key) of among = among
    need_narrower read reads changed (Area area) of among = among
    need_narrower read reads changed (Room room) of among = of

    narrower : (read reads changed : List ℕ) (end : Result (Unit {0}) SchemaStop) → KeepsTo read changed old new end → ReadsOf reads end → KeepsTo reads changed old new end
    narrower read reads changed (Ok done) keeps among = keeps
    narrower read reads changed (Err (stop.Missing need)) keeps among = need_narrower read reads changed need keeps among
    narrower read reads changed (Err (stop.Bad key)) keeps among = tt
    narrower read reads changed (Err stop.NoMemory) keeps among = tt
    narrower read reads changed (Err (stop.Own why)) keeps among = tt

    pub index_defined_asks : (d : IndexDefinition) → standing_refusal (define_index d) standing ≡ None → (end : Result (Unit {0}) SchemaStop) (f : Found) → IsWritten end new standing f → ReadsOf (areas_read c.tables (use_of false d.relation ∷ [])) end →
        IndexKeeps old new c d end → Asks standing (said (define_index d)) known f
    index_defined_asks d free end f written reads keeps = λ all t sound agrees.
        let us = use_of false d.relation ∷ [] in
        let whole = sound_as all t sound agrees in
        let changed = new_index_area t ∷ 1 ∷ [] in
        let here : ReadsOf (areas_read t us) end = subst (λ (areas : List ℕ). ReadsOf areas end) (read_same c.tables t (catalogs_schema all c t whole.are) (sym whole.are.indexes) us) reads in
        found_asks standing (said (define_index d)) t (areas_read t us) changed f
        (λ need of. index_asks standing d t need free (need_wider (areas_read t us) changed (1 ∷ areas_read t us) changed (one_more_area 1 (areas_read t us)) (λ area h. h) need of))
        (λ writes each. index_writes standing d t writes free each)
        (written_stays (areas_read t us) changed old new none standing end f written
        (narrower (area_of (relation_named d.relation t) ∷ new_index_area t ∷ []) (areas_read t us) changed end (keeps t all (seen all t sound agrees)) here))
