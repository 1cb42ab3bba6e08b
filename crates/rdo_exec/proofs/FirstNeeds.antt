-- What an item lacks first.
use Rattle.std.proofs.Common.{◌≡◌, ◌⊎◌, inl, inr, List, [], Option, Some, None, refl, sym, subst}
use Rattle.rdb_types.specs.declared.keys.Dbkey.{Dbkey}
use Rattle.rdo_ast.specs.declared.reply.Reply.{Reply}
use Rattle.rdo_ast.specs.declared.reply.Standing.{Standing}
use Rattle.rdo_ast.specs.Tree.{Act, Command, Uttered, said, syntax_fault, invoke, start_read_only, start_read_write, commit, rollback, finish, back_up, perform, define_field, define_relation, define_index, delete_relation, delete_index}
use Rattle.rdb_meaning.specs.declared.tables.Tables.{Tables}
use Rattle.line_view.specs.declared.need.Need.{Need}
use Rattle.line_view.specs.declared.need.Need.TheVariants.{Line, Area, Room}
use Rattle.line_view.specs.declared.stop.Never.{Never}
use Rattle.line_view.specs.declared.stop.Stop.{Stop}
use Rattle.line_view.specs.declared.stop.Stop.TheVariants as stop
use Rattle.line_view.specs.Knowledge.{Knowledge, Lines, Agrees}
use Rattle.catalog.specs.Reading.{StopsCatalog}
use Rattle.sound_changes.specs.Standing.{IsSoundAs}
use Rattle.session_jobs.specs.declared.jobs.Found.{Found}
use Rattle.session_jobs.specs.declared.jobs.Found.TheVariants as found
use Rattle.session_jobs.specs.Jobs.{NamesNoNeed}
use Rattle.rdo_bind.specs.Acting.{Act as BoundAct, named_act, IsBoundAct}
use Rattle.rdo_acts.specs.declared.work.Given.{Given}
use Rattle.rdo_acts.specs.declared.acting.Outcome.{Outcome}
use Rattle.rdo_acts.specs.declared.acting.Outcome.TheVariants.{Done, Refused, Missing, Bad, NoMemory}
use Rattle.rdo_acts.specs.Ahead.{AreWantedBehind, WantsBehind}
use Rattle.rdo_acts.specs.Ends.{reply_of}
use Rattle.rdo_acts.specs.Selections.{IsReadAmong, FirstIs, LacksAmong, chosen_in_act}
use Rattle.rdo_acts.specs.Wanted.{ActWants, Then, WantsSo}
use Rattle.rdo_exec.specs.Acted.{found_refused, IsFoundOf, AreTogether}
use Rattle.rdo_exec.specs.Answers.{found_of_stop}
use Rattle.rdo_exec.specs.Coming.{IsCatalogOfKnown}
use Rattle.rdo_exec.specs.Needed.{IsOfCatalog, IsActNeed, IfLacking, ActNeeds, ItemNeeds}
use Rattle.rdo_exec.specs.Ways.{IsReserving, IsDefining}
use Rattle.view_stages.proofs.Ending.{begins}
use Rattle.rdo_exec.proofs.Locks.{next_there}

-- ---- none

pub no_needs : (Is : Need → List Need → Type 0) (f : Found) → NamesNoNeed f → IfLacking Is f
no_needs Is (found.Done r) h = tt
no_needs Is (found.Missing next later) h = absurd h
no_needs Is (found.Bad key) h = tt
no_needs Is found.Unworked h = tt
no_needs Is found.NoMemory h = tt

pub item_names_none : (c : Command) (known : Knowledge) (f : Found) → NamesNoNeed f → ItemNeeds (said c) known f
item_names_none (perform a) known f h = λ all t sound agrees. no_needs _ f h
item_names_none (invoke words) known f h = tt
item_names_none start_read_only known f h = tt
item_names_none (start_read_write wait rs) known f h = tt
item_names_none commit known f h = tt
item_names_none rollback known f h = tt
item_names_none finish known f h = tt
item_names_none (back_up n) known f h = tt
item_names_none (define_field n type) known f h = tt
item_names_none (define_relation n fs) known f h = tt
item_names_none (define_index d) known f h = tt
item_names_none (delete_relation n) known f h = tt
item_names_none (delete_index n) known f h = tt

pub uttered_names_none : (item : Uttered) (known : Knowledge) (f : Found) → NamesNoNeed f → ItemNeeds item known f
uttered_names_none (said c) known f h = item_names_none c known f h
uttered_names_none (syntax_fault line column) known f h = tt

pub defining_needs : (c : Command) (known : Knowledge) (f : Found) → IsDefining c → ItemNeeds (said c) known f
defining_needs (perform a) known f way = absurd way
defining_needs (invoke words) known f way = tt
defining_needs start_read_only known f way = tt
defining_needs (start_read_write wait rs) known f way = tt
defining_needs commit known f way = tt
defining_needs rollback known f way = tt
defining_needs finish known f way = tt
defining_needs (back_up n) known f way = tt
defining_needs (define_field n type) known f way = tt
defining_needs (define_relation n fs) known f way = tt
defining_needs (define_index d) known f way = tt
defining_needs (delete_relation n) known f way = tt
defining_needs (delete_index n) known f way = tt

pub reserving_needs : (c : Command) (known : Knowledge) (f : Found) → IsReserving c → ItemNeeds (said c) known f
reserving_needs (perform a) known f way = absurd way
reserving_needs (invoke words) known f way = tt
reserving_needs start_read_only known f way = tt
reserving_needs (start_read_write wait rs) known f way = tt
reserving_needs commit known f way = tt
reserving_needs rollback known f way = tt
reserving_needs finish known f way = tt
reserving_needs (back_up n) known f way = tt
reserving_needs (define_field n type) known f way = tt
reserving_needs (define_relation n fs) known f way = tt
reserving_needs (define_index d) known f way = tt
reserving_needs (delete_relation n) known f way = tt
reserving_needs (delete_index n) known f way = tt

-- ---- the catalog

unread_act : (a : Act) (known : Knowledge) (why : Stop Never) → StopsCatalog known why → ActNeeds a known (found_of_stop why)
unread_act a known (stop.Missing (Area area)) h all t sound agrees = inl (h.0, refl)
unread_act a known (stop.Missing (Line key)) h all t sound agrees = inl (next_there known all key agrees h.0, refl)
unread_act a known (stop.Missing (Room room)) h all t sound agrees = absurd h
unread_act a known (stop.Bad key) h all t sound agrees = tt
unread_act a known stop.NoMemory h all t sound agrees = tt
unread_act a known (stop.Own never) h all t sound agrees = elim never [ ]

pub unread_needs : (c : Command) (known : Knowledge) (why : Stop Never) → StopsCatalog known why → ItemNeeds (said c) known (found_of_stop why)
unread_needs (perform a) known why h = unread_act a known why h
unread_needs (invoke words) known why h = tt
unread_needs start_read_only known why h = tt
unread_needs (start_read_write wait rs) known why h = tt
unread_needs commit known why h = tt
unread_needs rollback known why h = tt
unread_needs finish known why h = tt
unread_needs (back_up n) known why h = tt
unread_needs (define_field n type) known why h = tt
unread_needs (define_relation n fs) known why h = tt
unread_needs (define_index d) known why h = tt
unread_needs (delete_relation n) known why h = tt
unread_needs (delete_index n) known why h = tt

-- ---- an action

refused_needs : (Is : Need → List Need → Type 0) (o : Option Reply) (keys : List Dbkey) (behind : Standing) → IfLacking Is (found_refused o keys behind)
refused_needs Is (Some reply) keys behind = tt
refused_needs Is None keys behind = tt

module _ (given : Given) (known : Knowledge) (behind : Standing) (bound : BoundAct) (decodes : IsCatalogOfKnown known given.schema.now) (together : AreTogether given.schema.now given.sources.now.entries) (placed : IsBoundAct bound given.schema.now.tables []) where
  module _ (all : Lines) (t : Tables) (sound : IsSoundAs all given.schema.now t) (agrees : Agrees known all) where
    abbrev Is : Need → List Need → Type 0
    Is need later = (IsOfCatalog need × (later ≡ [])) ⊎ IsActNeed (named_act bound) known all t need later

    needs_over : (o : Outcome) (f : Found) → IsFoundOf o known behind f → LacksAmong o bound known given → WantsSo o bound known given → WantsBehind o bound known given → IfLacking Is f
    needs_over (Done acted) f so lacks wants more = subst (IfLacking Is) (sym so) tt
    needs_over (Refused refusal keys) f (inl so) lacks wants more = subst (IfLacking Is) (sym so) (refused_needs Is (reply_of refusal) keys behind)
    needs_over (Refused refusal keys) f (inr so) lacks wants more = subst (IfLacking Is) (sym so) tt
    needs_over (Missing needs) f so lacks wants more =
        let told : AreWantedBehind bound known given so.next so.later = subst (λ (ns : List Need). WantsBehind (Missing ns) bound known given) so.all more in
        subst (IfLacking Is) (sym so.is)
        (inr (record {
          given = given;
          catalog = decodes;
          together = together;
          bound = bound;
          written = refl;
          placed = placed;
          reads = λ none. subst (FirstIs (IsReadAmong t given.sources.now.entries (chosen_in_act bound []))) so.all (lacks none all t agrees sound);
          wants = subst (FirstIs (λ need. Then given all t (λ u. ActWants u given.sources.now.entries bound [] need))) so.all (wants all t agrees sound);
          behind = told all t agrees sound;
        }))
    needs_over (Bad key) f so lacks wants more = subst (IfLacking Is) (sym so) tt
    needs_over NoMemory f so lacks wants more = subst (IfLacking Is) (sym so) tt

  pub acted_needs : (o : Outcome) (f : Found) → IsFoundOf o known behind f → LacksAmong o bound known given → WantsSo o bound known given → WantsBehind o bound known given → ActNeeds (named_act bound) known f
  acted_needs o f so lacks wants more = λ all t sound agrees. needs_over all t (begins known given.schema.now all t sound.0 agrees (decodes all agrees) sound.1 sound.2) agrees o f so lacks wants more
