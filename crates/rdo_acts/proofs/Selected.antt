-- The selection of a FOR, in the tables of the moment.
use Rattle.std.proofs.Common.{◌≡◌, List, map, Some, Result, Err, refl, sym, ap, ◌∙◌}
use Rattle.rdo_ast.specs.declared.reply.Reply.TheVariants as r
use Rattle.rdo_ast.specs.declared.syntax.Range.{Range}
use Rattle.rdb_meaning.specs.declared.tables.Tables.{Tables}
use Rattle.rdb_meaning.specs.Contents.{Row}
use Rattle.rdb_meaning.specs.Evaluation.{Scope, bind_tuple, sources_of, Selected, these, not_computed}
use Rattle.rdb_meaning.specs.Selecting.{selection}
use Rattle.rdb_meaning.specs.Execution.{World, world, Ran, done, done_all, over, over_selected}
use Rattle.line_view.specs.declared.stop.Stop.TheVariants as stop
use Rattle.line_view.specs.Knowledge.{Lines}
use Rattle.line_view.specs.Held.{knows}
use Rattle.catalog.specs.declared.reading.Catalog.{Catalog}
use Rattle.schema_alone.specs.Schema.{OneSchema}
use Rattle.sound_changes.proofs.Schemas.{catalogs_schema}
use Rattle.bound_actions.proofs.Same.{act_same}
use Rattle.statement_view.specs.Over.{knows_over, laid_over}
use Rattle.view_stages.specs.Stages.{refusing}
use Rattle.row_writes.specs.Rows.{IsSoundView}
use Rattle.rdo_values.specs.declared.bound.BoundSelection.{BoundSelection}
use Rattle.rdo_values.specs.Tree.{Ranging, ranging}
use Rattle.rdo_values.specs.Views.{ranging_of}
use Rattle.rdo_values.specs.Named.{named_ranging}
use Rattle.rdo_values.specs.Rows.{row_of, variables_of}
use Rattle.rdo_values.specs.Places.{ranges_in}
use Rattle.rdo_values.specs.Selections.{written_clause, IsBoundSelection}
use Rattle.rdo_bind.specs.Acting.{for_each, Acts, named_act, named_acts, IsBoundAct}
use Rattle.rdo_select.specs.declared.crossing.Found.{Found}
use Rattle.rdo_select.specs.SelectStop.{SelectStop}
use Rattle.rdo_select.specs.Sources.{IsShown}
use Rattle.rdo_select.specs.Stops.{Matches}
use Rattle.rdo_select.specs.Reasons.{IsSelectReason}
use Rattle.rdo_select.specs.Work.{Does, selecting}
use Rattle.rdo_acts.specs.declared.work.Given.{Given}
use Rattle.rdo_acts.specs.declared.work.Work.{Work}
use Rattle.rdo_acts.specs.Ends.{ActStop, GoTogether, stage, HoldsIn, Computes, Ends}
use Rattle.rdo_acts.specs.Stops.{stop_of_select}
use Rattle.rdo_acts.proofs.Viewing.{sound_view, shows}
use Rattle.rdo_acts.proofs.Missing.{computes}
use Rattle.rdo_acts.proofs.Turns.{says, ends_said}
use Rattle.rdo_acts.proofs.Bodies.{tuples_job}

-- ---- the ranges of a selection

sources_are : (r : Ranging) → sources_of (named_ranging r) ≡ ranges_in r
sources_are (ranging first ss c) = refl

-- ---- what a selection answers

module _ (given : Given) (together : GoTogether given) (w : Work) (scope : Scope) (values : Row) (s : BoundSelection) (body : Acts) (bound : IsBoundAct (for_each s body) given.schema.now.tables (variables_of scope))
    (all : Lines) (start t : Tables) (holds : HoldsIn given w all start t) (is : row_of t scope ≡ values) where
  abbrev c : Catalog
  c = given.schema.now

  sound : IsSoundView w.view c t all
  sound = sound_view given w all start t holds

  pub shown : IsShown (knows_over w.view) given.sources.now.entries t
  shown = shows given together w.view t all sound

  one_schema : OneSchema c.tables t
  one_schema = catalogs_schema (laid_over w.view.lines all) c t (sound.sound).are

  pub selection_bound : IsBoundSelection s t (variables_of scope)
  selection_bound = (act_same c.tables t one_schema (for_each s body) (variables_of scope) bound).0

  abbrev chosen : Selected
  chosen = selection (named_ranging (ranging_of s.inner)) (map written_clause s.clauses) t scope

  abbrev job : World → Ran
  job = done (named_act (for_each s body)) start scope

  -- the tuples are selected, and the body is done for each
  pub selects : (result : Result (Unit {0}) ActStop) (new : Work) (tuples : List Found) (ss : List Range) → ss ≡ ranges_in (ranging_of s.inner) → chosen ≡ these (map (λ f. f.tuple) tuples) →
      Ends result given all start (tuples_job (named_acts body) start scope ss tuples) w new t → Ends result given all start job w new t
  selects result new tuples ss ranges are h =
      ends_said (knows w.view.base) c all start result job (tuples_job (named_acts body) start scope ss tuples) (stage w) (stage new) t holds
      (λ left.
      ap (λ o. over_selected o (λ ks. done_all (named_acts body) start (bind_tuple (sources_of (named_ranging (ranging_of s.inner))) ks scope)) (world t left w.lines)) are
      ∙ ap (λ rs. over (map (λ f. f.tuple) tuples) (λ ks. done_all (named_acts body) start (bind_tuple rs ks scope)) (world t left w.lines)) (sources_are (ranging_of s.inner) ∙ sym ranges))
      h

  -- a selection that isn't done ends the action
  pub not_selected : (why : SelectStop) → Matches (Err why) chosen → Does (knows_over w.view) (selecting (ranging_of s.inner) t given.sources.now.entries scope) (Some why) →
      IsSelectReason (knows_over w.view) given.sources.now.entries why → Ends (Err (stop_of_select why)) given all start job w w t
  not_selected why matches does reason =
      ended why
      (computes w.view (laid_over w.view.lines all) t given.sources.now.entries (Err why) (λ (found : List Found). chosen ≡ these (map (λ f. f.tuple) found)) (chosen ≡ not_computed)
      (selecting (ranging_of s.inner) t given.sources.now.entries scope) (sound.sound).sorted (sound.stands).agrees (together.only (laid_over w.view.lines all) t sound.sound) matches does reason)
    where
      ended : (why : SelectStop) → Computes {T = List Found} (Err why) w.view (λ found. chosen ≡ these (map (λ f. f.tuple) found)) (λ past. chosen ≡ not_computed) → Ends (Err (stop_of_select why)) given all start job w w t
      ended (stop.Missing need) h = h
      ended (stop.Bad key) h = h
      ended stop.NoMemory h = tt
      ended (stop.Own past) h = record {
        at = stage w;
        given_there = refl;
        goes = says (knows w.view.base) c all start job (refusing r.Overflow) (stage w) t holds
            (λ left. ap (λ o. over_selected o (λ ks. done_all (named_acts body) start (bind_tuple (sources_of (named_ranging (ranging_of s.inner))) ks scope)) (world t left w.lines)) h);
      }
