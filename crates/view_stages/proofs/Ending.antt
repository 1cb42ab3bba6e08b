-- The record of an action that was done, or that was refused on the way.
use Rattle.std.proofs.Common.{◌≡◌, ℕ, List, [], ◌++◌, Some, None, sym, ap, subst, ◌∙◌}
use Rattle.std.proofs.lemmas.List.{append-nil}
use Rattle.rdo_ast.specs.declared.reply.Reply.{Reply}
use Rattle.rdo_ast.specs.declared.reply.Reply.TheVariants as r
use Rattle.rdo_ast.specs.declared.reply.Standing.{Standing}
use Rattle.rdo_ast.specs.Tree.{Act, perform, said}
use Rattle.rdb_meaning.specs.declared.tables.Tables.{Tables}
use Rattle.rdb_meaning.specs.Execution.{world, ran, done}
use Rattle.rdb_meaning.specs.Meaning.{meaning, unless, after_running, act_refusal, standing_for}
use Rattle.line_view.specs.Knowledge.{Knowledge, Lines, IsInOrder, Agrees}
use Rattle.line_view.specs.Writes.{laid_all}
use Rattle.catalog.specs.declared.reading.Catalog.{Catalog}
use Rattle.catalog.specs.Reading.{IsCatalogOf}
use Rattle.catalog.proofs.Agreements.{one_catalog}
use Rattle.sound_lines.specs.Contents.{AreTablesOf}
use Rattle.sound_lines.specs.Sound.{IsSound}
use Rattle.sound_lines.proofs.OneTables.{one_tables}
use Rattle.sound_changes.specs.Standing.{IsSoundAs}
use Rattle.sound_changes.proofs.AllDone.{of_sound, is_sound, are_tables}
use Rattle.view_stages.specs.Stages.{Stage, Goes, refusing}
use Rattle.view_stages.specs.Records.{IsRightOver}

-- at the start nothing is written
abbrev pub beginning : Knowledge → Stage
beginning known = record { seen = known; writes = []; lines = []; given = [] }

-- a sound map has the view's catalog, and the tables that it is said to have
pub begins : (known : Knowledge) (c : Catalog) (all : Lines) (t : Tables) → IsInOrder all → Agrees known all → IsCatalogOf all c → IsSound all → AreTablesOf all t → IsSoundAs all c t
begins known c all t sorted agrees decodes is are =
    let catalog : is.catalog ≡ c = one_catalog all is.catalog c is.decodes decodes in
    let tables : is.tables ≡ t = one_tables all is.tables t (record { catalog = is.catalog; decodes = is.decodes; tables = is.are }) are in
    subst (λ (d : Catalog). IsSoundAs all d t) catalog (subst (λ (u : Tables). IsSoundAs all is.catalog u) tables (of_sound all sorted is))

-- an action that comes to its end
pub act_ends : (known : Knowledge) (c : Catalog) (word : List ℕ) (standing : Standing) (a : Act) (to : Stage) (all : Lines) (t : Tables) → act_refusal a standing t ≡ None →
    Goes known c all t (done a t []) ran (beginning known) to t → IsRightOver word standing (perform a) (record { choices = to.given; reply = r.Done to.lines; writes = to.writes }) all t
act_ends known c word standing a to all t free goes =
    let given : to.given ≡ goes.fresh = goes.gives in
    record {
      after = goes.tables;
      left = standing_for a standing;
      does =
          ap (λ ks. meaning word standing (said (perform a)) ks t) (given ∙ sym (append-nil goes.fresh))
          ∙ ap (λ o. unless o t (standing_for a standing) (goes.fresh ++ []) (after_running (done a t [] (world t (goes.fresh ++ []) [])) t (standing_for a standing) (goes.fresh ++ []))) free
          ∙ ap (λ r. after_running r t (standing_for a standing) (goes.fresh ++ [])) (goes.comes []);
      sound = is_sound (laid_all to.writes all) c goes.tables goes.holds.sound;
      tables = are_tables (laid_all to.writes all) c goes.tables goes.holds.sound;
    }

-- an action that is refused on the way: nothing is written
pub act_refused : (known : Knowledge) (c : Catalog) (word : List ℕ) (standing : Standing) (a : Act) (reply : Reply) (to : Stage) (all : Lines) (t : Tables) → act_refusal a standing t ≡ None → IsSoundAs all c t →
    Goes known c all t (done a t []) (refusing reply) (beginning known) to t → IsRightOver word standing (perform a) (record { choices = to.given; reply = reply; writes = [] }) all t
act_refused known c word standing a reply to all t free sound goes =
    let given : to.given ≡ goes.fresh = goes.gives in
    record {
      after = t;
      left = standing_for a standing;
      does =
          ap (λ ks. meaning word standing (said (perform a)) ks t) (given ∙ sym (append-nil goes.fresh))
          ∙ ap (λ o. unless o t (standing_for a standing) (goes.fresh ++ []) (after_running (done a t [] (world t (goes.fresh ++ []) [])) t (standing_for a standing) (goes.fresh ++ []))) free
          ∙ ap (λ r. after_running r t (standing_for a standing) (goes.fresh ++ [])) (goes.comes []);
      sound = is_sound all c t sound;
      tables = are_tables all c t sound;
    }

-- an action that is refused before it is done
pub act_barred : (c : Catalog) (word : List ℕ) (standing : Standing) (a : Act) (reply : Reply) (all : Lines) (t : Tables) → act_refusal a standing t ≡ Some reply → IsSoundAs all c t →
    IsRightOver word standing (perform a) (record { choices = []; reply = reply; writes = [] }) all t
act_barred c word standing a reply all t barred sound = record {
  after = t;
  left = standing_for a standing;
  does = ap (λ o. unless o t (standing_for a standing) [] (after_running (done a t [] (world t [] [])) t (standing_for a standing) [])) barred;
  sound = is_sound all c t sound;
  tables = are_tables all c t sound;
}
