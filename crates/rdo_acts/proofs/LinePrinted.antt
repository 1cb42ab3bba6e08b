-- A line printed, in the words of the meaning.
use Rattle.std.proofs.Common.{◌≡◌, List, [], ◌∷◌, ◌++◌, sym, ap, subst, ◌∙◌, append-nil}
use Rattle.rdb_types.specs.declared.values.Scaled.{Scaled}
use Rattle.rdo_ast.specs.declared.reply.Reply.TheVariants as r
use Rattle.rdo_ast.specs.Tree.{Shown}
use Rattle.rdb_meaning.specs.declared.tables.Tables.{Tables}
use Rattle.rdb_meaning.specs.Evaluation.{Scope}
use Rattle.rdb_meaning.specs.Execution.{world, ran, line, no_line, printed, printed_in}
use Rattle.line_view.specs.Knowledge.{Knowledge, Lines, Agrees}
use Rattle.line_view.specs.Held.{knows}
use Rattle.line_view.specs.Writes.{laid_all}
use Rattle.catalog.specs.declared.reading.Catalog.{Catalog}
use Rattle.sound_changes.specs.Standing.{IsSoundAs}
use Rattle.statement_view.specs.Over.{Over, knows_over, writes_of}
use Rattle.view_stages.specs.Stages.{Goes}
use Rattle.rdo_acts.specs.declared.stop.Refusal.{Refusal}
use Rattle.rdo_acts.specs.declared.stop.Refusal.TheVariants.{Overflow, TooLong, Duplicate, Unwritten}
use Rattle.rdo_acts.specs.declared.work.Given.{Given}
use Rattle.rdo_acts.specs.declared.work.Work.{Work}
use Rattle.rdo_acts.specs.Ends.{reply_of, stage, HoldsIn, IsRefusedAt, Refuses}
use Rattle.rdo_acts.specs.Printing.{IsNoLine, prints}

module _ (given : Given) (items : List Shown) (scope : Scope) (old new : Work) (all : Lines) (start t : Tables) (holds : HoldsIn given old all start t) (same : new.given ≡ old.given) where
  abbrev known : Knowledge
  known = knows old.view.base

  abbrev c : Catalog
  c = given.schema.now

  pub prints_line : (vs : List Scaled) → printed items t scope ≡ line vs → new.view ≡ old.view → new.lines ≡ old.lines ++ vs ∷ [] → Goes known c all start (prints items scope start) ran (stage old) (stage new) t
  prints_line vs made view lines = record {
    tables = t;
    holds = record {
      first = holds.first;
      began = holds.began;
      agrees = subst (λ (v : Over). Agrees (knows_over v) (laid_all (writes_of v.lines) all)) (sym view) holds.agrees;
      sound = subst (λ (v : Over). IsSoundAs (laid_all (writes_of v.lines) all) c t) (sym view) holds.sound;
    };
    fresh = [];
    gives = same ∙ sym (append-nil old.given);
    comes = λ left. ap (printed_in (world t left old.lines)) made ∙ ap (λ (ls : List (List Scaled)). ran (world t left ls)) (sym lines);
  }

  overflows : printed items t scope ≡ no_line → IsRefusedAt known c all start (prints items scope start) r.Overflow (stage old) new.given t
  overflows none = record {
    at = stage old;
    given_there = sym same;
    goes = record {
      tables = t;
      holds = holds;
      fresh = [];
      gives = sym (append-nil old.given);
      comes = λ left. ap (printed_in (world t left old.lines)) none;
    };
  }

  pub refuses_line : (refusal : Refusal) → IsNoLine refusal (printed items t scope) → Refuses (reply_of refusal) known c all start (prints items scope start) (stage old) new.given t
  refuses_line Overflow none = overflows none
  refuses_line TooLong none = absurd none
  refuses_line (Duplicate name) none = absurd none
  refuses_line (Unwritten reason) none = absurd none
