-- Why a part of an action stops.
use Rattle.std.proofs.Common.{◌≡◌, Some, Result, Err}
use Rattle.rdb_types.specs.declared.keys.Dbkey.{Dbkey}
use Rattle.rdb_types.specs.declared.values.Scaled.{Scaled}
use Rattle.rdb_meaning.specs.declared.tables.Tables.{Tables}
use Rattle.rdb_meaning.specs.Numbers as numbers
use Rattle.rdb_meaning.specs.Numbers.{overflow}
use Rattle.rdb_meaning.specs.Evaluation.{Scope, computed}
use Rattle.line_view.specs.declared.need.Need.{Need}
use Rattle.line_view.specs.declared.stop.Stop.{Stop}
use Rattle.line_view.specs.declared.stop.Stop.TheVariants.{Missing, Bad, NoMemory, Own}
use Rattle.line_view.specs.Knowledge.{Knowledge, Lines}
use Rattle.line_view.specs.Held.{knows}
use Rattle.line_view.specs.Stops.{Stops, Lacks}
use Rattle.statement_view.specs.Over.{Over, knows_over, laid_over}
use Rattle.row_writes.specs.Rows.{IsSoundView}
use Rattle.rdo_values.specs.Tree.{Expression}
use Rattle.rdo_values.specs.Named.{named}
use Rattle.rdo_select.specs.SelectStop.{SelectStop}
use Rattle.rdo_select.specs.Reasons.{IsSelectReason}
use Rattle.rdo_select.specs.Stops.{Obtains}
use Rattle.rdo_select.specs.Work.{Does, valuing}
use Rattle.rdo_acts.specs.declared.stop.Refusal.{Refusal}
use Rattle.rdo_acts.specs.declared.stop.Refusal.TheVariants.{Overflow}
use Rattle.rdo_acts.specs.declared.work.Given.{Given}
use Rattle.rdo_acts.specs.Ends.{GoTogether}
use Rattle.rdo_acts.specs.Stops.{stop_of_select}
use Rattle.rdo_acts.proofs.Missing.{computes}

-- a stop of a part is one of the whole
pub stops_so : {E : Type 0} (next : Need → Type 0) (bad : Dbkey → Type 0) (own other : E → Type 0) → ((x : E) → own x → other x) → (stop : Stop E) → Stops next bad own stop → Stops next bad other stop
stops_so next bad own other so (Missing need) is = is
stops_so next bad own other so (Bad key) is = is
stops_so next bad own other so NoMemory is = tt
stops_so next bad own other so (Own reason) is = so reason is

-- what a selection can't compute is refused
pub select_stops : (known : Knowledge) (overflows : Type 0) (refused : Refusal → Type 0) → (overflows → refused Overflow) → (stop : SelectStop) → Stops (Lacks known) (λ key. ⊥) (λ past. overflows) stop → Stops (Lacks known) (λ key. ⊥) refused (stop_of_select stop)
select_stops known overflows refused so (Missing need) is = is
select_stops known overflows refused so (Bad key) is = is
select_stops known overflows refused so NoMemory is = tt
select_stops known overflows refused so (Own past) is = so is

abbrev stopped : SelectStop → Result Scaled SelectStop
stopped stop = Err stop

module _ (given : Given) (together : GoTogether given) (o : Over) (t : Tables) (first : Lines) (sound : IsSoundView o given.schema.now t first) where
  -- an expression that gives no value
  pub value_stops : (e : Expression) (scope : Scope) (refused : Refusal → Type 0) → (computed (named e) t scope ≡ overflow → refused Overflow) → (stop : SelectStop) → Obtains (Err stop) (computed (named e) t scope)
      → Does (knows_over o) (valuing e t given.sources.now.entries scope) (Some stop) → IsSelectReason (knows_over o) given.sources.now.entries stop → Stops (Lacks (knows o.base)) (λ key. ⊥) refused (stop_of_select stop)
  value_stops e scope refused so stop is does why =
      let all = laid_over o.lines first in
      select_stops (knows o.base) (computed (named e) t scope ≡ overflow) refused so stop
      (computes o all t given.sources.now.entries (stopped stop) (λ v. computed (named e) t scope ≡ numbers.is v) (computed (named e) t scope ≡ overflow) (valuing e t given.sources.now.entries scope) (sound.sound).sorted (sound.stands).agrees
      (together.only all t sound.sound) is does why)
