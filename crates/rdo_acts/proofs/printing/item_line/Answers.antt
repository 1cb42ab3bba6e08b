use Rattle.std.proofs.Common.{sym, ap, subst, ◌∙◌, [], ◌++◌}
use Rattle.rdb_meaning.specs.Evaluation.{computed}
use Rattle.rdb_meaning.specs.Execution.{line, value_line}
use Rattle.line_view.specs.Held.{knows}
use Rattle.line_view.specs.Stops.{Stops, Lacks}
use Rattle.rdo_values.specs.Views.{expression_of}
use Rattle.rdo_values.specs.Named.{named}
use Rattle.rdo_values.specs.Rows.{variables_of}
use Rattle.rdo_bind.specs.Acting.{IsBoundItem}
use Rattle.rdo_acts.specs.Printing.{IsNoLine}
use Rattle.rdo_acts.proofs.Stopping.{value_stops}
use Rattle.rdo_acts.proofs.Viewing.{shows}
use Rattle.rdo_acts.proofs.PrintedValues.{fields_printed}
use Rattle.rdb_meaning.specs.Checks.{expression_uses}
use Rattle.statement_view.specs.Areas.{IsNeedOf}
use Rattle.used_areas.specs.Areas.{areas_read}
use Rattle.row_writes.proofs.AreaLists.{StopsAt}
use Rattle.rdo_acts.specs.Stops.{stop_of_select}
use Rattle.rdo_acts.proofs.AreasRead.{value_reads}
use Rattle.rdo_acts.proofs.UsesWithin.{before, reads_within}
use Rattle.statement_view.specs.Over.{knows_over}
use Rattle.served_selections.specs.Ranges.{chosen_in}
use Rattle.rdo_acts.specs.Selections.{IsReadAmong}
use Rattle.rdo_acts.proofs.Lacking.{value_among, stops_left}
use Rattle.rdo_acts.proofs.printing.item_line.Goals as goal

pub returns-in-Err-clause-line : goal.returns-in-Err-clause-line
returns-in-Err-clause-line c = λ first t scope sound bound same.
    let given = c.args.given.now in
    let view = c.args.view.now in
    let e = expression_of c.in-Value.expression in
    let own = subst (IsBoundItem t (variables_of scope)) c.in-Value.is bound in
    let shown = shows given c.requires view t first sound in
    rw c.in-Value.is
    (subst (Stops (Lacks (knows view.base)) (λ key. ⊥) (λ refusal. IsNoLine refusal (value_line (computed (named e) t scope)))) (sym c.of_select.ensures)
    (value_stops given c.requires view t first sound e scope (λ refusal. IsNoLine refusal (value_line (computed (named e) t scope))) (λ over. ap value_line over) c.in-Err.stop
    (c.in-Err.ensures.value t scope shown own same) (c.in-Err.ensures.work t scope shown own same) c.in-Err.ensures.stop))

pub returns-in_ok-one_value-in-Value-clause-line : goal.returns-in_ok-one_value-in-Value-clause-line
returns-in_ok-one_value-in-Value-clause-line c = λ first t scope sound bound same.
    let given = c.args.given.now in
    let view = c.args.view.now in
    let own = subst (IsBoundItem t (variables_of scope)) c.in-Value.is bound in
    let shown = shows given c.requires view t first sound in
    rw c.in-Value.is
    (ap value_line (c.in-Ok.ensures.value t scope shown own same) ∙ ap line (sym c.in_ok-one_value-in-Value.ensures))

pub returns-in_ok-all_fields-in-Fields-clause-line : goal.returns-in_ok-all_fields-in-Fields-clause-line
returns-in_ok-all_fields-in-Fields-clause-line c = λ first t scope sound bound same.
    let own = subst (IsBoundItem t (variables_of scope)) c.in-Fields.is bound in
    rw c.in-Fields.is (fields_printed t scope c.in-Fields.variable c.args.values.now c.in_ok-all_fields-in-Fields.field-0 own same c.in_ok-all_fields-in-Fields.ensures)

pub returns-in-Err-clause-areas : goal.returns-in-Err-clause-areas
returns-in-Err-clause-areas c = λ first t scope sound bound same.
    let given = c.args.given.now in
    let view = c.args.view.now in
    let e = expression_of c.in-Value.expression in
    let own = subst (IsBoundItem t (variables_of scope)) c.in-Value.is bound in
    let shown = shows given c.requires view t first sound in
    let us = expression_uses (named e) in
    rw c.in-Value.is
    (subst (StopsAt (IsNeedOf (areas_read t (us ++ [])) [])) (sym c.of_select.ensures)
    (reads_within t us (us ++ []) (before t us []) (stop_of_select c.in-Err.stop) (value_reads given c.requires view t first sound e scope c.in-Err.stop own (c.in-Err.ensures.work t scope shown own same))))

pub returns-in-Err-clause-lacks : goal.returns-in-Err-clause-lacks
returns-in-Err-clause-lacks c = λ first t scope sound bound same.
    let given = c.args.given.now in
    let view = c.args.view.now in
    let sources = given.sources.now.entries in
    let e = expression_of c.in-Value.expression in
    let own = subst (IsBoundItem t (variables_of scope)) c.in-Value.is bound in
    let shown = shows given c.requires view t first sound in
    let cs = chosen_in e (variables_of scope) in
    rw c.in-Value.is
    (subst (StopsAt (IsReadAmong t sources (cs ++ []))) (sym c.of_select.ensures)
    (stops_left t sources (stop_of_select c.in-Err.stop) cs [] (value_among (knows_over view) sources t shown scope c.in-Err.stop e own (c.in-Err.ensures.work t scope shown own same))))
