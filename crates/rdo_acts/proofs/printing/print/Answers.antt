use Rattle.std.proofs.Common.{map, refl, Err}
use Rattle.std.proofs.lemmas.Result.{err_from_is_err_and}
use Rattle.rdb_meaning.specs.Execution.{printed}
use Rattle.line_view.specs.Held.{knows}
use Rattle.line_view.specs.Stops.{Lacks}
use Rattle.statement_view.specs.Over.{laid_over}
use Rattle.sound_changes.proofs.Schemas.{catalogs_schema}
use Rattle.rdo_values.specs.Rows.{variables_of}
use Rattle.rdo_bind.specs.Acting.{written_item, print}
use Rattle.bound_actions.proofs.Same.{act_same}
use Rattle.rdo_acts.specs.Ends.{reply_of, stage, Refuses}
use Rattle.rdo_acts.specs.Printing.{IsNoLine, prints}
use Rattle.rdo_acts.proofs.Stopping.{stops_so}
use Rattle.rdo_acts.proofs.Viewing.{sound_view}
use Rattle.rdo_acts.proofs.LinePrinted.{prints_line, refuses_line}
use Rattle.rdb_meaning.specs.Checks.{shown_uses}
use Rattle.used_areas.specs.Areas.{areas_changed}
use Rattle.row_writes.proofs.AreaLists.{nothing_written}
use Rattle.rdo_acts.proofs.AreasRead.{reading_keeps, at_start}
use Rattle.rdo_acts.proofs.Lacking.{one_schema_of}
use Rattle.rdo_acts.proofs.printing.print.Goals as goal

pub returns-in_err-line-clause-runs : goal.returns-in_err-line-clause-runs
returns-in_err-line-clause-runs c = λ scope bound all start t holds same.
    let p = err_from_is_err_and c.from_residual.result c.from_residual.ensures.1 in
    let given = c.args.given.now in
    let old = c.args.work.now in
    let sound = sound_view given old all start t holds in
    let are = act_same given.schema.now.tables t (catalogs_schema (laid_over old.view.lines all) given.schema.now t (sound.sound).are) (print c.args.items.now) (variables_of scope) bound in
    let items = map written_item c.args.items.now in
    rw (p.1, p.2)
    (stops_so (Lacks (knows old.view.base)) (λ key. ⊥) (λ refusal. IsNoLine refusal (printed items t scope)) (λ refusal. Refuses (reply_of refusal) (knows old.view.base) given.schema.now all start (prints items scope start) (stage old) old.given t)
    (refuses_line given items scope old old all start t holds refl) c.in_err-line.field-0.0 (c.in_err-line.ensures.line all t scope sound are same))

pub returns-clause-runs : goal.returns-clause-runs
returns-clause-runs c = λ scope bound all start t holds same.
    let given = c.args.given.now in
    let old = c.args.work.now in
    let sound = sound_view given old all start t holds in
    let are = act_same given.schema.now.tables t (catalogs_schema (laid_over old.view.lines all) given.schema.now t (sound.sound).are) (print c.args.items.now) (variables_of scope) bound in
    prints_line given (map written_item c.args.items.now) scope old (record old { lines = c.push.new.self }) all start t holds refl c.in_ok-line.line (c.in_ok-line.ensures.line all t scope sound are same) refl c.in_ok-push.ensures.ok

pub returns-in_err-line-clause-areas : goal.returns-in_err-line-clause-areas
returns-in_err-line-clause-areas c = λ scope bound all start t holds same.
    let p = err_from_is_err_and c.from_residual.result c.from_residual.ensures.1 in
    let given = c.args.given.now in
    let old = c.args.work.now in
    let sound = sound_view given old all start t holds in
    let are = act_same given.schema.now.tables t (catalogs_schema (laid_over old.view.lines all) given.schema.now t (sound.sound).are) (print c.args.items.now) (variables_of scope) bound in
    let us = shown_uses (map written_item c.args.items.now) in
    let stop = c.in_err-line.field-0.0 in
    rw (p.1, p.2) (at_start given old all start t holds us old.view old.view (Err stop) (reading_keeps t us stop (c.in_err-line.ensures.areas all t scope sound are same)))

pub returns-clause-areas : goal.returns-clause-areas
returns-clause-areas c = λ scope bound all start t holds same. nothing_written (areas_changed start (shown_uses (map written_item c.args.items.now))) c.args.work.now.view

pub returns-in_err-line-clause-lacks : goal.returns-in_err-line-clause-lacks
returns-in_err-line-clause-lacks c = λ scope bound first t sound same.
    let p = err_from_is_err_and c.from_residual.result c.from_residual.ensures.1 in
    let given = c.args.given.now in
    let are = act_same given.schema.now.tables t (one_schema_of given c.args.work.now.view t first sound) (print c.args.items.now) (variables_of scope) bound in
    rw (p.1, p.2) (c.in_err-line.ensures.lacks first t scope sound are same)
