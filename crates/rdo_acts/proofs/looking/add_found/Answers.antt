use Rattle.std.proofs.Common.{◌≡◌, List, Result, Err, OnOk, sym, ap, subst, ◌∙◌}
use Rattle.rdb_types.specs.declared.keys.Dbkey.{Dbkey}
use Rattle.line_view.specs.Held.{knows}
use Rattle.line_view.specs.declared.stop.Stop.TheVariants.{Missing}
use Rattle.sorted_index_laws.specs.Stop.{IndexStop}
use Rattle.index_ahead.specs.Added.{AddsOnly, IsIn}
use Rattle.index_ahead.specs.Ahead.{IsUnknownIn}
use Rattle.index_ahead.proofs.Added.{kept, added_as}
use Rattle.rdo_acts.specs.Looking.{IsFoundIn}
use Rattle.rdo_acts.proofs.LookedThrough.{if_ok}
use Rattle.rdo_acts.proofs.looking.add_found.Goals as goal

pub returns-in-Ok : goal.returns-in-Ok
returns-in-Ok c =
    subst (λ (f : Result (List Dbkey) IndexStop). OnOk c.add_rows.result (AddsOnly (IsFoundIn c.args.root.area f) c.args.keys.now.keys c.add_rows.new.keys.keys)) (sym c.in-Ok.is)
    (subst (λ (ks : List Dbkey). OnOk c.add_rows.result (AddsOnly (IsIn ks) c.args.keys.now.keys c.add_rows.new.keys.keys)) c.as_slice.ensures c.add_rows.ensures)

pub returns-in-Err-Missing : goal.returns-in-Err-Missing
returns-in-Err-Missing c =
    let arm = c.in-Err-Missing in
    let area = c.args.root.area in
    let stop : arm.field-0 ≡ Missing arm.field-0-0 = rw arm.is at arm.field-0-is in
    subst (λ (f : Result (List Dbkey) IndexStop). OnOk c.add_unknown.result (AddsOnly (IsFoundIn area f) c.args.keys.now.keys c.add_unknown.new.keys.keys)) (sym (arm.is ∙ ap Err stop))
    (if_ok c.add_unknown.result _ _
    (added_as (IsUnknownIn (knows c.args.sight.known.now) area) (λ key. key.area ≡ area) (λ key unknown. unknown.0) c.args.keys.now.keys c.add_unknown.new.keys.keys)
    c.add_unknown.ensures)

pub returns-in-Err : goal.returns-in-Err
returns-in-Err c = kept (IsFoundIn c.args.root.area c.args.found) c.args.keys.now.keys
