use Rattle.std.proofs.Common.{ap, sym, subst, ◌∙◌, ◌≡◌, ◌∷◌, [], None}
use Rattle.std.specs.FinMap.Entries.{find}
use Rattle.rdb_types.specs.Order.{chars_order}
use Rattle.rdb_meaning.specs.Defining.{field_names, with_field}
use Rattle.catalog_definitions.specs.Causes.{rooms_from, StopsDefining}
use Rattle.catalog_definitions.specs.Written.{AreWritten, global_line}
use Rattle.catalog_definitions.specs.Leaving.{Turns}
use Rattle.catalog_definitions.proofs.LaidLines.{if_ok, stops_refused}
use Rattle.catalog_definitions.proofs.Basics.{none_named}
use Rattle.catalog_definitions.proofs.GlobalFields.{turns}
use Rattle.catalog_definitions.proofs.fields.define_field.Goals as goal

pub returns-in-Err-clause-stop : goal.returns-in-Err-clause-stop
returns-in-Err-clause-stop g c =
    let known = g.V.View.knows c.args.view.now in
    let name = c.args.name.now in
    let kind = c.args.kind.now in
    let t = c.in_ok-tables.tables in
    let rooms = rooms_from 0 (global_line name kind ∷ []) in
    subst (λ u. StopsDefining known (field_names name u) rooms c.from_check.result) c.in_ok-tables.ensures
    (stops_refused (Unit {0}) known (field_names name t) rooms t c.define_field.new.tables (with_field name kind t) c.in-Err.stop c.from_check.result c.in-Err.ensures c.from_check.ensures)

pub returns-clause-tables : goal.returns-clause-tables
returns-clause-tables g c =
    let known = g.V.View.knows c.args.view.now in
    let name = c.args.name.now in
    let before = c.args.catalog.now in
    let refusal : field_names name before.tables ≡ None = ap (λ t. field_names name t) (sym c.in_ok-tables.ensures) ∙ c.in-Ok.ensures.0 in
    let none : find chars_order name before.tables.globals ≡ None = none_named name (find chars_order name before.tables.globals) refusal in
    if_ok (AreWritten known 0 (global_line c.in_ok-copied.field-0 c.args.kind.now ∷ [])) (Turns known before (with_field name c.args.kind.now before.tables)) c.write_lines.result
    (λ writes written. turns known before (record { kind = c.args.kind.now; name = name }) writes (subst (λ n. AreWritten known 0 (global_line n c.args.kind.now ∷ []) writes) c.in_ok-copied.ensures written) none)
    c.write_lines.ensures.writes
