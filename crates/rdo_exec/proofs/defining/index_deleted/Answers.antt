use Rattle.std.proofs.Common.{◌∙◌, sym, ap}
use Rattle.std.specs.FinMap.Entries.{find}
use Rattle.rdb_types.specs.Order.{chars_order}
use Rattle.rdo_ast.specs.Tree.{delete_index, said}
use Rattle.rdb_meaning.specs.Checks.{or_else, needs_some, reservation_refusal}
use Rattle.rdb_meaning.specs.Meaning.{reservations_of, index_uses}
use Rattle.line_view.specs.Held.{knows}
use Rattle.catalog_definitions.proofs.KeyPlaces.{first_none}
use Rattle.statement_view.specs.Over.{Over}
use Rattle.rdo_exec.proofs.Answered.{unchecked_comes, finds_refused}
use Rattle.rdo_exec.proofs.Checked.{deleting_index, index_goes_barred, index_uses_here}
use Rattle.rdo_exec.proofs.Definitions.{barred_definition, comes_of_deletes}
use Rattle.rdo_exec.proofs.Asking.{index_goes_asks}
use Rattle.rdo_exec.proofs.defining.index_deleted.Goals as goal

pub returns-in-Err-clause-comes : goal.returns-in-Err-clause-comes
returns-in-Err-clause-comes c = λ word.
    let a = c.args in
    unchecked_comes word a.standing.now (said (delete_index a.name.now)) (knows a.known.now) c.in-Err.stop c.unchecked.result c.unchecked.ensures
    (λ reply is. barred_definition word a.standing.now (delete_index a.name.now) a.catalog.now (knows a.known.now) c.requires.catalog tt reply
    (index_goes_barred word a.catalog.now a.name.now a.standing.now reply c.requires.writing
    (finds_refused c.in-Err.stop (or_else (needs_some a.name.now (find chars_order a.name.now a.catalog.now.tables.indexes)) (reservation_refusal (reservations_of a.standing.now) (index_uses (find chars_order a.name.now a.catalog.now.tables.indexes) a.catalog.now.tables))) reply c.in-Err.ensures is)))

pub returns-clause-comes : goal.returns-clause-comes
returns-clause-comes c = λ word.
    let a = c.args in
    let reserved = (first_none (needs_some a.name.now (find chars_order a.name.now a.catalog.now.tables.indexes)) (reservation_refusal (reservations_of a.standing.now) (index_uses (find chars_order a.name.now a.catalog.now.tables.indexes) a.catalog.now.tables)) c.in-Ok.ensures).1 in
    comes_of_deletes word a.standing.now (delete_index a.name.now) a.catalog.now (knows a.known.now) c.requires.catalog tt
    (λ t. needs_some a.name.now (find chars_order a.name.now t.indexes)) c.new-view.result c.delete_index-end.new.view (ap (λ (o : Over). knows o.base) c.new-view.ensures.value) (ap (λ (o : Over). o.lines) c.new-view.ensures.value) c.new-view.ensures.stands
    (λ all t sound. deleting_index word a.name.now a.standing.now t c.requires.writing (ap (λ us. reservation_refusal (reservations_of a.standing.now) us) (sym (index_uses_here a.catalog.now all t a.name.now sound)) ∙ reserved))
    c.delete_index-end.result c.from_deletion.result c.written.result c.from_deletion.ensures c.written.ensures c.delete_index-end.ensures.deletes

pub returns-clause-asked : goal.returns-clause-asked
returns-clause-asked c =
    let a = c.args in
    index_goes_asks a.standing.now a.catalog.now (knows a.known.now) c.requires.catalog c.new-view.result c.delete_index-end.new.view (ap (λ (o : Over). o.lines) c.new-view.ensures.value) c.new-view.ensures.stands
    a.name.now c.requires.writing (first_none (needs_some a.name.now (find chars_order a.name.now a.catalog.now.tables.indexes)) (reservation_refusal (reservations_of a.standing.now) (index_uses (find chars_order a.name.now a.catalog.now.tables.indexes) a.catalog.now.tables)) c.in-Ok.ensures).0
    c.delete_index-end.result c.from_deletion.result c.written.result c.from_deletion.ensures c.written.ensures c.delete_index-end.ensures.areas
