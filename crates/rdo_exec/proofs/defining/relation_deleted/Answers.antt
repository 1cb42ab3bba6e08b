use Rattle.std.proofs.Common.{true, [], ◌∷◌, ap}
use Rattle.rdo_ast.specs.Tree.{delete_relation, said}
use Rattle.rdb_meaning.specs.Contents.{relation_named}
use Rattle.rdb_meaning.specs.Checks.{or_else, needs_some, use_of, reservation_refusal}
use Rattle.rdb_meaning.specs.Meaning.{reservations_of}
use Rattle.line_view.specs.Held.{knows}
use Rattle.catalog_definitions.proofs.KeyPlaces.{first_none}
use Rattle.statement_view.specs.Over.{Over}
use Rattle.rdo_exec.proofs.Answered.{unchecked_comes, finds_refused}
use Rattle.rdo_exec.proofs.Checked.{deleting_relation, relation_barred}
use Rattle.rdo_exec.proofs.Definitions.{barred_definition, comes_of_deletes}
use Rattle.rdo_exec.proofs.Asking.{relation_asks}
use Rattle.rdo_exec.proofs.defining.relation_deleted.Goals as goal

pub returns-in-Err-clause-comes : goal.returns-in-Err-clause-comes
returns-in-Err-clause-comes c = λ word.
    let a = c.args in
    unchecked_comes word a.standing.now (said (delete_relation a.name.now)) (knows a.known.now) c.in-Err.stop c.unchecked.result c.unchecked.ensures
    (λ reply is. barred_definition word a.standing.now (delete_relation a.name.now) a.catalog.now (knows a.known.now) c.requires.catalog tt reply
    (relation_barred word a.catalog.now a.name.now a.standing.now reply c.requires.writing
    (finds_refused c.in-Err.stop (or_else (needs_some a.name.now (relation_named a.name.now a.catalog.now.tables)) (reservation_refusal (reservations_of a.standing.now) (use_of true a.name.now ∷ []))) reply c.in-Err.ensures is)))

pub returns-clause-comes : goal.returns-clause-comes
returns-clause-comes c = λ word.
    let a = c.args in
    let reserved = (first_none (needs_some a.name.now (relation_named a.name.now a.catalog.now.tables)) (reservation_refusal (reservations_of a.standing.now) (use_of true a.name.now ∷ [])) c.in-Ok.ensures).1 in
    comes_of_deletes word a.standing.now (delete_relation a.name.now) a.catalog.now (knows a.known.now) c.requires.catalog tt
    (λ t. needs_some a.name.now (relation_named a.name.now t)) c.new-view.result c.delete_relation-end.new.view (ap (λ (o : Over). knows o.base) c.new-view.ensures.value) (ap (λ (o : Over). o.lines) c.new-view.ensures.value) c.new-view.ensures.stands
    (λ all t sound. deleting_relation word a.name.now a.standing.now t c.requires.writing reserved)
    c.delete_relation-end.result c.from_deletion.result c.written.result c.from_deletion.ensures c.written.ensures c.delete_relation-end.ensures.deletes

pub returns-clause-asked : goal.returns-clause-asked
returns-clause-asked c =
    let a = c.args in
    relation_asks a.standing.now a.catalog.now (knows a.known.now) c.requires.catalog c.new-view.result c.delete_relation-end.new.view (ap (λ (o : Over). o.lines) c.new-view.ensures.value) c.new-view.ensures.stands
    a.name.now c.requires.writing (first_none (needs_some a.name.now (relation_named a.name.now a.catalog.now.tables)) (reservation_refusal (reservations_of a.standing.now) (use_of true a.name.now ∷ [])) c.in-Ok.ensures).0
    c.delete_relation-end.result c.from_deletion.result c.written.result c.from_deletion.ensures c.written.ensures c.delete_relation-end.ensures.areas
