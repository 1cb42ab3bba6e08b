use Rattle.std.proofs.Common.{ap, sym, subst, ◌∙◌, length, arith}
use Rattle.std.specs.Prelude.{IfOk, IfErr}
use Rattle.std.specs.List.{AllByRecursion}
use Rattle.rdb_meaning.specs.Defining.{relation_names, with_relation}
use Rattle.catalog_lines.specs.Lines.{IsAllowedLine}
use Rattle.catalog_definitions.specs.Causes.{rooms_from, LacksRoom, StopsDefining}
use Rattle.catalog_definitions.specs.Written.{AreWritten, relation_lines}
use Rattle.catalog_definitions.specs.Leaving.{Turns}
use Rattle.catalog_definitions.proofs.LaidLines.{if_ok, stops_writing, stops_refused}
use Rattle.catalog_definitions.proofs.NewRelations.{sound, allowed_lines, count_relation_lines, turns, relation_found_behind, relation_is, count_fields, lines_behind}
use Rattle.catalog_definitions.proofs.relations.define_relation.Goals as goal

pub returns-in-Err-clause-stop : goal.returns-in-Err-clause-stop
returns-in-Err-clause-stop g c =
    let known = g.V.View.knows c.args.view.now in
    let n = c.args.name.now in
    let fs = c.args.fields.now in
    let before = c.args.catalog.now in
    let t = c.in_ok-tables.tables in
    let rooms = rooms_from 0 (relation_lines n fs before.tables) in
    subst (λ u. StopsDefining known (relation_names n fs u) rooms c.from_check.result) c.in_ok-tables.ensures
    (stops_refused (Unit {0}) known (relation_names n fs t) rooms t c.define_relation.new.tables (with_relation n fs t) c.in-Err.stop c.from_check.result c.in-Err.ensures c.from_check.ensures)

pub relation_named-requires : goal.relation_named-requires
relation_named-requires g c =
    relation_found_behind c.args.name.now c.args.fields.now c.in_ok-tables.tables c.define_relation.new.tables c.in-Ok.ensures.1

pub lines_of_relation-requires : goal.lines_of_relation-requires
lines_of_relation-requires g c =
    let n = c.args.name.now in
    let fs = c.args.fields.now in
    let t = c.in_ok-tables.tables in
    let rel = c.relation_named.result.now in
    count_fields fs t rel (relation_is n fs t c.define_relation.new.tables rel c.in-Ok.ensures.1 c.relation_named.ensures) c.requires.definition.count.1

pub write_lines-requires-clause-count : goal.write_lines-requires-clause-count
write_lines-requires-clause-count g c =
    let n = c.args.name.now in
    let fs = c.args.fields.now in
    let lines = lines_behind n fs c.args.catalog.now.tables c.in_ok-tables.tables c.define_relation.new.tables c.relation_named.result.now c.in_ok-lines.lines c.as_slice.result.now c.in_ok-tables.ensures c.in-Ok.ensures.1 c.relation_named.ensures c.in_ok-lines.ensures c.as_slice.ensures in
    omega (arith, ap length lines, count_relation_lines n fs c.args.catalog.now.tables, c.requires.definition.count.1)

pub write_lines-requires-clause-allowed : goal.write_lines-requires-clause-allowed
write_lines-requires-clause-allowed g c =
    let n = c.args.name.now in
    let fs = c.args.fields.now in
    let before = c.args.catalog.now in
    let lines = lines_behind n fs c.args.catalog.now.tables c.in_ok-tables.tables c.define_relation.new.tables c.relation_named.result.now c.in_ok-lines.lines c.as_slice.result.now c.in_ok-tables.ensures c.in-Ok.ensures.1 c.relation_named.ensures c.in_ok-lines.ensures c.as_slice.ensures in
    let refusal = ap (relation_names n fs) (sym c.in_ok-tables.ensures) ∙ c.in-Ok.ensures.0 in
    subst (AllByRecursion IsAllowedLine) (sym lines) (allowed_lines before n fs c.requires.catalog (sound n fs before.tables refusal) c.requires.definition)

pub returns-clause-stop : goal.returns-clause-stop
returns-clause-stop g c =
    let known = g.V.View.knows c.args.view.now in
    let n = c.args.name.now in
    let fs = c.args.fields.now in
    let before = c.args.catalog.now in
    let lines = lines_behind n fs c.args.catalog.now.tables c.in_ok-tables.tables c.define_relation.new.tables c.relation_named.result.now c.in_ok-lines.lines c.as_slice.result.now c.in_ok-tables.ensures c.in-Ok.ensures.1 c.relation_named.ensures c.in_ok-lines.ensures c.as_slice.ensures in
    let refusal = ap (relation_names n fs) (sym c.in_ok-tables.ensures) ∙ c.in-Ok.ensures.0 in
    stops_writing known (relation_names n fs before.tables) (rooms_from 0 (relation_lines n fs before.tables)) c.write_lines.result refusal
    (subst (λ ls. IfErr c.write_lines.result (LacksRoom known (rooms_from 0 ls))) lines c.write_lines.ensures.stop)

pub returns-clause-lines : goal.returns-clause-lines
returns-clause-lines g c =
    let known = g.V.View.knows c.args.view.now in
    let n = c.args.name.now in
    let fs = c.args.fields.now in
    let lines = lines_behind n fs c.args.catalog.now.tables c.in_ok-tables.tables c.define_relation.new.tables c.relation_named.result.now c.in_ok-lines.lines c.as_slice.result.now c.in_ok-tables.ensures c.in-Ok.ensures.1 c.relation_named.ensures c.in_ok-lines.ensures c.as_slice.ensures in
    subst (λ ls. IfOk c.write_lines.result (AreWritten known 0 ls)) lines c.write_lines.ensures.writes

pub returns-clause-tables : goal.returns-clause-tables
returns-clause-tables g c =
    let known = g.V.View.knows c.args.view.now in
    let n = c.args.name.now in
    let fs = c.args.fields.now in
    let before = c.args.catalog.now in
    let lines = lines_behind n fs c.args.catalog.now.tables c.in_ok-tables.tables c.define_relation.new.tables c.relation_named.result.now c.in_ok-lines.lines c.as_slice.result.now c.in_ok-tables.ensures c.in-Ok.ensures.1 c.relation_named.ensures c.in_ok-lines.ensures c.as_slice.ensures in
    let refusal = ap (relation_names n fs) (sym c.in_ok-tables.ensures) ∙ c.in-Ok.ensures.0 in
    if_ok (AreWritten known 0 (relation_lines n fs before.tables)) (Turns known before (with_relation n fs before.tables)) c.write_lines.result
    (λ writes written. turns known before n fs writes written (sound n fs before.tables refusal) c.requires.definition)
    (subst (λ ls. IfOk c.write_lines.result (AreWritten known 0 ls)) lines c.write_lines.ensures.writes)
