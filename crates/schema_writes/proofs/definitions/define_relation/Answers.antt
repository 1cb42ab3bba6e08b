use Rattle.std.proofs.Common.{rules}
use Rattle.schema_writes.proofs.Made.{relation_made, relation_stops}
use Rattle.rdb_meaning.specs.Defining.{relation_names}
use Rattle.catalog_definitions.specs.Written.{relation_lines}
use Rattle.schema_writes.proofs.Kept.{defined_keeps, defining_keeps}
use Rattle.schema_writes.proofs.definitions.define_relation.Goals as goal

pub returns-in-Err-clause-defines : goal.returns-in-Err-clause-defines
returns-in-Err-clause-defines c =
    relation_stops c.args.view.now c.args.view.now c.args.catalog.now c.args.name.now c.in-Err.stop c.known_stop.result c.known_stop.ensures c.args.fields.now c.in-Err.ensures.stop

pub returns-clause-defines : goal.returns-clause-defines
returns-clause-defines c =
    relation_made c.args.view.now c.put_all.new.view c.args.catalog.now c.args.name.now c.in-Ok.writes c.as_slice.result.now (search rules) c.in_ok-put_all.ensures.stands c.in_ok-put_all.ensures.laid c.args.fields.now
    c.requires.definition c.in-Ok.ensures.taken c.in-Ok.ensures.lines c.in-Ok.ensures.tables

pub returns-in-Err-clause-areas : goal.returns-in-Err-clause-areas
returns-in-Err-clause-areas c =
    defining_keeps c.args.view.now c.args.view.now c.args.catalog.now (relation_names c.args.name.now c.args.fields.now c.args.catalog.now.tables) (relation_lines c.args.name.now c.args.fields.now c.args.catalog.now.tables) c.in-Err.stop c.known_stop.result c.in-Err.ensures.stop c.known_stop.ensures

pub returns-clause-areas : goal.returns-clause-areas
returns-clause-areas c =
    defined_keeps c.args.view.now c.put_all.new.view c.args.catalog.now (relation_lines c.args.name.now c.args.fields.now c.args.catalog.now.tables) c.in-Ok.writes c.as_slice.result.now (search rules) c.in-Ok.ensures.lines c.in_ok-put_all.ensures.areas
