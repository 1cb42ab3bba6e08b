use Rattle.rdb_meaning.specs.Contents.{relation_named}
use Rattle.index_writes.proofs.Read.{rows_answer, some_there}
use Rattle.index_writes.proofs.Kept.{rows_kept}
use Rattle.index_writes.proofs.reading.read_rows.Goals as goal

pub unreachable-requires : goal.unreachable-requires
unreachable-requires c =
    let there = some_there (relation_named c.args.name.now c.args.schema.now.tables) c.requires in
    c.in_default.ensures.stored there.0 there.1

pub returns-clause-reads : goal.returns-clause-reads
returns-clause-reads c = rows_answer c.args.view.now c.args.schema.now c.args.name.now c.in-Some.target c.in-Some.ensures.target c.rows.result c.rows.ensures.rows c.rows.ensures.missing c.rows.ensures.bad

pub returns-clause-areas : goal.returns-clause-areas
returns-clause-areas c = rows_kept c.args.view.now c.args.schema.now c.args.name.now c.in-Some.target c.in-Some.ensures.target c.rows.result c.rows.ensures.missing
