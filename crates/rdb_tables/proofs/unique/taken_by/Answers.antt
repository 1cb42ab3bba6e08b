use Rattle.rdb_meaning.specs.Contents.{is_taken}
use Rattle.rdb_tables.proofs.UniqueKeys.{first_of_places}
use Rattle.rdb_tables.proofs.unique.taken_by.Goals as goal

pub loop-place-init : goal.loop-place-init
loop-place-init c =
    first_of_places (λ places. is_taken places c.args.row.now c.args.own.now c.args.relation.now.rows) c.args.relation.now.area c.args.tables.now
    c.as_slice-indexes.result.now c.in_ok-places.places c.as_slice-place-items.result.now c.as_slice-indexes.ensures.value c.as_slice-place-items.ensures.value
    c.in_ok-places.ensures
