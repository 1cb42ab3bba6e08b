use Rattle.catalog.proofs.Fields.{one_more}
use Rattle.catalog.specs.Schema.{fields_from}
use Rattle.catalog.proofs.schema.fields_from.Goals as goal

pub loop-position-preserved : goal.loop-position-preserved
loop-position-preserved c =
    let l = c.loop-position in
    rw c.in_ok-push.ensures.ok (one_more c.args.limit l.position c.args.relation c.args.directory.now.fields l.fields (fields_from c.args.limit c.args.relation 0 c.args.directory.now.fields) c.in-Some.found.now c.in_ok-copied.field-0 c.loop-position-test.true
    c.in-Some.ensures c.in_ok-copied.ensures l.invariant)
