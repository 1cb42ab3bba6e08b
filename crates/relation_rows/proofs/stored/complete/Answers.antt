use Rattle.std.proofs.Common.{◌++◌, ◌-◌, ◌+◌, replicate, ap, ◌∙◌}
use Rattle.rdb_types.specs.declared.values.Value.{Value}
use Rattle.std.specs.Prelude.{List, length}
use Rattle.rdb_types.specs.declared.values.Value.TheVariants.{Missing}
use Rattle.relation_rows.proofs.Decoding.{one_missing_more}
use Rattle.relation_rows.proofs.stored.complete.Goals as goal

pub loop-preserved : goal.loop-preserved
loop-preserved c =
    ap (λ (row : List Value). row ++ replicate (length c.args.fields.now - (c.loop.counter + 1)) Missing) c.in_ok-push.ensures.ok
    ∙ (one_missing_more c.loop.row (length c.args.fields.now) c.loop.counter c.loop-test.true ∙ c.loop.invariant)
