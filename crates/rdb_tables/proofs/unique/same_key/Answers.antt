use Rattle.std.proofs.Common.{◌∙◌, rules, arith}
use Rattle.rdb_tables.proofs.UniqueKeys.{keys_tie_on}
use Rattle.rdb_tables.proofs.unique.same_key.Goals as goal

pub loop-place-preserved : goal.loop-place-preserved
loop-place-preserved c =
    c.loop-place.invariant ∙ keys_tie_on c.args.places.now c.args.row.now c.args.other.now c.loop-place.place-index (omega arith) (search rules)
