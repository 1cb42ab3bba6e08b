use Rattle.std.proofs.Common.{◌-◌, arith}
use Rattle.rdb_tables.proofs.UniqueKeys.{index_more}
use Rattle.rdb_tables.proofs.unique.indexes_on.Goals as goal

pub loop-place-preserved-in-Continue-1 : goal.loop-place-preserved-in-Continue-1
loop-place-preserved-in-Continue-1 c =
    index_more c.args.indexes.now c.args.area (c.loop-place.place - 1) c.loop-place.place c.index-indexes-place.result c.loop-place.places c.put.new.self
    (omega arith) (omega arith) c.index-indexes-place.is (cc) c.loop-place.invariant (cc (c.in_ok-put.ensures.ok))
