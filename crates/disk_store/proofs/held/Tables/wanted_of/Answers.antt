use Rattle.std.proofs.Common.{arith}
use Rattle.std.proofs.lemmas.Option.{slice_get-get_or}
use Rattle.disk_store.proofs.Enough.{count-more, enough-more}
use Rattle.disk_store.proofs.held.Tables.wanted_of.Goals as goal

pub loop-key-preserved : goal.loop-key-preserved
loop-key-preserved c =
    let i = c.loop-key.key-index in
    let w = c.loop-key.wanted in
    let count = c.loop-key.invariant.0 in
    let more = count-more w c.used_in-file.result c.with_one-wanted.result c.with_one-wanted.ensures in (
      omega (arith, count, more),
      enough-more c.args.self.now c.args.keys.now i _ (slice_get-get_or c.args.keys.now i _ c.loop-key-test.true) w c.loop-key.invariant.1 c.used_in-file.result c.with_one-wanted.result c.with_one-wanted.ensures c.used_in-file.ensures.used c.used_in-file.ensures.never,
    )
