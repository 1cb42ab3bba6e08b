use Rattle.rdb_tables.proofs.UniqueKeys.{texts_rank}
use Rattle.rdb_tables.proofs.unique.same_rank.Goals as goal

pub returns-in-Text-Text : goal.returns-in-Text-Text
returns-in-Text-Text c =
    texts_rank c.args.a.now c.args.b.now c.in-Text-Text.s c.in-Text-Text.t c.as_slice.result.now c.as_slice-in-Text-Text.result.now c.eq.result
    c.in-Text-Text.is-0 c.in-Text-Text.is-1 c.as_slice.ensures c.as_slice-in-Text-Text.ensures c.eq.ensures
