use Rattle.std.proofs.Common.{arith}
use Rattle.committed_tables.proofs.AtOpening.{begins_with}
use Rattle.committed_tables.proofs.laws.a_table_begins.Goals as goal

pub returns : goal.returns
returns g c = let v = g.D.Disk.view c.args.disk.now in λ base file table facts rests is.
    begins_with v (g.met.D.Disk.content_left c.args.disk.now v.moment c.requires (omega arith)) base facts rests file table is
