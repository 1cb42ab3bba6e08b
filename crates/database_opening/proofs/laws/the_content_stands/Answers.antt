use Rattle.std.proofs.Common.{arith}
use Rattle.rdb_outside.specs.Disk.{Pending}
use Rattle.line_opening.proofs.of_stable_lines.Stands.{stands}
use Rattle.line_opening.proofs.of_line_moves.Runs.{pends}
use Rattle.database_opening.proofs.laws.the_content_stands.Goals as goal

pub returns : goal.returns
returns g c = let v = g.D.Disk.view c.args.disk.now in λ t now facts.
    let left = g.met.D.Disk.content_left c.args.disk.now v.moment t (omega arith) in
    stands (Pending v) now facts v.content (λ file slot. pends v left file slot)
