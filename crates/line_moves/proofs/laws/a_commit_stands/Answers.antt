use Rattle.line_store.specs.rdb_outside.Disk.{Pending}
use Rattle.line_moves.proofs.Commits.{lands_with}
use Rattle.line_moves.proofs.laws.a_commit_stands.Goals as goal

pub returns : goal.returns
returns g c = let v = g.D.Disk.view c.args.disk.now in λ now flight slot number lines tsn was is here. lands_with (Pending v) v.content c.requires.stable now flight slot number lines tsn was is here
