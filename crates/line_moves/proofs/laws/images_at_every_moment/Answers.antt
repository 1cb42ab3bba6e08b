use Rattle.line_moves.proofs.EveryMoment.{since_written}
use Rattle.line_moves.proofs.laws.images_at_every_moment.Goals as goal

pub returns : goal.returns
returns g c = let v = g.D.Disk.view in λ t file slot moment commits history now writes was is at within since. since_written (v c.args.before.now) (v c.args.after.now) file slot moment commits history now t writes was is at within since
