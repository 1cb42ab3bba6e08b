use Rattle.line_seat.proofs.CommitSteps.{may_begin, none_put}
use Rattle.line_seat.proofs.laws.lines_may_be_put.Goals as goal

pub returns : goal.returns
returns g c = let v = g.D.Disk.view c.args.disk.now in λ now member o all group lines flight is of entered.
    record { facts = is.facts; done = (may_begin v now member o all lines is of, entered, none_put v.content lines) }
