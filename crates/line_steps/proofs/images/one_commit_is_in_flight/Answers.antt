use Rattle.line_steps.proofs.Crashes.{one-in-flight}
use Rattle.line_steps.proofs.images.one_commit_is_in_flight.Goals as goal

pub returns : goal.returns
returns g c = one-in-flight g.S.Statements.stands
