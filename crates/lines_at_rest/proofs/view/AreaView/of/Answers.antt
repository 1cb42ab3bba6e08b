use Rattle.lines_at_rest.proofs.Viewed.{view_agrees}
use Rattle.lines_at_rest.proofs.view.AreaView.of.Goals as goal

pub returns-clause-agrees : goal.returns-clause-agrees
returns-clause-agrees c = λ all sorted are. view_agrees c.args.area c.args.lines all sorted are
