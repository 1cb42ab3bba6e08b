use Rattle.std.proofs.Common.{◌∙◌, ap}
use Rattle.line_cluster.specs.Asleep.{sleeps}
use Rattle.line_cluster.specs.Turned.{Sessions}
use Rattle.line_drive.proofs.driver.LineDriverDriven.is_asleep.Goals as goal

pub returns : goal.returns
returns g c = c.is_asleep.ensures ∙ ap (λ (v : Sessions). sleeps v c.args.s.number) c.self.view_is
