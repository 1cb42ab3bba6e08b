use Rattle.std.proofs.Common.{subst, ◌∙◌}
use Rattle.rdb_drive.specs.Steps.{StepOf}
use Rattle.session_jobs.specs.declared.jobs.Job.{Job}
use Rattle.line_cluster.specs.Turned.{Sessions}
use Rattle.line_drive.specs.Boards.{board_of}
use Rattle.line_drive.proofs.driver.LineDriverDriven.give.Goals as goal

pub invariant_of-self : goal.invariant_of-self
invariant_of-self g c = rw c.take_back.ensures.same c.self.invariant

pub returns : goal.returns
returns g c =
    subst (λ (v : Sessions). StepOf {P = Job} g.O.Origin.sessions c.args.s.number (board_of g.O.Origin.told g.O.Origin.opening v) (board_of g.O.Origin.told g.O.Origin.opening c.turn.new.self) c.turn.result) (c.take_back.ensures.same ∙ c.self.view_is) c.turn.ensures.step
