use Rattle.std.proofs.Common.{subst, sym, ◌∙◌}
use Rattle.rdb_drive.specs.Steps.{RecoveryOf}
use Rattle.rdb_drive.specs.declared.driven.Step.{Step}
use Rattle.rdb_drive.specs.declared.driven.Step.TheVariants as step
use Rattle.session_jobs.specs.declared.jobs.Job.{Job}
use Rattle.line_cluster.specs.Turned.{Sessions}
use Rattle.line_drive.specs.Boards.{board_of}
use Rattle.line_drive.proofs.Counting.{driven-recovering}
use Rattle.line_drive.proofs.Dying.{recovered, recovery-spent}
use Rattle.line_drive.proofs.driver.LineDriverDriven.recover_step.Goals as goal

pub returns-then-is_halted : goal.returns-then-is_halted
returns-then-is_halted g c =
    subst (λ (v : Sessions). RecoveryOf {P = Job} g.O.Origin.sessions (board_of g.O.Origin.told g.O.Origin.opening v) (board_of g.O.Origin.told g.O.Origin.opening v) step.Stopped) c.self.view_is
    (recovery-spent g.O.Origin.told g.O.Origin.opening g.O.Origin.sessions c.self.inside.cluster (sym c.is_halted.ensures ∙ c.if-is_halted.true) c.facts.ensures.count c.facts.ensures.seated c.facts.ensures.locks)

pub invariant_of-self : goal.invariant_of-self
invariant_of-self g c = driven-recovering g.O.Origin.sessions c.self.inside.answers c.self.inside.cluster c.recover-turn.new.self c.recover-turn.result c.self.invariant c.recover-turn.ensures.came

pub returns : goal.returns
returns g c =
    subst (λ (v : Sessions). RecoveryOf {P = Job} g.O.Origin.sessions (board_of g.O.Origin.told g.O.Origin.opening v) (board_of g.O.Origin.told g.O.Origin.opening c.recover-turn.new.self) c.step_of.result) c.self.view_is
    (subst (λ (t : Step Job). RecoveryOf {P = Job} g.O.Origin.sessions (board_of g.O.Origin.told g.O.Origin.opening c.self.inside.cluster) (board_of g.O.Origin.told g.O.Origin.opening c.recover-turn.new.self) t) (sym c.step_of.ensures)
    (recovered g.O.Origin.told g.O.Origin.opening g.O.Origin.sessions c.self.inside.cluster c.recover-turn.new.self c.facts.ensures.bounds c.facts-2.ensures.bounds c.facts-2.ensures.count c.facts-2.ensures.seated c.facts-2.ensures.locks
    c.recover-turn.result (sym c.is_halted.ensures ∙ c.if-is_halted.false) c.recover-turn.ensures.came c.recover-turn.ensures.nearer))
