use Rattle.std.proofs.Common.{subst}
use Rattle.backup_making.specs.declared.making.Backup.{Backup}
use Rattle.backup_making.specs.Making.{IsAt}
use Rattle.copied_lines.proofs.Growing.{done_steps}
use Rattle.whole_backup.proofs.steps.advance.Goals as goal

pub returns-in_default-clause-steps : goal.returns-in_default-clause-steps
returns-in_default-clause-steps g c = let v = g.D.Disk.view in done_steps c.args.backup.now.number (v c.args.disk.now) (v c.step.new.disk) c.step.result c.in_default.not-Failed c.step.ensures.steps

pub returns-in_default-clause-done : goal.returns-in_default-clause-done
returns-in_default-clause-done g c = λ t former lines at. c.step.ensures.done c.in_default.not-Failed t former lines at

pub returns-in_default-clause-moved : goal.returns-in_default-clause-moved
returns-in_default-clause-moved g c = c.step.ensures.moved c.in_default.not-Failed

pub returns-in-Failed-clause-not_done : goal.returns-in-Failed-clause-not_done
returns-in-Failed-clause-not_done g c = λ t former lines at.
    subst (λ (b : Backup). IsAt former (g.D.Disk.view c.step.new.disk) b lines) (c.step.ensures.stays c.in-Failed.is) (c.step.ensures.not_done c.in-Failed.is t former lines at)
